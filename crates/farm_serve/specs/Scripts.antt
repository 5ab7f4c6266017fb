-- Scripted clients as clients that are known.
use Rattle.std.specs.Prelude.{map, vec_capacity, Some}
use Rattle.std.specs.Vec.Iter.{into_iter_items}
use Rattle.farm_serve.specs.Clients.{Arrival, Departure, ClientList}
use Rattle.farm_serve.specs.declared.scripted_clients.ServedClient.{ServedClient}
use Rattle.farm_serve.specs.declared.scripted_clients.list.ScriptedClients.{ScriptedClients}
use Rattle.farm_serve.specs.declared.scripted_clients.ScriptedClient.{ScriptedClient}

-- its request is all that it sends, and it is answered in a vector
abbrev pub arrival_of : ScriptedClient → Arrival
arrival_of sent = record {
  now = sent.now;
  input = Some sent.bytes.now;
  output = Some sent.answer.items;
  capacity = Some (vec_capacity sent.answer);
}

-- what it sent beyond its request, and what it was answered
abbrev pub departure_of : ServedClient → Departure
departure_of served = record { input = Some served.rest.now; output = Some served.answer.items }

abbrev pub client_list_of : ScriptedClients → ClientList
client_list_of clients = record {
  waiting = map arrival_of (into_iter_items clients.waiting);
  served = map departure_of clients.served.items;
}
