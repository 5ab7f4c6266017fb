use Rattle.std.proofs.Common.{◌≤◌}
use Rattle.farm_serve.proofs.Names.{doubt, state}
use Rattle.farm_serve.specs.Names.{ServesClients, ServesInTurn}
use Rattle.farm_serve.proofs.serving.serve.Given as goal

-- so many clients were served, and the keeper is open
abbrev pub invariant-loop : goal.invariant-loop
invariant-loop g l = record {
  clean : doubt (state g.S.Store l.fn.keeper.conn).is_clean ≤ doubt (state g.S.Store l.keeper.conn).is_clean;
  serves : ServesClients g.S.Store l.fn.keeper l.keeper l.counter;
  connections : ServesInTurn g.S.Store g.K.Reader.Input.never_fails (g.K.Clients.client_list l.fn.clients) (g.K.Clients.client_list l.clients) l.fn.keeper l.keeper l.counter (Unit {0});
}
