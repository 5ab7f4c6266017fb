use Rattle.std.specs.VecDeque.{deque_items}
use Rattle.farm_room.specs.Waiting.{AllStay, LosesNobody}
use Rattle.farm_room.proofs.connections.Connections.next_connection.Given as goal

abbrev pub invariant-loop : goal.invariant-loop
invariant-loop g l = LosesNobody l.fn.self l.self × AllStay (deque_items l.fn.self.ready) (deque_items l.self.ready)
