use Rattle.std.specs.VecDeque.{deque_items}
use Rattle.farm_room.specs.Waiting.{LosesNobody, Stay}
use Rattle.farm_room.proofs.connections.Connections.accept_all.Given as goal

abbrev pub invariant-loop : goal.invariant-loop
invariant-loop l = LosesNobody l.fn.self l.self × Stay (deque_items l.fn.self.ready) (deque_items l.self.ready)
