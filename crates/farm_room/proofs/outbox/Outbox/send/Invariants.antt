-- What was sent so far, and what is left.
use Rattle.std.proofs.Common.{◌-◌, length}
use Rattle.farm_room.specs.Waiting.{unsent, SendsSome}
use Rattle.farm_room.proofs.outbox.Outbox.send.Given as goal

abbrev pub invariant-loop-self : goal.invariant-loop-self
invariant-loop-self g l = SendsSome (g.W.Write.contents l.fn.writer) (g.W.Write.contents l.writer) (unsent l.fn.self) (unsent l.self)

abbrev pub decreases-loop-self : goal.decreases-loop-self
decreases-loop-self g l = length l.self.bytes.items - l.self.sent
