-- Nobody was cut whose time was not over.
use Rattle.std.proofs.Common.{length}
use Rattle.std.specs.VecDeque.{deque_items}
use Rattle.farm_room.proofs.RowLemmas.{AreOverdue}
use Rattle.farm_room.proofs.row.cut_overdue.Given as goal

abbrev pub invariant-loop-now : goal.invariant-loop-now
invariant-loop-now l = AreOverdue l.now (deque_items l.fn.row) (deque_items l.row)

abbrev pub decreases-loop-now : goal.decreases-loop-now
decreases-loop-now l = length (deque_items l.row)
