-- Nobody was cut without need.
use Rattle.std.proofs.Common.{length}
use Rattle.std.specs.VecDeque.{deque_items}
use Rattle.farm_room.proofs.RowLemmas.{IsCutting}
use Rattle.farm_room.proofs.row.cut_oldest.Given as goal

abbrev pub invariant-loop-row : goal.invariant-loop-row
invariant-loop-row l = IsCutting (deque_items l.fn.row) (deque_items l.row)

abbrev pub decreases-loop-row : goal.decreases-loop-row
decreases-loop-row l = length (deque_items l.row)
