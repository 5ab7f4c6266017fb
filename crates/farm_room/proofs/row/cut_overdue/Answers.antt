-- The first goes, whose time is over.
use Rattle.std.specs.VecDeque.{deque_items}
use Rattle.farm_room.proofs.RowLemmas.{overdue_one}
use Rattle.farm_room.proofs.row.cut_overdue.Goals as goal

pub loop-now-preserved-in-loop-now : goal.loop-now-preserved-in-loop-now
loop-now-preserved-in-loop-now c =
    overdue_one c.args.now _ (deque_items c.loop-now.row) (deque_items c.pop_front.new.self) c.pop_front.ensures.rest (c.is_first_overdue.ensures.0 c.loop-now-test.true) c.loop-now.invariant
