-- It is put aside, or the others are cut without it.
use Rattle.std.proofs.Common.{ap}
use Rattle.std.specs.VecDeque.{deque_items}
use Rattle.farm_room.proofs.RowLemmas.{puts_aside}
use Rattle.farm_room.proofs.connections.Connections.send.Goals as goal

pub returns-in-Ok-Ok-clause-aside : goal.returns-in-Ok-Ok-clause-aside
returns-in-Ok-Ok-clause-aside g c =
    puts_aside _ _ _ _ (ap deque_items c.next_number-number.ensures.leaving) c.put_aside.ensures.cuts
