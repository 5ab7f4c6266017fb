-- Those that were ready stay.
use Rattle.std.proofs.lemmas.Result.{on_err_weaker}
use Rattle.std.specs.VecDeque.{deque_items}
use Rattle.farm_room.proofs.RowLemmas.{all_inserted}
use Rattle.farm_room.proofs.connections.take_in_more.Goals as goal

pub returns-clause-ready : goal.returns-clause-ready
returns-clause-ready c =
    all_inserted c.insert.result (deque_items c.args.ready.now) (deque_items c.insert.new.self) c.partition_point-place.result c.in-Some-remove.connection c.insert.ensures.items
    (on_err_weaker c.insert.result (λ same. same.0) c.insert.ensures.unchanged)
