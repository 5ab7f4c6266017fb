-- Who waits stays, and the new one may come behind them.
use Rattle.std.proofs.Common.{ap}
use Rattle.std.specs.VecDeque.{deque_items}
use Rattle.farm_room.proofs.RowLemmas.{stay_same, stay_push}
use Rattle.farm_room.proofs.connections.Connections.add.Goals as goal

pub returns-in-Done-clause-others : goal.returns-in-Done-clause-others
returns-in-Done-clause-others c = stay_same _ _ (ap deque_items c.next_number-number.ensures.incomplete)

pub returns-in-NoMemory-clause-others : goal.returns-in-NoMemory-clause-others
returns-in-NoMemory-clause-others c = stay_same _ _ (ap deque_items c.next_number-number.ensures.incomplete)

pub returns-in_err-ok-2-clause-others : goal.returns-in_err-ok-2-clause-others
returns-in_err-ok-2-clause-others c = stay_same _ _ (ap deque_items c.next_number-number.ensures.incomplete)

pub returns-clause-others : goal.returns-clause-others
returns-clause-others c = stay_push _ _ _ _ _ (ap deque_items c.next_number-number.ensures.incomplete) c.push_back-2.ensures.items

pub returns-in-Done-clause-ready : goal.returns-in-Done-clause-ready
returns-in-Done-clause-ready c = stay_push _ _ _ _ _ (ap deque_items c.next_number-number.ensures.ready) c.push_back.ensures.items

pub returns-in-NoMemory-clause-ready : goal.returns-in-NoMemory-clause-ready
returns-in-NoMemory-clause-ready c = stay_same _ _ (ap deque_items c.next_number-number.ensures.ready)

pub returns-in_err-ok-2-clause-ready : goal.returns-in_err-ok-2-clause-ready
returns-in_err-ok-2-clause-ready c = stay_same _ _ (ap deque_items c.next_number-number.ensures.ready)

pub returns-clause-ready : goal.returns-clause-ready
returns-clause-ready c = stay_same _ _ (ap deque_items c.next_number-number.ensures.ready)
