use Rattle.std.proofs.Common.{arith}
use Rattle.farm_room.proofs.connections.Connections.poll_events.Goals as goal

pub loop-event-preserved : goal.loop-event-preserved
loop-event-preserved c = (
  λ few. omega (arith, c.loop-event.invariant.0 few, c.take_in_more-lost.ensures.all, c.saturating_add-self.ensures, few),
  λ one is. c.take_in_more-lost.ensures.ready one (c.loop-event.invariant.1 one is),
)

pub returns-clause-all : goal.returns-clause-all
returns-clause-all c = c.loop-event.invariant.0

pub returns-clause-ready : goal.returns-clause-ready
returns-clause-ready c = c.loop-event.invariant.1
