-- Nobody is lost, whatever an accept came to.
use Rattle.std.proofs.Common.{ap, subst, sym}
use Rattle.std.specs.VecDeque.{deque_items}
use Rattle.farm_room.proofs.RowLemmas.{accepted_then, stay_same, StayAccepted}
use Rattle.farm_room.proofs.connections.Connections.accept_all.Goals.{in-Ok, in-Err, in-Err-2+else-refuse}
use Rattle.farm_room.proofs.connections.Connections.accept_all.Goals as goal

pub loop-preserved : goal.loop-preserved
loop-preserved c = elim c.match-accept.branch [
  | in-Ok w ↦ accepted_then c.args.self.now c.loop.self w.take_in.new.self c.match-accept.self w.self-is c.loop.invariant w.take_in.ensures.all w.take_in.ensures.ready
  | in-Err w ↦ subst (λ it. StayAccepted c.args.self.now it) (sym w.self-is) c.loop.invariant
  | in-Err-2+else-refuse w ↦ accepted_then c.args.self.now c.loop.self w.refuse.new.self c.match-accept.self w.self-is c.loop.invariant w.refuse.ensures.refuses.all (stay_same _ _ (ap deque_items w.refuse.ensures.ready))
]
