use Rattle.std.proofs.Common.{◌∙◌, ◌==◌, not, ap}
use Rattle.std.specs.List.{filter}
use Rattle.farm_pick.specs.Queued.{QueueLists}
use Rattle.farm_pick.proofs.Calls.{took}
use Rattle.farm_pick.proofs.queues.Queues.take_claim.Goals as goal

pub invariant_of-self : goal.invariant_of-self
invariant_of-self c = rw (c.take.ensures.kinds, c.take.ensures.idle) (record {
  well = (took c.self.inside.index.kinds.items c.self.inside.index.claims.entries c.self.inside.index.places.entries c.self.inside.index.idle.items c.self.invariant.well c.args.number c.take.new.self.claims.entries c.take.new.self.places.entries c.take.ensures.taken).0;
  several = c.take.ensures.several c.self.invariant.several;
})

pub returns : goal.returns
returns c =
    rw (c.take.ensures.kinds, c.take.ensures.idle) ((took c.self.inside.index.kinds.items c.self.inside.index.claims.entries c.self.inside.index.places.entries c.self.inside.index.idle.items c.self.invariant.well c.args.number c.take.new.self.claims.entries c.take.new.self.places.entries c.take.ensures.taken).1
    ∙ ap (λ (l : QueueLists). record { claims = filter (λ x. not (x.claim.number == c.args.number)) l.claims; boards = l.boards }) c.self.view_is)
