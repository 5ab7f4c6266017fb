use Rattle.farm_pick.proofs.Headed.{claims_seen}
use Rattle.farm_pick.proofs.queues.Queues.claims.Goals as goal

pub returns : goal.returns
returns c =
    claims_seen c.self.inside.index.kinds.items c.self.inside.index.claims.entries c.self.inside.index.places.entries c.self.inside.index.idle.items c.self.invariant.well c.args.self.now c.self.view_is
    c.in_ok-claims.claims.items c.in_ok-claims.ensures.claims c.in_ok-claims.ensures.order
