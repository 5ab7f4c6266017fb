use Rattle.farm_pick.specs.Heads.{last_spot}
use Rattle.farm_pick.proofs.Headed.{heads_of_well, heads_seen}
use Rattle.farm_pick.proofs.queues.Queues.heads.Goals as goal

pub invariant_of-result : goal.invariant_of-result
invariant_of-result c =
    heads_of_well c.self.inside.index.kinds.items c.self.inside.index.claims.entries c.self.inside.index.places.entries c.self.inside.index.idle.items c.self.invariant.well

pub returns : goal.returns
returns c =
    heads_seen c.self.inside.index.kinds.items c.self.inside.index.claims.entries c.self.inside.index.places.entries c.self.inside.index.idle.items c.self.invariant.well c.args.all c.args.self.now c.self.view_is
    c.last_spot.result (last_spot c.args.after) c.last_spot.ensures
