use Rattle.std.specs.Option.{option_copied}
use Rattle.farm_pick.specs.Heads.{last_spot}
use Rattle.farm_pick.proofs.Spots.{several_seen}
use Rattle.farm_pick.proofs.queues.Queues.next_several.Goals as goal

pub returns : goal.returns
returns c =
    several_seen c.self.inside.index.kinds.items c.self.inside.index.claims.entries c.self.inside.index.places.entries c.self.inside.index.idle.items c.self.invariant.well c.args.self.now c.self.view_is
    c.last_spot.result (last_spot c.args.after) c.last_spot.ensures (option_copied c.first_several.result) c.first_several.ensures
