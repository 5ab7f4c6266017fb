use Rattle.std.proofs.Common.{◌∙◌}
use Rattle.farm_pick.proofs.Names.{is_eq}
use Rattle.farm_pick.specs.Several.{has_spot, spots_cmp}
use Rattle.farm_pick.proofs.Spots.{forgotten}
use Rattle.farm_pick.proofs.index.forget.Goals as goal

pub returns : goal.returns
returns c = λ s.
    c.remove-there.ensures.updates.0 (record { spot = s }) ∙ forgotten (is_eq (spots_cmp c.args.spot s)) (has_spot c.args.several.now.keys s)
