use Rattle.std.proofs.Common.{◌∙◌}
use Rattle.farm_pick.proofs.Names.{is_eq}
use Rattle.farm_pick.specs.Several.{has_spot, spots_cmp}
use Rattle.farm_pick.proofs.Spots.{noted}
use Rattle.farm_pick.proofs.index.note.Goals as goal

pub returns-in_ok-_new-clause-ok : goal.returns-in_ok-_new-clause-ok
returns-in_ok-_new-clause-ok c = λ s.
    c.in_ok-_new.ensures.updates.0 (record { spot = s })
    ∙ noted (is_eq (spots_cmp c.args.spot s)) (has_spot c.args.several.now.keys s) c.args.boards c.if-boards-ge2.true
