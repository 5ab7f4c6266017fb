use Rattle.std.proofs.Common.{◌∙◌, subst, sym}
use Rattle.farm_core.specs.Serving.{AreMisses, IsMissed}
use Rattle.farm_core.proofs.Skipping.{all_taken}
use Rattle.farm_core.proofs.tables.Tables.note_miss.Goals as goal

pub returns-in_ok-remember : goal.returns-in_ok-remember
returns-in_ok-remember c = λ F all missed.
    let it = c.in_ok-remember.ensures in
    subst (AreMisses F) (sym it.2) (subst (IsMissed F) (sym (it.1 ∙ c.in-Some.ensures.wants)) missed, all_taken F c.args.misses.now.items 7 all)
