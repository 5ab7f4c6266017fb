use Rattle.std.proofs.Common.{refl}
use Rattle.sqlite_trees.specs.View.{doubt}
use Rattle.farm_premises.proofs.first_edition.upgrades_can_be_met.Goals as goal

pub returns-in-Ok-make_farm-clause-first : goal.returns-in-Ok-make_farm-clause-first
unfolding doubt
returns-in-Ok-make_farm-clause-first c = c.in-Ok-make_farm.ensures.made refl
