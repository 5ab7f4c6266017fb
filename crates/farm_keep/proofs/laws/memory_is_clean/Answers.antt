use Rattle.std.proofs.Common.{refl}
use Rattle.sqlite_trees.specs.View.{doubt}
use Rattle.farm_keep.proofs.laws.memory_is_clean.Goals as goal

pub returns : goal.returns
unfolding doubt
returns c = λ h. refl
