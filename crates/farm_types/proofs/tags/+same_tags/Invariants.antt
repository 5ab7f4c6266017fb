use Rattle.std.proofs.Common.{length}
use Rattle.farm_types.proofs.tags.+same_tags.Given as goal

abbrev pub decreases-same_tags : goal.decreases-same_tags
decreases-same_tags l = length l.first.now
