use Rattle.farm_types.proofs.SortedTags.{rise_is}
use Rattle.farm_types.proofs.tags.rise.Goals as goal

pub returns : goal.returns
returns c = rise_is c.args.tags.now c.is_sorted.result c.is_sorted.ensures.0 c.is_sorted.ensures.1
