use Rattle.farm_types.proofs.SortedTags.{tags_read_back, tags_read_only}
use Rattle.farm_types.proofs.laws.tags_read_back.Goals as goal

pub returns-clause-back : goal.returns-clause-back
returns-clause-back c = tags_read_back

pub returns-clause-only : goal.returns-clause-only
returns-clause-only c = tags_read_only
