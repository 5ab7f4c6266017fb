use Rattle.farm_pick.proofs.Giving.{giving_follows}
use Rattle.farm_pick.proofs.laws.giving_follows.Goals as goal

pub returns : goal.returns
returns c = λ F d bs t sound low at found. giving_follows F d bs t sound low at found
