use Rattle.farm_http.proofs.Found.{head_is_found as found}
use Rattle.farm_http.proofs.laws.head_is_found.Goals as goal

pub returns : goal.returns
returns c = found
