use Rattle.farm_http.proofs.TakenLemmas.{request_is_taken as taken}
use Rattle.farm_http.proofs.laws.request_is_taken.Goals as goal

pub returns : goal.returns
returns c request rest used more head found = taken request rest used more head found
