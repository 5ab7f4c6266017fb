use Rattle.farm_keep.proofs.RestartLemmas.{run_all-joined}
use Rattle.farm_keep.proofs.laws.restarts_join.Goals as goal

pub returns : goal.returns
returns c = run_all-joined
