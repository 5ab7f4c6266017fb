use Rattle.std.proofs.lemmas.List.Sums.{fold-append}
use Rattle.farm_types.specs.Names.{step}
use Rattle.farm_keep.proofs.RestartLemmas.{answers_of-append}
use Rattle.farm_keep.proofs.laws.runs_join.Goals as goal

pub returns : goal.returns
returns c = record { farm = λ F first second. fold-append step F first second; answers = answers_of-append }
