use Rattle.farm_types.specs.Names.{empty_farm}
use Rattle.farm_sound.proofs.Numbers.{IsSound-empty}
use Rattle.farm_sound.proofs.Step.{IsSound-run}
use Rattle.farm_sound.proofs.laws.run_is_sound.Goals as goal

pub returns-clause-empty : goal.returns-clause-empty
returns-clause-empty c = IsSound-empty

pub returns-clause-run : goal.returns-clause-run
returns-clause-run c = λ F calls sound. IsSound-run calls F sound

pub returns-clause-from_empty : goal.returns-clause-from_empty
returns-clause-from_empty c = λ calls. IsSound-run calls empty_farm IsSound-empty
