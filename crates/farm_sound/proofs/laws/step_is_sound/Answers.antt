use Rattle.farm_sound.proofs.Step.{IsSound-step}
use Rattle.farm_sound.proofs.laws.step_is_sound.Goals as goal

pub returns : goal.returns
returns c = IsSound-step
