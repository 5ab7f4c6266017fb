use Rattle.farm_sound.proofs.Passed.{pass_is_short}
use Rattle.farm_sound.proofs.Served.{IsCollectorUnmet-step}
use Rattle.farm_sound.proofs.laws.collector_is_short.Goals as goal

pub returns-clause-pass : goal.returns-clause-pass
returns-clause-pass c = λ F caller sound. pass_is_short F sound

pub returns-clause-step : goal.returns-clause-step
returns-clause-step c = λ F call reply pass changed sound. IsCollectorUnmet-step F call reply pass changed sound
