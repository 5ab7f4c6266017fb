use Rattle.farm_sound.proofs.Passed.{pass_serves}
use Rattle.farm_sound.proofs.Served.{IsServed-step}
use Rattle.farm_sound.proofs.laws.pass_serves_all.Goals as goal

pub returns-clause-pass : goal.returns-clause-pass
returns-clause-pass c = λ F caller sound. pass_serves F sound

pub returns-clause-step : goal.returns-clause-step
returns-clause-step c = λ F call reply pass changed sound. IsServed-step F call reply pass changed sound
