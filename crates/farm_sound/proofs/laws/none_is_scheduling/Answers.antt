use Rattle.farm_sound.proofs.Collecting.{none_scheduling}
use Rattle.farm_sound.proofs.laws.none_is_scheduling.Goals as goal

pub returns : goal.returns
returns c = λ F sound none. none_scheduling F.collector F.jobs none sound.collecting
