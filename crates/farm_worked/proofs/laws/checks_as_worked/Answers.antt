use Rattle.std.proofs.Common.{refl}
use Rattle.farm_types.specs.Names.{answer, change, early_refusal, is_tag, is_tags, is_word, least, own_refusal, refusal, step}
use Rattle.farm_worked.specs.WorkedChecks.{check_goes_first, hours_since_the_last_check, jobs_since_the_last_check, check_in_maintenance}
use Rattle.farm_worked.proofs.laws.checks_as_worked.Goals as goal

pub returns : goal.returns
unfolding check_goes_first hours_since_the_last_check jobs_since_the_last_check check_in_maintenance is_word is_tag is_tags least refusal early_refusal own_refusal change answer step
returns c = record {
  check_goes_first_answers = refl;
  check_goes_first_board__b1 = refl;
  hours_since_the_last_check_answers = refl;
  jobs_since_the_last_check_answers = refl;
  jobs_since_the_last_check_board__b1 = refl;
  check_in_maintenance_board__b1 = refl;
}
