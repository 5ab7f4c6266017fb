use Rattle.std.proofs.Common.{refl}
use Rattle.farm_types.specs.Names.{answer, change, early_refusal, is_tag, is_tags, is_word, least, own_refusal, refusal, step}
use Rattle.farm_worked.specs.WorkedWhole.{all_fourteen_commands, pass_on_empty_farm, same_type_twice, keyed_type_twice, last_moment}
use Rattle.farm_worked.proofs.laws.all_as_worked.Goals as goal

pub returns : goal.returns
unfolding all_fourteen_commands pass_on_empty_farm same_type_twice keyed_type_twice last_moment is_word is_tag is_tags least refusal early_refusal own_refusal change answer step
returns c = record {
  all_fourteen_commands_answers = refl;
  all_fourteen_commands_number_count = refl;
  all_fourteen_commands_number_clock = refl;
  all_fourteen_commands_number_next = refl;
  all_fourteen_commands_job_1 = refl;
  all_fourteen_commands_reservation_2 = refl;
  all_fourteen_commands_board__b1 = refl;
  pass_on_empty_farm_answers = refl;
  pass_on_empty_farm_number_count = refl;
  pass_on_empty_farm_number_clock = refl;
  same_type_twice_answers = refl;
  same_type_twice_number_count = refl;
  same_type_twice_number_clock = refl;
  keyed_type_twice_answers = refl;
  keyed_type_twice_number_count = refl;
  last_moment_answers = refl;
  last_moment_reservation_1 = refl;
  last_moment_number_count = refl;
}
