use Rattle.std.proofs.Common.{refl}
use Rattle.farm_types.specs.Names.{answer, change, early_refusal, is_tag, is_tags, is_word, least, own_refusal, refusal, step}
use Rattle.farm_worked.specs.WorkedJobs.{higher_priority_first, least_list_by_tag, least_of_three_boards, cancel_half_of_a_group, cancel_before_the_start}
use Rattle.farm_worked.specs.WorkedJobs.{retire_a_held_board, more_boards_than_there_are, wrong_callers_and_rows}
use Rattle.farm_worked.proofs.laws.jobs_as_worked.Goals as goal

pub returns : goal.returns
unfolding higher_priority_first least_list_by_tag least_of_three_boards cancel_half_of_a_group cancel_before_the_start retire_a_held_board more_boards_than_there_are wrong_callers_and_rows is_word is_tag is_tags least refusal early_refusal own_refusal change answer step
returns c = record {
  higher_priority_first_board__b1 = refl;
  higher_priority_first_job_1 = refl;
  least_list_by_tag_job_1 = refl;
  least_list_by_tag_job_2 = refl;
  least_of_three_boards_job_1 = refl;
  least_of_three_boards_job_2 = refl;
  cancel_half_of_a_group_job_1 = refl;
  cancel_half_of_a_group_job_2 = refl;
  cancel_half_of_a_group_board__b2 = refl;
  cancel_before_the_start_job_1 = refl;
  cancel_before_the_start_job_2 = refl;
  cancel_before_the_start_board__b1 = refl;
  cancel_before_the_start_board__b2 = refl;
  cancel_before_the_start_answers = refl;
  retire_a_held_board_answers = refl;
  more_boards_than_there_are_answers = refl;
  more_boards_than_there_are_number_next = refl;
  wrong_callers_and_rows_answers = refl;
}
