use Rattle.std.proofs.Common.{refl}
use Rattle.farm_types.specs.Names.{answer, change, early_refusal, is_tag, is_tags, is_word, least, own_refusal, refusal, step}
use Rattle.farm_worked.specs.Limits.{one_more_type, one_more_board, one_more_of_a_fifth_type, numbers_run_out, counting_ends, one_more_job}
use Rattle.farm_worked.proofs.laws.limits_as_worked.Goals as goal

pub returns : goal.returns
unfolding one_more_type one_more_board one_more_of_a_fifth_type numbers_run_out counting_ends one_more_job is_word is_tag is_tags least refusal early_refusal own_refusal change answer step
returns c = record {
  many_types_length = refl;
  one_more_type_answers = refl;
  one_more_type_leaves = refl;
  fewer_types_length = refl;
  fewer_types_answers = refl;
  one_more_board_answers = refl;
  one_more_board_length = refl;
  all_boards_length = refl;
  one_more_of_a_fifth_type_answers = refl;
  numbers_run_out_answers = refl;
  numbers_run_out_next = refl;
  numbers_run_out_jobs = refl;
  numbers_run_out_reservation = refl;
  numbers_run_out_kept = refl;
  counting_ends_answers = refl;
  counting_ends_count = refl;
  counting_ends_clock = refl;
  one_more_job_answers = refl;
  one_more_job_board = refl;
}
