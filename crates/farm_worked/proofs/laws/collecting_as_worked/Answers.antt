use Rattle.std.proofs.Common.{refl}
use Rattle.farm_types.specs.Names.{answer, change, early_refusal, is_tag, is_tags, is_word, least, own_refusal, refusal, step}
use Rattle.farm_worked.specs.WorkedCollecting.{group_collects, collector_is_served, higher_group_collects_next, collector_is_canceled, one_pass_more}
use Rattle.farm_worked.specs.WorkedCollecting.{collector_is_not_started, collector_swaps, types_collect, types_are_served}
use Rattle.farm_worked.proofs.laws.collecting_as_worked.Goals as goal

pub returns : goal.returns
unfolding group_collects collector_is_served higher_group_collects_next collector_is_canceled one_pass_more collector_is_not_started collector_swaps types_collect types_are_served is_word is_tag is_tags least refusal early_refusal own_refusal change answer step
returns c = record {
  group_collects_answers = refl;
  group_collects_job_1 = refl;
  group_collects_job_2 = refl;
  group_collects_job_3 = refl;
  group_collects_board__b1 = refl;
  group_collects_collector = refl;
  collector_is_served_answers = refl;
  collector_is_served_job_1 = refl;
  collector_is_served_job_2 = refl;
  collector_is_served_job_3 = refl;
  collector_is_served_collector = refl;
  higher_group_answers = refl;
  higher_group_job_1 = refl;
  higher_group_job_2 = refl;
  higher_group_job_4 = refl;
  higher_group_job_5 = refl;
  higher_group_collector = refl;
  canceled_answers = refl;
  canceled_job_1 = refl;
  canceled_job_2 = refl;
  canceled_board__b1 = refl;
  canceled_collector = refl;
  canceled_job_3 = refl;
  not_started_answers = refl;
  swaps_first_job_1 = refl;
  swaps_first_collector = refl;
  swaps_answers = refl;
  swaps_job_1 = refl;
  swaps_job_2 = refl;
  types_answers = refl;
  types_job_1 = refl;
  types_job_2 = refl;
  types_collector = refl;
  types_served_answers = refl;
  types_served_job_1 = refl;
  types_served_job_2 = refl;
  types_served_job_3 = refl;
  types_served_reservation_4 = refl;
  types_served_collector = refl;
}
