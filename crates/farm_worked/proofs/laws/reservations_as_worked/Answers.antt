use Rattle.std.proofs.Common.{refl}
use Rattle.farm_types.specs.Names.{answer, change, early_refusal, is_tag, is_tags, is_word, least, own_refusal, refusal, step}
use Rattle.farm_worked.specs.WorkedReservations.{reservation_before_job, lease_ends, acquire_at_deadline, clock_never_falls_back, acquired_outlives_deadline}
use Rattle.farm_worked.specs.WorkedReservations.{refreshed_too_late, canceled_and_expired, cancel_an_acquired_one}
use Rattle.farm_worked.proofs.laws.reservations_as_worked.Goals as goal

pub returns : goal.returns
unfolding reservation_before_job lease_ends acquire_at_deadline clock_never_falls_back acquired_outlives_deadline refreshed_too_late canceled_and_expired cancel_an_acquired_one is_word is_tag is_tags least refusal early_refusal own_refusal change answer step
returns c = record {
  reservation_before_job_reservation_1 = refl;
  reservation_before_job_job_2 = refl;
  lease_ends_answers = refl;
  lease_ends_reservation_1 = refl;
  lease_ends_board__b1 = refl;
  acquire_at_deadline_answers = refl;
  acquire_at_deadline_number_clock = refl;
  acquire_at_deadline_reservation_1 = refl;
  clock_never_falls_back_reservation_1 = refl;
  clock_never_falls_back_number_clock = refl;
  acquired_outlives_deadline_answers = refl;
  acquired_outlives_deadline_reservation_1 = refl;
  refreshed_too_late_answers = refl;
  canceled_and_expired_answers = refl;
  cancel_an_acquired_one_reservation_1 = refl;
  cancel_an_acquired_one_board__b1 = refl;
}
