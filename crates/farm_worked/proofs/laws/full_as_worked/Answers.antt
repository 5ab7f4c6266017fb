use Rattle.std.proofs.Common.{◌≡◌, ◌∷◌, [], length, refl}
use Rattle.farm_types.specs.Names.{answer, change, checks, Denied, early_refusal, is_tag, is_tags, is_word, least, own_refusal, refusal, Repeated, reply_of}
use Rattle.farm_types.specs.Names.{run, step}
use Rattle.farm_worked.specs.Worked.{answers, did}
use Rattle.farm_worked.specs.Full.{farm_of_jobs, with_due_board, with_reservations, with_kept, one_more_group, one_more_reservation, one_more_key, first_key}
use Rattle.farm_worked.specs.Full.{without_a_key}
use Rattle.farm_worked.proofs.laws.full_as_worked.Goals as goal

jobs_beyond : answers (farm_of_jobs 99999) one_more_group ≡ Denied 4 ∷ []
unfolding one_more_group is_word is_tag is_tags least refusal early_refusal own_refusal change answer step
jobs_beyond = refl

jobs_full : answers (farm_of_jobs 99998) one_more_group ≡ did 99999 ∷ []
unfolding one_more_group is_word is_tag is_tags least refusal early_refusal own_refusal change answer step
jobs_full = refl

jobs_full_length : length (run (farm_of_jobs 99998) one_more_group).jobs ≡ 100000
unfolding one_more_group is_word is_tag is_tags least refusal early_refusal own_refusal change answer step
jobs_full_length = refl

no_room_for_a_check : (checks (with_due_board 100000) 10).next ≡ 100001
no_room_for_a_check = refl

no_room_for_a_check_length : length (checks (with_due_board 100000) 10).jobs ≡ 100000
no_room_for_a_check_length = refl

room_for_one_check : (checks (with_due_board 99999) 10).next ≡ 100001
room_for_one_check = refl

room_for_one_check_length : length (checks (with_due_board 99999) 10).jobs ≡ 100000
room_for_one_check_length = refl

reservations_beyond : answers (with_reservations 100000) one_more_reservation ≡ Denied 4 ∷ []
unfolding one_more_reservation is_word is_tag is_tags least refusal early_refusal own_refusal change answer step
reservations_beyond = refl

reservations_full : answers (with_reservations 99999) one_more_reservation ≡ did 100000 ∷ []
unfolding one_more_reservation is_word is_tag is_tags least refusal early_refusal own_refusal change answer step
reservations_full = refl

reservations_full_length : length (run (with_reservations 99999) one_more_reservation).reservations ≡ 100000
unfolding one_more_reservation is_word is_tag is_tags least refusal early_refusal own_refusal change answer step
reservations_full_length = refl

kept_beyond : answers (with_kept 300000) one_more_key ≡ Denied 4 ∷ []
unfolding one_more_key is_word is_tag is_tags least refusal early_refusal own_refusal change answer step
kept_beyond = refl

kept_repeated : answers (with_kept 300000) first_key ≡ Repeated (reply_of 0 0 0) ∷ []
unfolding first_key is_word is_tag is_tags least refusal early_refusal own_refusal change answer step
kept_repeated = refl

kept_passed_by : answers (with_kept 300000) without_a_key ≡ did 0 ∷ []
unfolding without_a_key is_word is_tag is_tags least refusal early_refusal own_refusal change answer step
kept_passed_by = refl

pub returns : goal.returns
returns c = record {
  jobs_beyond = jobs_beyond;
  jobs_full = jobs_full;
  jobs_full_length = jobs_full_length;
  no_room_for_a_check = no_room_for_a_check;
  no_room_for_a_check_length = no_room_for_a_check_length;
  room_for_one_check = room_for_one_check;
  room_for_one_check_length = room_for_one_check_length;
  reservations_beyond = reservations_beyond;
  reservations_full = reservations_full;
  reservations_full_length = reservations_full_length;
  kept_beyond = kept_beyond;
  kept_repeated = kept_repeated;
  kept_passed_by = kept_passed_by;
}
