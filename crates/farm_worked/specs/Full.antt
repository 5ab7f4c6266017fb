-- Worked scripts at the greatest tables: 100,000 jobs, 100,000 reservations and 300,000 kept replies.
use Rattle.std.specs.Prelude.{◌≡◌, ℕ, ◌+◌, ◌/◌, ◌%◌, List, [], ◌∷◌, map, length, Some, None, codes, refl}
use Rattle.std.specs.List.{range_with_len}
use Rattle.std.specs.Str.{is_utf8, chars}
use Rattle.farm_types.specs.Names.{checks, Denied, empty_farm, Farm, is_proper_cmd, is_tag, is_tags, is_word, new_job, new_res, Repeated, reply_of, run}
use Rattle.farm_types.specs.declared.calls.Call.{Call}
use Rattle.farm_types.specs.declared.rows.Check.{Check}
use Rattle.farm_types.specs.declared.calls.Cmd.{Cmd}
use Rattle.farm_types.specs.declared.rows.Health.{Health}
use Rattle.farm_types.specs.declared.rows.JobRow.{JobRow}
use Rattle.farm_types.specs.declared.rows.JobState.{JobState}
use Rattle.farm_types.specs.declared.rows.KeptRow.{KeptRow}
use Rattle.farm_types.specs.declared.rows.Outcome.{Outcome}
use Rattle.farm_types.specs.declared.rows.ResRow.{ResRow}
use Rattle.farm_types.specs.declared.rows.ResState.{ResState}
use Rattle.farm_worked.specs.Worked.{answers, call_under, did, by_admin, by_ann, new_type, a_board, pair, any_board}
use Rattle.farm_worked.specs.Limits.{board_named}

-- canceled before they had a board
abbrev pub ended_job : ℕ → JobRow
ended_job n = record (new_job n n (codes "ann") 50 (a_board []) None []) { state = JobState.Finished; outcome = Some Outcome.Canceled }

abbrev pub farm_of_jobs : ℕ → Farm
farm_of_jobs n = record empty_farm {
  types = record { name = codes "bbb"; check = Check.Never } ∷ [];
  boards = board_named (codes "bbb") (codes "b1") ∷ board_named (codes "bbb") (codes "b2") ∷ [];
  jobs = map ended_job (range_with_len 1 n);
  next = n + 1;
}

-- a group is added whole or refused
unfoldable pub one_more_group : List Call
unfolding is_proper_cmd is_word is_tag is_tags is_utf8 chars
one_more_group =
    by_ann 10 (pair []) refl
    ∷ []

-- a board that is due, and jobs that ended
abbrev pub with_due_board : ℕ → Farm
with_due_board n = record (farm_of_jobs n) {
  types = record { name = codes "bbb"; check = Check.Hours 1 } ∷ [];
  boards = record (board_named (codes "bbb") (codes "b1")) { health = Health.Unknown } ∷ [];
}

abbrev pub ended_reservation : ℕ → ResRow
ended_reservation n = record (new_res n (codes "ann") 50 [] 60) { state = ResState.Canceled }

abbrev pub with_reservations : ℕ → Farm
with_reservations n = record (farm_of_jobs 0) { reservations = map ended_reservation (range_with_len 1 n); next = n + 1 }

unfoldable pub one_more_reservation : List Call
unfolding is_proper_cmd is_word is_tag is_tags is_utf8 chars
one_more_reservation =
    by_ann 10 any_board refl
    ∷ []

-- a number in six digits, as a key
abbrev pub digit : ℕ → ℕ
digit n = 48 + n % 10

abbrev pub six_digits : ℕ → List ℕ
six_digits n = digit (n / 100000) ∷ digit (n / 10000) ∷ digit (n / 1000) ∷ digit (n / 100) ∷ digit (n / 10) ∷ digit n ∷ []

abbrev pub kept_pass : ℕ → KeptRow
kept_pass n = record { caller = codes "dispatcher"; key = six_digits n; kind = 14; reply = reply_of 0 0 0 }

abbrev pub with_kept : ℕ → Farm
with_kept n = record empty_farm { kept = map kept_pass (range_with_len 1 n); count = n }

-- no reply more is kept, but kept ones are answered, and calls without a key are accepted
unfoldable pub one_more_key : List Call
unfolding is_proper_cmd is_word is_tag is_tags is_utf8 chars
one_more_key =
    call_under (codes "admin") (codes "k1") 10 (new_type Check.Never) refl
    ∷ []

unfoldable pub first_key : List Call
unfolding is_proper_cmd is_word is_tag is_tags is_utf8 chars
first_key =
    call_under (codes "dispatcher") (codes "000001") 10 Cmd.Pass refl
    ∷ []

unfoldable pub without_a_key : List Call
unfolding is_proper_cmd is_word is_tag is_tags is_utf8 chars
without_a_key =
    by_admin 10 (new_type Check.Never) refl
    ∷ []

-- what each script answers and leaves
pub record FullAsWorked : Type 0 where
  pub jobs_beyond : answers (farm_of_jobs 99999) one_more_group ≡ Denied 4 ∷ []
  pub jobs_full : answers (farm_of_jobs 99998) one_more_group ≡ did 99999 ∷ []
  pub jobs_full_length : length (run (farm_of_jobs 99998) one_more_group).jobs ≡ 100000
  pub no_room_for_a_check : (checks (with_due_board 100000) 10).next ≡ 100001
  pub no_room_for_a_check_length : length (checks (with_due_board 100000) 10).jobs ≡ 100000
  pub room_for_one_check : (checks (with_due_board 99999) 10).next ≡ 100001
  pub room_for_one_check_length : length (checks (with_due_board 99999) 10).jobs ≡ 100000
  pub reservations_beyond : answers (with_reservations 100000) one_more_reservation ≡ Denied 4 ∷ []
  pub reservations_full : answers (with_reservations 99999) one_more_reservation ≡ did 100000 ∷ []
  pub reservations_full_length : length (run (with_reservations 99999) one_more_reservation).reservations ≡ 100000
  pub kept_beyond : answers (with_kept 300000) one_more_key ≡ Denied 4 ∷ []
  pub kept_repeated : answers (with_kept 300000) first_key ≡ Repeated (reply_of 0 0 0) ∷ []
  pub kept_passed_by : answers (with_kept 300000) without_a_key ≡ did 0 ∷ []
