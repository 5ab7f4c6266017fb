-- Worked scripts of reservations.
use Rattle.std.specs.Prelude.{◌≡◌, List, [], ◌∷◌, Some, None, codes, refl}
use Rattle.std.specs.Str.{is_utf8, chars}
use Rattle.farm_types.specs.Names.{Denied, empty_farm, is_proper_cmd, is_tag, is_tags, is_word, run}
use Rattle.farm_types.specs.declared.calls.Call.{Call}
use Rattle.farm_types.specs.declared.rows.Check.{Check}
use Rattle.farm_types.specs.declared.calls.Cmd.{Cmd}
use Rattle.farm_types.specs.declared.rows.Health.{Health}
use Rattle.farm_types.specs.declared.rows.Holder.{Holder}
use Rattle.farm_types.specs.declared.rows.JobState.{JobState}
use Rattle.farm_types.specs.declared.rows.ResState.{ResState}
use Rattle.farm_types.specs.declared.rows.State.{State}
use Rattle.farm_worked.specs.Worked.{answers, job_shows, res_shows, board_shows, did, passed, by_admin, by_dispatcher, by_ann, by_bob, new_type, new_board, set}
use Rattle.farm_worked.specs.Worked.{single, any_board}

-- reservations and jobs stand in one queue
unfoldable pub reservation_before_job : List Call
unfolding is_proper_cmd is_word is_tag is_tags is_utf8 chars
reservation_before_job =
    by_admin 10 (new_type Check.Never) refl
    ∷ by_admin 10 (new_board (codes "b1") []) refl
    ∷ by_admin 10 (set (codes "b1") Health.Good) refl
    ∷ by_ann 20 (Cmd.Reserve 50 (codes "name=b1" ∷ [])) refl
    ∷ by_bob 20 (single 50) refl
    ∷ by_dispatcher 30 Cmd.Pass refl
    ∷ []

-- a refresh moves the deadline, and a pass at the deadline ends the lease
unfoldable pub lease_ends : List Call
unfolding is_proper_cmd is_word is_tag is_tags is_utf8 chars
lease_ends =
    by_admin 10 (new_type Check.Never) refl
    ∷ by_admin 10 (new_board (codes "b1") []) refl
    ∷ by_admin 10 (set (codes "b1") Health.Good) refl
    ∷ by_ann 90 any_board refl
    ∷ by_dispatcher 95 Cmd.Pass refl
    ∷ by_ann 100 (Cmd.Refresh 1) refl
    ∷ by_dispatcher 159 Cmd.Pass refl
    ∷ by_dispatcher 160 Cmd.Pass refl
    ∷ []

-- at its deadline a lease is dead for everyone, before any pass
unfoldable pub acquire_at_deadline : List Call
unfolding is_proper_cmd is_word is_tag is_tags is_utf8 chars
acquire_at_deadline =
    by_admin 10 (new_type Check.Never) refl
    ∷ by_admin 10 (new_board (codes "b1") []) refl
    ∷ by_admin 10 (set (codes "b1") Health.Good) refl
    ∷ by_ann 90 any_board refl
    ∷ by_dispatcher 95 Cmd.Pass refl
    ∷ by_ann 100 (Cmd.Refresh 1) refl
    ∷ by_ann 160 (Cmd.Acquire 1) refl
    ∷ []

-- a moment before the clock counts as the clock
unfoldable pub clock_never_falls_back : List Call
unfolding is_proper_cmd is_word is_tag is_tags is_utf8 chars
clock_never_falls_back =
    by_admin 100 (new_type Check.Never) refl
    ∷ by_admin 50 (new_board (codes "b1") []) refl
    ∷ by_admin 50 (set (codes "b1") Health.Good) refl
    ∷ by_ann 50 any_board refl
    ∷ []

-- only its owner acquires a reservation, and an acquired one never dies
unfoldable pub acquired_outlives_deadline : List Call
unfolding is_proper_cmd is_word is_tag is_tags is_utf8 chars
acquired_outlives_deadline =
    by_admin 10 (new_type Check.Never) refl
    ∷ by_admin 10 (new_board (codes "b1") []) refl
    ∷ by_admin 10 (set (codes "b1") Health.Good) refl
    ∷ by_ann 60 any_board refl
    ∷ by_dispatcher 70 Cmd.Pass refl
    ∷ by_bob 80 (Cmd.Acquire 1) refl
    ∷ by_admin 80 (Cmd.Acquire 1) refl
    ∷ by_ann 100 (Cmd.Acquire 1) refl
    ∷ by_dispatcher 400 Cmd.Pass refl
    ∷ by_ann 500 (Cmd.Release 1) refl
    ∷ []

-- a reservation that waits to its deadline can not be refreshed; another can not be acquired while it waits
unfoldable pub refreshed_too_late : List Call
unfolding is_proper_cmd is_word is_tag is_tags is_utf8 chars
refreshed_too_late =
    by_admin 10 (new_type Check.Never) refl
    ∷ by_admin 10 (new_board (codes "b1") []) refl
    ∷ by_ann 20 any_board refl
    ∷ by_ann 80 (Cmd.Refresh 1) refl
    ∷ by_ann 80 any_board refl
    ∷ by_ann 81 (Cmd.Acquire 2) refl
    ∷ by_bob 81 (Cmd.Refresh 2) refl
    ∷ by_ann 81 (Cmd.Refresh 7) refl
    ∷ []

-- a canceled reservation is in the wrong state, an expired one is expired
unfoldable pub canceled_and_expired : List Call
unfolding is_proper_cmd is_word is_tag is_tags is_utf8 chars
canceled_and_expired =
    by_admin 10 (new_type Check.Never) refl
    ∷ by_admin 10 (new_board (codes "b1") []) refl
    ∷ by_ann 20 any_board refl
    ∷ by_ann 21 (Cmd.CancelRes 1) refl
    ∷ by_ann 22 (Cmd.CancelRes 1) refl
    ∷ by_ann 30 any_board refl
    ∷ by_dispatcher 90 Cmd.Pass refl
    ∷ by_ann 91 (Cmd.CancelRes 2) refl
    ∷ by_ann 91 (Cmd.Release 1) refl
    ∷ []

-- a canceled reservation frees its board and keeps its name
unfoldable pub cancel_an_acquired_one : List Call
unfolding is_proper_cmd is_word is_tag is_tags is_utf8 chars
cancel_an_acquired_one =
    by_admin 10 (new_type Check.Never) refl
    ∷ by_admin 10 (new_board (codes "b1") []) refl
    ∷ by_admin 10 (set (codes "b1") Health.Good) refl
    ∷ by_ann 20 any_board refl
    ∷ by_dispatcher 30 Cmd.Pass refl
    ∷ by_ann 40 (Cmd.Acquire 1) refl
    ∷ by_admin 50 (Cmd.CancelRes 1) refl
    ∷ []

-- what each script answers and leaves
pub record AllReservationsAsWorked : Type 0 where
  pub reservation_before_job_reservation_1 : res_shows (run empty_farm reservation_before_job) 1 ≡ Some (ResState.Allocated, Some (codes "b1"), 90)
  pub reservation_before_job_job_2 : job_shows (run empty_farm reservation_before_job) 2 ≡ Some (JobState.Submitted, None, None)
  pub lease_ends_answers : answers empty_farm lease_ends ≡ did 0 ∷ did 0 ∷ did 0 ∷ did 1 ∷ passed 0 0 1 ∷ did 1 ∷ passed 0 0 0 ∷ passed 0 1 0 ∷ []
  pub lease_ends_reservation_1 : res_shows (run empty_farm lease_ends) 1 ≡ Some (ResState.Expired, Some (codes "b1"), 160)
  pub lease_ends_board__b1 : board_shows (run empty_farm lease_ends) (codes "b1") ≡ Some (Health.Good, State.Idle, Holder.Nobody, 0, 0)
  pub acquire_at_deadline_answers : answers empty_farm acquire_at_deadline ≡ did 0 ∷ did 0 ∷ did 0 ∷ did 1 ∷ passed 0 0 1 ∷ did 1 ∷ Denied 31 ∷ []
  pub acquire_at_deadline_number_clock : (run empty_farm acquire_at_deadline).clock ≡ 100
  pub acquire_at_deadline_reservation_1 : res_shows (run empty_farm acquire_at_deadline) 1 ≡ Some (ResState.Allocated, Some (codes "b1"), 160)
  pub clock_never_falls_back_reservation_1 : res_shows (run empty_farm clock_never_falls_back) 1 ≡ Some (ResState.Waiting, None, 160)
  pub clock_never_falls_back_number_clock : (run empty_farm clock_never_falls_back).clock ≡ 100
  pub acquired_outlives_deadline_answers : answers empty_farm acquired_outlives_deadline ≡ did 0 ∷ did 0 ∷ did 0 ∷ did 1 ∷ passed 0 0 1 ∷ Denied 3 ∷ Denied 3 ∷ did 1 ∷ passed 0 0 0 ∷ did 1 ∷ []
  pub acquired_outlives_deadline_reservation_1 : res_shows (run empty_farm acquired_outlives_deadline) 1 ≡ Some (ResState.Allocated, Some (codes "b1"), 560)
  pub refreshed_too_late_answers : answers empty_farm refreshed_too_late ≡ did 0 ∷ did 0 ∷ did 1 ∷ Denied 31 ∷ did 2 ∷ Denied 32 ∷ Denied 3 ∷ Denied 30 ∷ []
  pub canceled_and_expired_answers : answers empty_farm canceled_and_expired ≡ did 0 ∷ did 0 ∷ did 1 ∷ did 1 ∷ Denied 32 ∷ did 2 ∷ passed 0 1 0 ∷ Denied 31 ∷ Denied 32 ∷ []
  pub cancel_an_acquired_one_reservation_1 : res_shows (run empty_farm cancel_an_acquired_one) 1 ≡ Some (ResState.Canceled, Some (codes "b1"), 90)
  pub cancel_an_acquired_one_board__b1 : board_shows (run empty_farm cancel_an_acquired_one) (codes "b1") ≡ Some (Health.Good, State.Idle, Holder.Nobody, 0, 0)
