-- Worked scripts of jobs, groups and the plain pass.
use Rattle.std.specs.Prelude.{◌≡◌, List, [], ◌∷◌, Some, None, codes, refl}
use Rattle.std.specs.Str.{is_utf8, chars}
use Rattle.farm_types.specs.Names.{Denied, empty_farm, is_proper_cmd, is_tag, is_tags, is_word, run}
use Rattle.farm_types.specs.declared.calls.Call.{Call}
use Rattle.farm_types.specs.declared.rows.Check.{Check}
use Rattle.farm_types.specs.declared.calls.Cmd.{Cmd}
use Rattle.farm_types.specs.declared.rows.Health.{Health}
use Rattle.farm_types.specs.declared.rows.Holder.{Holder}
use Rattle.farm_types.specs.declared.rows.JobState.{JobState}
use Rattle.farm_types.specs.declared.rows.Outcome.{Outcome}
use Rattle.farm_types.specs.declared.rows.State.{State}
use Rattle.farm_worked.specs.Worked.{answers, job_shows, board_shows, did, passed, by_admin, by_dispatcher, by_ann, by_bob, new_type, new_board, set, a_board}
use Rattle.farm_worked.specs.Worked.{single, pair}

-- the higher priority goes first, and the other waits
unfoldable pub higher_priority_first : List Call
unfolding is_proper_cmd is_word is_tag is_tags is_utf8 chars
higher_priority_first =
    by_admin 10 (new_type Check.Never) refl
    ∷ by_admin 10 (new_board (codes "b1") []) refl
    ∷ by_admin 10 (set (codes "b1") Health.Good) refl
    ∷ by_ann 20 (single 50) refl
    ∷ by_ann 20 (single 100) refl
    ∷ by_dispatcher 30 Cmd.Pass refl
    ∷ []

-- the least list leaves the tagged board to the want that needs it
unfoldable pub least_list_by_tag : List Call
unfolding is_proper_cmd is_word is_tag is_tags is_utf8 chars
least_list_by_tag =
    by_admin 10 (new_type Check.Never) refl
    ∷ by_admin 10 (new_board (codes "b1") (codes "hdmi" ∷ [])) refl
    ∷ by_admin 10 (set (codes "b1") Health.Good) refl
    ∷ by_admin 10 (new_board (codes "b2") []) refl
    ∷ by_admin 10 (set (codes "b2") Health.Good) refl
    ∷ by_ann 20 (pair (codes "hdmi" ∷ [])) refl
    ∷ by_dispatcher 30 Cmd.Pass refl
    ∷ []

-- of two lists that meet, the one that is less name by name
unfoldable pub least_of_three_boards : List Call
unfolding is_proper_cmd is_word is_tag is_tags is_utf8 chars
least_of_three_boards =
    by_admin 10 (new_type Check.Never) refl
    ∷ by_admin 10 (new_board (codes "b1") (codes "hdmi" ∷ [])) refl
    ∷ by_admin 10 (set (codes "b1") Health.Good) refl
    ∷ by_admin 10 (new_board (codes "b2") []) refl
    ∷ by_admin 10 (set (codes "b2") Health.Good) refl
    ∷ by_admin 10 (new_board (codes "b3") []) refl
    ∷ by_admin 10 (set (codes "b3") Health.Good) refl
    ∷ by_ann 20 (pair (codes "hdmi" ∷ [])) refl
    ∷ by_dispatcher 30 Cmd.Pass refl
    ∷ []

-- one Start starts a group; its finished member stays when the other is canceled
unfoldable pub cancel_half_of_a_group : List Call
unfolding is_proper_cmd is_word is_tag is_tags is_utf8 chars
cancel_half_of_a_group =
    by_admin 10 (new_type Check.Never) refl
    ∷ by_admin 10 (new_board (codes "b1") []) refl
    ∷ by_admin 10 (set (codes "b1") Health.Good) refl
    ∷ by_admin 10 (new_board (codes "b2") []) refl
    ∷ by_admin 10 (set (codes "b2") Health.Good) refl
    ∷ by_ann 20 (pair []) refl
    ∷ by_dispatcher 30 Cmd.Pass refl
    ∷ by_dispatcher 31 (Cmd.Start 2) refl
    ∷ by_dispatcher 32 (Cmd.Finish 1 Outcome.Complete) refl
    ∷ by_ann 33 (Cmd.Cancel 2) refl
    ∷ by_dispatcher 34 (Cmd.Finish 2 Outcome.Complete) refl
    ∷ []

-- a group that is canceled before its start frees its boards at once; another Cancel is refused
unfoldable pub cancel_before_the_start : List Call
unfolding is_proper_cmd is_word is_tag is_tags is_utf8 chars
cancel_before_the_start =
    by_admin 10 (new_type Check.Never) refl
    ∷ by_admin 10 (new_board (codes "b1") []) refl
    ∷ by_admin 10 (set (codes "b1") Health.Good) refl
    ∷ by_admin 10 (new_board (codes "b2") []) refl
    ∷ by_admin 10 (set (codes "b2") Health.Good) refl
    ∷ by_ann 20 (pair []) refl
    ∷ by_dispatcher 30 Cmd.Pass refl
    ∷ by_ann 31 (Cmd.Cancel 1) refl
    ∷ by_ann 32 (Cmd.Cancel 2) refl
    ∷ []

-- a held board can not be retired, and a retired one stays so
unfoldable pub retire_a_held_board : List Call
unfolding is_proper_cmd is_word is_tag is_tags is_utf8 chars
retire_a_held_board =
    by_admin 10 (new_type Check.Never) refl
    ∷ by_admin 10 (new_board (codes "b1") []) refl
    ∷ by_admin 10 (set (codes "b1") Health.Good) refl
    ∷ by_ann 20 (single 50) refl
    ∷ by_dispatcher 30 Cmd.Pass refl
    ∷ by_admin 31 (set (codes "b1") Health.Retired) refl
    ∷ by_dispatcher 32 (Cmd.Start 1) refl
    ∷ by_dispatcher 33 (Cmd.Finish 1 Outcome.Complete) refl
    ∷ by_admin 34 (set (codes "b1") Health.Retired) refl
    ∷ by_admin 35 (set (codes "b1") Health.Good) refl
    ∷ by_admin 36 (Cmd.SetTags (codes "b1") []) refl
    ∷ []

-- three boards serve four wants at no time, whoever holds them
unfoldable pub more_boards_than_there_are : List Call
unfolding is_proper_cmd is_word is_tag is_tags is_utf8 chars
more_boards_than_there_are =
    by_admin 10 (new_type Check.Never) refl
    ∷ by_admin 10 (new_board (codes "b1") []) refl
    ∷ by_admin 10 (new_board (codes "b2") []) refl
    ∷ by_admin 10 (new_board (codes "b3") []) refl
    ∷ by_ann 20 (Cmd.Submit 50 (a_board [] ∷ a_board [] ∷ a_board [] ∷ a_board [] ∷ []) (None ∷ None ∷ None ∷ None ∷ []) []) refl
    ∷ by_ann 20 (Cmd.Submit 50 (a_board [] ∷ a_board [] ∷ a_board [] ∷ []) (None ∷ None ∷ None ∷ []) []) refl
    ∷ []

-- who may give a command, and what has to be there
unfoldable pub wrong_callers_and_rows : List Call
unfolding is_proper_cmd is_word is_tag is_tags is_utf8 chars
wrong_callers_and_rows =
    by_ann 10 (new_type Check.Never) refl
    ∷ by_admin 10 (new_type Check.Never) refl
    ∷ by_admin 10 (new_type Check.Never) refl
    ∷ by_admin 10 (Cmd.AddBoard (codes "b1") (codes "ccc") []) refl
    ∷ by_admin 10 (new_board (codes "b1") []) refl
    ∷ by_admin 10 (new_board (codes "b1") []) refl
    ∷ by_admin 10 (set (codes "b9") Health.Good) refl
    ∷ by_admin 10 (Cmd.SetTags (codes "b9") []) refl
    ∷ by_dispatcher 20 (single 50) refl
    ∷ by_ann 20 (single 50) refl
    ∷ by_ann 20 (Cmd.Submit 50 (record { kind = Some (codes "ccc"); tags = [] } ∷ []) (None ∷ []) []) refl
    ∷ by_ann 21 Cmd.Pass refl
    ∷ by_dispatcher 22 (Cmd.Start 1) refl
    ∷ by_dispatcher 22 (Cmd.Finish 1 Outcome.Infra) refl
    ∷ by_bob 23 (Cmd.Cancel 1) refl
    ∷ by_dispatcher 24 (Cmd.Cancel 7) refl
    ∷ by_ann 25 (Cmd.Start 1) refl
    ∷ []

-- what each script answers and leaves
pub record AllJobsAsWorked : Type 0 where
  pub higher_priority_first_board__b1 : board_shows (run empty_farm higher_priority_first) (codes "b1") ≡ Some (Health.Good, State.Reserved, Holder.Job 2, 0, 0)
  pub higher_priority_first_job_1 : job_shows (run empty_farm higher_priority_first) 1 ≡ Some (JobState.Submitted, None, None)
  pub least_list_by_tag_job_1 : job_shows (run empty_farm least_list_by_tag) 1 ≡ Some (JobState.Scheduled, Some (codes "b2"), None)
  pub least_list_by_tag_job_2 : job_shows (run empty_farm least_list_by_tag) 2 ≡ Some (JobState.Scheduled, Some (codes "b1"), None)
  pub least_of_three_boards_job_1 : job_shows (run empty_farm least_of_three_boards) 1 ≡ Some (JobState.Scheduled, Some (codes "b2"), None)
  pub least_of_three_boards_job_2 : job_shows (run empty_farm least_of_three_boards) 2 ≡ Some (JobState.Scheduled, Some (codes "b1"), None)
  pub cancel_half_of_a_group_job_1 : job_shows (run empty_farm cancel_half_of_a_group) 1 ≡ Some (JobState.Finished, Some (codes "b1"), Some Outcome.Complete)
  pub cancel_half_of_a_group_job_2 : job_shows (run empty_farm cancel_half_of_a_group) 2 ≡ Some (JobState.Finished, Some (codes "b2"), Some Outcome.Canceled)
  pub cancel_half_of_a_group_board__b2 : board_shows (run empty_farm cancel_half_of_a_group) (codes "b2") ≡ Some (Health.Good, State.Idle, Holder.Nobody, 1, 0)
  pub cancel_before_the_start_job_1 : job_shows (run empty_farm cancel_before_the_start) 1 ≡ Some (JobState.Finished, Some (codes "b1"), Some Outcome.Canceled)
  pub cancel_before_the_start_job_2 : job_shows (run empty_farm cancel_before_the_start) 2 ≡ Some (JobState.Finished, Some (codes "b2"), Some Outcome.Canceled)
  pub cancel_before_the_start_board__b1 : board_shows (run empty_farm cancel_before_the_start) (codes "b1") ≡ Some (Health.Good, State.Idle, Holder.Nobody, 0, 0)
  pub cancel_before_the_start_board__b2 : board_shows (run empty_farm cancel_before_the_start) (codes "b2") ≡ Some (Health.Good, State.Idle, Holder.Nobody, 0, 0)
  pub cancel_before_the_start_answers : answers empty_farm cancel_before_the_start ≡ did 0 ∷ did 0 ∷ did 0 ∷ did 0 ∷ did 0 ∷ did 1 ∷ passed 0 0 1 ∷ did 1 ∷ Denied 21 ∷ []
  pub retire_a_held_board_answers : answers empty_farm retire_a_held_board ≡ did 0 ∷ did 0 ∷ did 0 ∷ did 1 ∷ passed 0 0 1 ∷ Denied 14 ∷ did 1 ∷ did 1 ∷ did 0 ∷ Denied 15 ∷ Denied 15 ∷ []
  pub more_boards_than_there_are_answers : answers empty_farm more_boards_than_there_are ≡ did 0 ∷ did 0 ∷ did 0 ∷ did 0 ∷ Denied 22 ∷ did 1 ∷ []
  pub more_boards_than_there_are_number_next : (run empty_farm more_boards_than_there_are).next ≡ 4
  pub wrong_callers_and_rows_answers : answers empty_farm wrong_callers_and_rows ≡ Denied 3 ∷ did 0 ∷ Denied 11 ∷ Denied 10 ∷ did 0 ∷ Denied 13 ∷ Denied 12 ∷ Denied 12 ∷ Denied 3 ∷ did 1 ∷ Denied 10 ∷ Denied 3 ∷ Denied 21 ∷ Denied 21 ∷ Denied 3 ∷ Denied 20 ∷ Denied 3 ∷ []
