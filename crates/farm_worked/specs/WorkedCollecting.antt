-- Worked scripts of groups that collect boards.
use Rattle.std.specs.Prelude.{◌≡◌, ◌++◌, List, [], ◌∷◌, Some, None, codes, refl}
use Rattle.std.specs.Str.{is_utf8, chars}
use Rattle.farm_types.specs.Names.{Denied, empty_farm, is_proper_cmd, is_tag, is_tags, is_word, run}
use Rattle.farm_types.specs.declared.calls.Call.{Call}
use Rattle.farm_types.specs.declared.rows.Check.{Check}
use Rattle.farm_types.specs.declared.calls.Cmd.{Cmd}
use Rattle.farm_types.specs.declared.rows.Health.{Health}
use Rattle.farm_types.specs.declared.rows.Holder.{Holder}
use Rattle.farm_types.specs.declared.rows.JobState.{JobState}
use Rattle.farm_types.specs.declared.rows.Outcome.{Outcome}
use Rattle.farm_types.specs.declared.rows.ResState.{ResState}
use Rattle.farm_types.specs.declared.rows.State.{State}
use Rattle.farm_worked.specs.Worked.{answers, job_shows, res_shows, board_shows, did, passed, by_admin, by_dispatcher, by_ann, new_type, new_board, set}
use Rattle.farm_worked.specs.Worked.{a_board, single, pair}

-- a group with one board too few collects the board that is there, and a later single job waits
unfoldable pub group_collects : List Call
unfolding is_proper_cmd is_word is_tag is_tags is_utf8 chars
group_collects =
    by_admin 10 (new_type Check.Never) refl
    ∷ by_admin 10 (new_board (codes "b1") []) refl
    ∷ by_admin 10 (set (codes "b1") Health.Good) refl
    ∷ by_admin 10 (new_board (codes "b2") []) refl
    ∷ by_ann 20 (pair []) refl
    ∷ by_ann 20 (single 50) refl
    ∷ by_dispatcher 30 Cmd.Pass refl
    ∷ []

-- it is given its boards as soon as they are there
unfoldable pub collector_is_served : List Call
unfolding is_proper_cmd is_word
collector_is_served = by_admin 35 (set (codes "b2") Health.Good) refl ∷ by_dispatcher 40 Cmd.Pass refl ∷ []

-- it goes before a group of higher priority, which collects after it
unfoldable pub higher_group_collects_next : List Call
unfolding is_proper_cmd is_word is_tag is_tags is_utf8 chars
higher_group_collects_next =
    by_ann 32 (Cmd.Submit 100 (a_board [] ∷ a_board [] ∷ []) (None ∷ None ∷ []) []) refl
    ∷ by_admin 35 (set (codes "b2") Health.Good) refl
    ∷ by_dispatcher 40 Cmd.Pass refl
    ∷ []

-- when it is canceled its board is free, and the next pass gives it to another
unfoldable pub collector_is_canceled : List Call
unfolding is_proper_cmd is_word
collector_is_canceled = by_ann 33 (Cmd.Cancel 2) refl ∷ []

unfoldable pub one_pass_more : List Call
unfolding is_proper_cmd is_word
one_pass_more = by_dispatcher 40 Cmd.Pass refl ∷ []

-- Start and Finish refuse a collecting job, and its board can not be retired
unfoldable pub collector_is_not_started : List Call
unfolding is_proper_cmd is_word
collector_is_not_started =
    by_dispatcher 31 (Cmd.Start 1) refl ∷ by_dispatcher 32 (Cmd.Finish 1 Outcome.Complete) refl ∷ by_admin 33 (set (codes "b1") Health.Retired) refl ∷ []

-- the boards of the collector are swapped where the least list wants it
unfoldable pub collector_swaps : List Call
unfolding is_proper_cmd is_word is_tag is_tags is_utf8 chars
collector_swaps =
    by_admin 10 (new_type Check.Never) refl
    ∷ by_admin 10 (new_board (codes "b1") (codes "hdmi" ∷ [])) refl
    ∷ by_admin 10 (set (codes "b1") Health.Good) refl
    ∷ by_admin 10 (new_board (codes "b2") []) refl
    ∷ by_ann 20 (pair (codes "hdmi" ∷ [])) refl
    ∷ by_dispatcher 30 Cmd.Pass refl
    ∷ []

-- a group of two types, a single job and a reservation
unfoldable pub types_collect : List Call
unfolding is_proper_cmd is_word is_tag is_tags is_utf8 chars
types_collect =
    by_admin 10 (Cmd.AddType (codes "aaa") Check.Never) refl
    ∷ by_admin 10 (new_type Check.Never) refl
    ∷ by_admin 10 (Cmd.AddBoard (codes "a1") (codes "aaa") []) refl
    ∷ by_admin 10 (new_board (codes "b1") []) refl
    ∷ by_admin 10 (set (codes "b1") Health.Good) refl
    ∷ by_ann 20 (Cmd.Submit 60 (record { kind = Some (codes "aaa"); tags = [] } ∷ a_board [] ∷ []) (None ∷ None ∷ []) []) refl
    ∷ by_ann 20 (single 50) refl
    ∷ by_ann 20 (Cmd.Reserve 40 []) refl
    ∷ by_dispatcher 30 Cmd.Pass refl
    ∷ []

unfoldable pub types_are_served : List Call
unfolding is_proper_cmd is_word
types_are_served = by_admin 35 (set (codes "a1") Health.Good) refl ∷ by_dispatcher 40 Cmd.Pass refl ∷ []

-- what each script answers and leaves
pub record AllCollectingAsWorked : Type 0 where
  pub group_collects_answers : answers empty_farm group_collects ≡ did 0 ∷ did 0 ∷ did 0 ∷ did 0 ∷ did 1 ∷ did 3 ∷ passed 0 0 0 ∷ []
  pub group_collects_job_1 : job_shows (run empty_farm group_collects) 1 ≡ Some (JobState.Scheduling, Some (codes "b1"), None)
  pub group_collects_job_2 : job_shows (run empty_farm group_collects) 2 ≡ Some (JobState.Submitted, None, None)
  pub group_collects_job_3 : job_shows (run empty_farm group_collects) 3 ≡ Some (JobState.Submitted, None, None)
  pub group_collects_board__b1 : board_shows (run empty_farm group_collects) (codes "b1") ≡ Some (Health.Good, State.Reserved, Holder.Job 1, 0, 0)
  pub group_collects_collector : (run empty_farm group_collects).collector ≡ 1
  pub collector_is_served_answers : answers (run empty_farm group_collects) collector_is_served ≡ did 0 ∷ passed 0 0 1 ∷ []
  pub collector_is_served_job_1 : job_shows (run empty_farm (group_collects ++ collector_is_served)) 1 ≡ Some (JobState.Scheduled, Some (codes "b1"), None)
  pub collector_is_served_job_2 : job_shows (run empty_farm (group_collects ++ collector_is_served)) 2 ≡ Some (JobState.Scheduled, Some (codes "b2"), None)
  pub collector_is_served_job_3 : job_shows (run empty_farm (group_collects ++ collector_is_served)) 3 ≡ Some (JobState.Submitted, None, None)
  pub collector_is_served_collector : (run empty_farm (group_collects ++ collector_is_served)).collector ≡ 0
  pub higher_group_answers : answers (run empty_farm group_collects) higher_group_collects_next ≡ did 4 ∷ did 0 ∷ passed 0 0 1 ∷ []
  pub higher_group_job_1 : job_shows (run empty_farm (group_collects ++ higher_group_collects_next)) 1 ≡ Some (JobState.Scheduled, Some (codes "b1"), None)
  pub higher_group_job_2 : job_shows (run empty_farm (group_collects ++ higher_group_collects_next)) 2 ≡ Some (JobState.Scheduled, Some (codes "b2"), None)
  pub higher_group_job_4 : job_shows (run empty_farm (group_collects ++ higher_group_collects_next)) 4 ≡ Some (JobState.Submitted, None, None)
  pub higher_group_job_5 : job_shows (run empty_farm (group_collects ++ higher_group_collects_next)) 5 ≡ Some (JobState.Submitted, None, None)
  pub higher_group_collector : (run empty_farm (group_collects ++ higher_group_collects_next)).collector ≡ 4
  pub canceled_answers : answers (run empty_farm group_collects) (collector_is_canceled ++ one_pass_more) ≡ did 1 ∷ passed 0 0 1 ∷ []
  pub canceled_job_1 : job_shows (run empty_farm (group_collects ++ collector_is_canceled)) 1 ≡ Some (JobState.Finished, Some (codes "b1"), Some Outcome.Canceled)
  pub canceled_job_2 : job_shows (run empty_farm (group_collects ++ collector_is_canceled)) 2 ≡ Some (JobState.Finished, None, Some Outcome.Canceled)
  pub canceled_board__b1 : board_shows (run empty_farm (group_collects ++ collector_is_canceled)) (codes "b1") ≡ Some (Health.Good, State.Idle, Holder.Nobody, 0, 0)
  pub canceled_collector : (run empty_farm (group_collects ++ collector_is_canceled)).collector ≡ 0
  pub canceled_job_3 : job_shows (run empty_farm (group_collects ++ collector_is_canceled ++ one_pass_more)) 3 ≡ Some (JobState.Scheduled, Some (codes "b1"), None)
  pub not_started_answers : answers (run empty_farm group_collects) collector_is_not_started ≡ Denied 21 ∷ Denied 21 ∷ Denied 14 ∷ []
  pub swaps_first_job_1 : job_shows (run empty_farm collector_swaps) 1 ≡ Some (JobState.Scheduling, Some (codes "b1"), None)
  pub swaps_first_collector : (run empty_farm collector_swaps).collector ≡ 1
  pub swaps_answers : answers (run empty_farm collector_swaps) collector_is_served ≡ did 0 ∷ passed 0 0 1 ∷ []
  pub swaps_job_1 : job_shows (run empty_farm (collector_swaps ++ collector_is_served)) 1 ≡ Some (JobState.Scheduled, Some (codes "b2"), None)
  pub swaps_job_2 : job_shows (run empty_farm (collector_swaps ++ collector_is_served)) 2 ≡ Some (JobState.Scheduled, Some (codes "b1"), None)
  pub types_answers : answers empty_farm types_collect ≡ did 0 ∷ did 0 ∷ did 0 ∷ did 0 ∷ did 0 ∷ did 1 ∷ did 3 ∷ did 4 ∷ passed 0 0 0 ∷ []
  pub types_job_1 : job_shows (run empty_farm types_collect) 1 ≡ Some (JobState.Submitted, None, None)
  pub types_job_2 : job_shows (run empty_farm types_collect) 2 ≡ Some (JobState.Scheduling, Some (codes "b1"), None)
  pub types_collector : (run empty_farm types_collect).collector ≡ 1
  pub types_served_answers : answers (run empty_farm types_collect) types_are_served ≡ did 0 ∷ passed 0 0 1 ∷ []
  pub types_served_job_1 : job_shows (run empty_farm (types_collect ++ types_are_served)) 1 ≡ Some (JobState.Scheduled, Some (codes "a1"), None)
  pub types_served_job_2 : job_shows (run empty_farm (types_collect ++ types_are_served)) 2 ≡ Some (JobState.Scheduled, Some (codes "b1"), None)
  pub types_served_job_3 : job_shows (run empty_farm (types_collect ++ types_are_served)) 3 ≡ Some (JobState.Submitted, None, None)
  pub types_served_reservation_4 : res_shows (run empty_farm (types_collect ++ types_are_served)) 4 ≡ Some (ResState.Waiting, None, 80)
  pub types_served_collector : (run empty_farm (types_collect ++ types_are_served)).collector ≡ 0
