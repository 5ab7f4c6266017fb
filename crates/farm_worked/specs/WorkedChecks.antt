-- Worked scripts of health checks.
use Rattle.std.specs.Prelude.{◌≡◌, List, [], ◌∷◌, Some, codes, refl}
use Rattle.std.specs.Str.{is_utf8, chars}
use Rattle.farm_types.specs.Names.{empty_farm, is_proper_cmd, is_tag, is_tags, is_word, run}
use Rattle.farm_types.specs.declared.calls.Call.{Call}
use Rattle.farm_types.specs.declared.rows.Check.{Check}
use Rattle.farm_types.specs.declared.calls.Cmd.{Cmd}
use Rattle.farm_types.specs.declared.rows.Health.{Health}
use Rattle.farm_types.specs.declared.rows.Holder.{Holder}
use Rattle.farm_types.specs.declared.rows.Outcome.{Outcome}
use Rattle.farm_types.specs.declared.rows.State.{State}
use Rattle.farm_worked.specs.Worked.{answers, board_shows, did, passed, by_admin, by_dispatcher, by_ann, new_type, new_board, set, single}

-- a check goes ahead of the highest priority, and its good end frees the board for the job
unfoldable pub check_goes_first : List Call
unfolding is_proper_cmd is_word is_tag is_tags is_utf8 chars
check_goes_first =
    by_admin 10 (new_type (Check.Hours 24)) refl
    ∷ by_admin 10 (new_board (codes "b1") []) refl
    ∷ by_admin 10 (set (codes "b1") Health.Unknown) refl
    ∷ by_ann 20 (single 100) refl
    ∷ by_dispatcher 1000 Cmd.Pass refl
    ∷ by_dispatcher 1001 (Cmd.Start 2) refl
    ∷ by_dispatcher 1100 (Cmd.Finish 2 Outcome.Complete) refl
    ∷ by_dispatcher 1200 Cmd.Pass refl
    ∷ []

-- hours are counted from the last check, to the second
unfoldable pub hours_since_the_last_check : List Call
unfolding is_proper_cmd is_word is_tag is_tags is_utf8 chars
hours_since_the_last_check =
    by_admin 10 (new_type (Check.Hours 1)) refl
    ∷ by_admin 10 (new_board (codes "b1") []) refl
    ∷ by_admin 10 (set (codes "b1") Health.Good) refl
    ∷ by_dispatcher 3599 Cmd.Pass refl
    ∷ by_dispatcher 3600 Cmd.Pass refl
    ∷ []

-- jobs count whatever their end; Infra makes a Good board Unknown, and a bad check makes it Bad
unfoldable pub jobs_since_the_last_check : List Call
unfolding is_proper_cmd is_word is_tag is_tags is_utf8 chars
jobs_since_the_last_check =
    by_admin 10 (new_type (Check.Jobs 2)) refl
    ∷ by_admin 10 (new_board (codes "b1") []) refl
    ∷ by_admin 10 (set (codes "b1") Health.Good) refl
    ∷ by_ann 11 (single 50) refl
    ∷ by_ann 11 (single 50) refl
    ∷ by_dispatcher 20 Cmd.Pass refl
    ∷ by_dispatcher 30 (Cmd.Start 1) refl
    ∷ by_dispatcher 30 (Cmd.Finish 1 Outcome.Complete) refl
    ∷ by_dispatcher 40 Cmd.Pass refl
    ∷ by_dispatcher 50 (Cmd.Start 2) refl
    ∷ by_dispatcher 50 (Cmd.Finish 2 Outcome.Infra) refl
    ∷ by_dispatcher 60 Cmd.Pass refl
    ∷ by_dispatcher 70 (Cmd.Start 3) refl
    ∷ by_dispatcher 70 (Cmd.Finish 3 Outcome.Incomplete) refl
    ∷ by_dispatcher 80 Cmd.Pass refl
    ∷ []

-- a check that ends well counts, and leaves a board in Maintenance there
unfoldable pub check_in_maintenance : List Call
unfolding is_proper_cmd is_word is_tag is_tags is_utf8 chars
check_in_maintenance =
    by_admin 10 (new_type (Check.Hours 1)) refl
    ∷ by_admin 10 (new_board (codes "b1") []) refl
    ∷ by_admin 10 (set (codes "b1") Health.Unknown) refl
    ∷ by_dispatcher 20 Cmd.Pass refl
    ∷ by_admin 30 (set (codes "b1") Health.Maintenance) refl
    ∷ by_dispatcher 40 (Cmd.Start 1) refl
    ∷ by_dispatcher 90 (Cmd.Finish 1 Outcome.Complete) refl
    ∷ []

-- what each script answers and leaves
pub record AllChecksAsWorked : Type 0 where
  pub check_goes_first_answers : answers empty_farm check_goes_first ≡ did 0 ∷ did 0 ∷ did 0 ∷ did 1 ∷ passed 1 0 0 ∷ did 2 ∷ did 2 ∷ passed 0 0 1 ∷ []
  pub check_goes_first_board__b1 : board_shows (run empty_farm check_goes_first) (codes "b1") ≡ Some (Health.Good, State.Reserved, Holder.Job 1, 0, 1100)
  pub hours_since_the_last_check_answers : answers empty_farm hours_since_the_last_check ≡ did 0 ∷ did 0 ∷ did 0 ∷ passed 0 0 0 ∷ passed 1 0 0 ∷ []
  pub jobs_since_the_last_check_answers : answers empty_farm jobs_since_the_last_check ≡ did 0 ∷ did 0 ∷ did 0 ∷ did 1 ∷ did 2 ∷ passed 0 0 1 ∷ did 1 ∷ did 1 ∷ passed 0 0 1 ∷ did 2 ∷ did 2 ∷ passed 1 0 0 ∷ did 3 ∷ did 3 ∷ passed 0 0 0 ∷ []
  pub jobs_since_the_last_check_board__b1 : board_shows (run empty_farm jobs_since_the_last_check) (codes "b1") ≡ Some (Health.Bad, State.Idle, Holder.Nobody, 2, 0)
  pub check_in_maintenance_board__b1 : board_shows (run empty_farm check_in_maintenance) (codes "b1") ≡ Some (Health.Maintenance, State.Idle, Holder.Nobody, 0, 90)
