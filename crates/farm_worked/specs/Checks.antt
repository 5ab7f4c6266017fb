-- Worked scripts of checks, and of the board that they check, up to its retirement.
use Rattle.std.specs.Prelude.{◌≡◌, ℕ, List, [], ◌∷◌, Some, None, codes, refl, true}
use Rattle.std.specs.Char.{encode_utf8}
use Rattle.std.specs.Str.{is_utf8, chars}
use Rattle.farm_types.specs.Names.{Denied, empty_farm, Farm, is_proper_cmd, is_tag, is_tags, is_word, new_board as board_row, new_job, run}
use Rattle.farm_types.specs.declared.calls.Call.{Call}
use Rattle.farm_types.specs.declared.rows.Check.{Check}
use Rattle.farm_types.specs.declared.calls.Cmd.{Cmd}
use Rattle.farm_types.specs.declared.rows.Health.{Health}
use Rattle.farm_types.specs.declared.rows.Holder.{Holder}
use Rattle.farm_types.specs.declared.rows.JobRow.{JobRow}
use Rattle.farm_types.specs.declared.rows.JobState.{JobState}
use Rattle.farm_types.specs.declared.rows.Outcome.{Outcome}
use Rattle.farm_types.specs.declared.rows.State.{State}
use Rattle.farm_worked.specs.Worked.{answers, did, passed, by_admin, by_dispatcher, by_ann, new_type, new_board, set, a_board}

-- a board with a tag is Unknown, ann's job waits for it, and a pass makes a check
unfoldable pub check_is_made : List Call
unfolding is_proper_cmd is_word is_tag is_tags is_utf8 chars encode_utf8
check_is_made =
    by_admin 10 (new_type (Check.Hours 1)) refl
    ∷ by_admin 10 (new_board (codes "b1") (codes "hdmi" ∷ [])) refl
    ∷ by_admin 10 (set (codes "b1") Health.Unknown) refl
    ∷ by_ann 20 (Cmd.Submit 100 (a_board [] ∷ []) (None ∷ []) (codes "one board")) refl
    ∷ by_dispatcher 30 Cmd.Pass refl
    ∷ []

abbrev pub ann_job : JobRow
ann_job = new_job 1 1 (codes "ann") 100 (a_board []) None (codes "one board")

-- a check is a group of one, of the admin, with priority 100, the board's type alone as want, no role and no text
abbrev pub check_row : ℕ → JobRow
check_row n = record (new_job n n (codes "admin") 100 (a_board []) None []) { checking = true; board = Some (codes "b1") }

abbrev pub after_check_is_made : Farm
after_check_is_made = record {
  types = record { name = codes "bbb"; check = Check.Hours 1 } ∷ [];
  boards =
      record (board_row (codes "b1") (codes "bbb") (codes "hdmi" ∷ [])) { health = Health.Unknown; state = State.Reserved; holder = Holder.Job 2 }
      ∷ [];
  jobs =
      ann_job
      ∷ record (check_row 2) { state = JobState.Scheduled }
      ∷ [];
  reservations = [];
  kept = [];
  clock = 30;
  collector = 0;
  count = 5;
  next = 3;
}

-- it ends well: the board is Good since that moment, and an hour is not over in the next pass
unfoldable pub check_ends_well : List Call
unfolding is_proper_cmd is_word is_tag is_tags is_utf8 chars encode_utf8
check_ends_well =
    by_dispatcher 31 (Cmd.Start 2) refl
    ∷ by_dispatcher 90 (Cmd.Finish 2 Outcome.Complete) refl
    ∷ by_dispatcher 100 Cmd.Pass refl
    ∷ []

abbrev pub after_check_ends_well : Farm
after_check_ends_well = record after_check_is_made {
  boards =
      record (board_row (codes "b1") (codes "bbb") (codes "hdmi" ∷ [])) { health = Health.Good; state = State.Reserved; holder = Holder.Job 1; last_check = 90 }
      ∷ [];
  jobs =
      record ann_job { state = JobState.Scheduled; board = Some (codes "b1") }
      ∷ record (check_row 2) { state = JobState.Finished; outcome = Some Outcome.Complete }
      ∷ [];
  clock = 100;
  count = 8;
}

-- the job ends by a fault of the lab: the board is Unknown, and the next check has the next number
unfoldable pub lab_fault : List Call
unfolding is_proper_cmd is_word is_tag is_tags is_utf8 chars encode_utf8
lab_fault =
    by_dispatcher 110 (Cmd.Start 1) refl
    ∷ by_dispatcher 120 (Cmd.Finish 1 Outcome.Infra) refl
    ∷ by_dispatcher 130 Cmd.Pass refl
    ∷ by_dispatcher 131 (Cmd.Start 3) refl
    ∷ []

abbrev pub after_lab_fault : Farm
after_lab_fault = record after_check_is_made {
  boards =
      record (board_row (codes "b1") (codes "bbb") (codes "hdmi" ∷ [])) { health = Health.Unknown; state = State.Running; holder = Holder.Job 3; jobs_since = 1; last_check = 90 }
      ∷ [];
  jobs =
      record ann_job { state = JobState.Finished; outcome = Some Outcome.Infra; board = Some (codes "b1") }
      ∷ record (check_row 2) { state = JobState.Finished; outcome = Some Outcome.Complete }
      ∷ record (check_row 3) { state = JobState.Running }
      ∷ [];
  clock = 131;
  count = 12;
  next = 4;
}

-- a held board can't be retired; the bad end frees it, and nobody holds it when it is
unfoldable pub board_is_retired : List Call
unfolding is_proper_cmd is_word is_tag is_tags is_utf8 chars encode_utf8
board_is_retired =
    by_admin 132 (set (codes "b1") Health.Retired) refl
    ∷ by_dispatcher 140 (Cmd.Finish 3 Outcome.Incomplete) refl
    ∷ by_admin 150 (set (codes "b1") Health.Retired) refl
    ∷ by_dispatcher 160 Cmd.Pass refl
    ∷ []

abbrev pub after_board_is_retired : Farm
after_board_is_retired = record after_check_is_made {
  boards =
      record (board_row (codes "b1") (codes "bbb") (codes "hdmi" ∷ [])) { health = Health.Retired; jobs_since = 1; last_check = 90 }
      ∷ [];
  jobs =
      record ann_job { state = JobState.Finished; outcome = Some Outcome.Infra; board = Some (codes "b1") }
      ∷ record (check_row 2) { state = JobState.Finished; outcome = Some Outcome.Complete }
      ∷ record (check_row 3) { state = JobState.Finished; outcome = Some Outcome.Incomplete }
      ∷ [];
  clock = 160;
  count = 15;
  next = 4;
}

-- what each script answers and leaves
pub record ChecksAsWorked : Type 0 where
  pub check_is_made_answers : answers empty_farm check_is_made ≡ did 0 ∷ did 0 ∷ did 0 ∷ did 1 ∷ passed 1 0 0 ∷ []
  pub check_is_made_leaves : run empty_farm check_is_made ≡ after_check_is_made
  pub check_ends_well_answers : answers after_check_is_made check_ends_well ≡ did 2 ∷ did 2 ∷ passed 0 0 1 ∷ []
  pub check_ends_well_leaves : run after_check_is_made check_ends_well ≡ after_check_ends_well
  pub lab_fault_answers : answers after_check_ends_well lab_fault ≡ did 1 ∷ did 1 ∷ passed 1 0 0 ∷ did 3 ∷ []
  pub lab_fault_leaves : run after_check_ends_well lab_fault ≡ after_lab_fault
  pub board_is_retired_answers : answers after_lab_fault board_is_retired ≡ Denied 14 ∷ did 3 ∷ did 0 ∷ passed 0 0 0 ∷ []
  pub board_is_retired_leaves : run after_lab_fault board_is_retired ≡ after_board_is_retired
