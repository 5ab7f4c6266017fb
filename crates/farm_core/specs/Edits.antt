-- What happens to the rows of jobs and reservations, and to the boards that they hold.
use Rattle.std.specs.Prelude.{ℕ, ◌==◌, ◌&&◌, ◌≤◌, ◌<◌, Bool, List, [], length, get_or, Option, None, Some, if◌then◌else◌, option_copied, unwrap_or}
use Rattle.std.specs.Option.{option_or}
use Rattle.farm_types.specs.Names.{after_check, after_job, empty_farm, freed_board, held_board, held_by, in_state, is_dead, is_job_so, is_res_so, is_unstarted}
use Rattle.farm_types.specs.Names.{IsSmall, same_job_state}
use Rattle.farm_types.specs.declared.rows.BoardRow.{BoardRow}
use Rattle.farm_types.specs.declared.rows.Holder.{Holder}
use Rattle.farm_types.specs.declared.rows.JobRow.{JobRow}
use Rattle.farm_types.specs.declared.rows.JobState.{JobState}
use Rattle.farm_types.specs.declared.rows.Outcome.{Outcome}
use Rattle.farm_types.specs.declared.rows.ResRow.{ResRow}
use Rattle.farm_types.specs.declared.rows.State.{State}
use Rattle.farm_core.specs.declared.board_effect.BoardEffect.{BoardEffect}
use Rattle.farm_core.specs.declared.edits.JobEdit.{JobEdit}
use Rattle.farm_core.specs.declared.edits.JobFilter.{JobFilter}
use Rattle.farm_core.specs.declared.edits.Placement.{Placement}
use Rattle.farm_core.specs.declared.edits.Holders.{Holders}
use Rattle.farm_core.specs.declared.edits.ResEdit.{ResEdit}

-- which jobs pass
abbrev pub job_passes : JobFilter → JobRow → Bool
job_passes (JobFilter.Members group) j = j.group == group
job_passes (JobFilter.Unstarted group) j = (j.group == group) && is_unstarted j
job_passes (JobFilter.Running group) j = (j.group == group)
    && same_job_state j.state JobState.Running
job_passes (JobFilter.Scheduling group) j = (j.group == group)
    && same_job_state j.state JobState.Scheduling
job_passes (JobFilter.Numbered number) j = j.number == number

-- the least number of a job that passes
abbrev pub first_of : JobFilter → ℕ
first_of (JobFilter.Members group) = group
first_of (JobFilter.Unstarted group) = group
first_of (JobFilter.Running group) = group
first_of (JobFilter.Scheduling group) = group
first_of (JobFilter.Numbered number) = number

-- the board that a job's row names
abbrev pub placed_on : Placement → Option (List ℕ) → Option (List ℕ)
placed_on Placement.Stays board = board
placed_on Placement.Leaves board = None
placed_on (Placement.On name) board = Some name.now

-- what becomes of a job, and of a reservation
abbrev pub job_changed : JobEdit → JobRow → JobRow
job_changed e j = record j {
  state = e.state;
  outcome = option_or e.outcome j.outcome;
  board = placed_on e.placement j.board;
}

abbrev pub res_changed : ResEdit → ResRow → ResRow
res_changed e r = record r {
  state = unwrap_or e.state r.state;
  deadline = unwrap_or e.deadline r.deadline;
  board = option_or (option_copied e.board) r.board;
}

-- whether a holder is a job that passes, the reservation of a number, or one that is dead
abbrev pub are_held_by : Holders → Holder → Bool
are_held_by (Holders.Jobs jobs filter) holder = is_job_so (record empty_farm { jobs = jobs.now.rows }) (job_passes filter) holder
are_held_by (Holders.Res reservations number) holder =
    is_res_so (record empty_farm { reservations = reservations.now.rows }) (λ r. r.number == number) holder
are_held_by (Holders.Dead reservations now) holder = is_res_so (record empty_farm { reservations = reservations.now.rows }) (is_dead now) holder

-- what becomes of a board
abbrev pub board_after : BoardEffect → BoardRow → BoardRow
board_after BoardEffect.Free b = freed_board b
board_after (BoardEffect.State state) b = in_state state b
board_after (BoardEffect.Reserve holder) b = held_board holder State.Reserved b
board_after (BoardEffect.End checking outcome now) b =
    freed_board (if checking then after_check outcome now b else after_job outcome b)

-- the text of the member at a place: the first carries it
abbrev pub text_at : ℕ → List ℕ → List ℕ
text_at place body = if place == 0 then body else []

-- the outcome of a job: one that is being canceled ends as canceled
abbrev pub outcome_of : JobRow → Outcome → Outcome
outcome_of j named = if same_job_state j.state JobState.Canceling then Outcome.Canceled else named

-- the numbers that it writes are small
abbrev pub IsSmallEffect : BoardEffect → Type 0
IsSmallEffect BoardEffect.Free = Unit {0}
IsSmallEffect (BoardEffect.State state) = Unit {0}
IsSmallEffect (BoardEffect.Reserve holder) = IsSmall (held_by holder)
IsSmallEffect (BoardEffect.End checking outcome now) = IsSmall now

-- among rows that rise by their numbers those before a place have smaller ones, those from it on have not
pub record IsPartitionPoint {R : Type 0} (number_of : R → ℕ) (rows : List R) (number place : ℕ)
    : Type 0 where
  pub below : (k : ℕ) (d : R) → k < place → number_of (get_or rows k d) < number
  pub above : (k : ℕ) (d : R) → place ≤ k → k < length rows → number ≤ number_of (get_or rows k d)
