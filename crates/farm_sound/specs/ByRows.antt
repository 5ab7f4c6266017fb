-- What a sound farm is, row by row: each line speaks of one row and of the rows that it looks up.
use Rattle.std.specs.Prelude.{◌≡◌, ◌≢◌, ◌≤◌, ◌<◌, ◌+◌, ◌-◌, ◌↔◌, ℕ, true, List, Option, Some, None, is_some, length, IsTrue, IsSome, IsNone, IfSome, IsSomeAnd}
use Rattle.std.specs.List.{filter, AllByRecursion}
use Rattle.std.specs.List.Sorted.{IsStrictlySortedBy}
use Rattle.std.specs.Str.{bytes_eq}
use Rattle.farm_types.specs.Names.{board_cmp, board_of, Farm, Follows, IsBoardOf, IsBoardRow, IsCheck, IsCollecting, IsJobRow, IsKeptRow, IsResRow}
use Rattle.farm_types.specs.Names.{IsSubmission, IsTypeRow, IsWithin, job_cmp, job_gives, job_of, kept_cmp, last_moment, most_boards_of_type, most_commands}
use Rattle.farm_types.specs.Names.{most_wants, numbers_end, phase, res_cmp, res_gives, res_of, sizes_of, submission_of, type_cmp, type_of}
use Rattle.farm_types.specs.declared.rows.BoardRow.{BoardRow}
use Rattle.farm_types.specs.declared.rows.Holder.{Holder}
use Rattle.farm_types.specs.declared.rows.JobRow.{JobRow}
use Rattle.farm_types.specs.declared.rows.JobState.{JobState}
use Rattle.farm_types.specs.declared.rows.ResRow.{ResRow}
use Rattle.farm_types.specs.declared.rows.State.{State}

-- ---- the lines on a job, in four parts

pub record IsJobNumbered (F : Farm) (r : JobRow) : Type 0 where
  pub number : (1 ≤ r.number) × (r.number < F.next)
  pub apart : IsNone (res_of F r.number)
  pub group : (r.group ≤ r.number) × (r.number < r.group + most_wants)

pub record IsJobWorded (F : Farm) (r : JobRow) : Type 0 where
  pub words : IsSubmission (submission_of r)
  pub kind : IsSomeAnd r.want.kind (λ kind. IsSome (type_of F kind))

pub record IsJobPlaced (F : Farm) (r : JobRow) : Type 0 where
  pub board : IsBoardOf F r.board
  pub outcome : IsTrue (is_some r.outcome) ↔ (r.state ≡ JobState.Finished)
  pub waits : r.state ≡ JobState.Submitted → r.board ≡ None
  pub holds : IsSome (job_gives r.state) → IsSome r.board

pub record IsJobGrouped (F : Farm) (r : JobRow) : Type 0 where
  pub follows : r.number ≢ r.group → Follows F r
  pub check : r.checking ≡ true → IsCheck r

-- ---- who holds which board, and groups

-- the board's holder names the board, and gives it its state
abbrev pub IsNamedBy : Farm → BoardRow → Holder → Type 0
IsNamedBy F b Holder.Nobody = b.state ≡ State.Idle
IsNamedBy F b (Holder.Job n) = IsSomeAnd (job_of F n) (λ j. (j.board ≡ Some b.name)
    × (job_gives j.state ≡ Some b.state))
IsNamedBy F b (Holder.Res n) = IsSomeAnd (res_of F n) (λ r. (r.board ≡ Some b.name)
    × (res_gives r.state ≡ Some b.state))

-- the board shows that the holder has it
abbrev pub IsShown : Farm → Option (List ℕ) → Holder → Type 0
IsShown F board holder =
    IsSomeAnd board (λ name. IsSomeAnd (board_of F name) (λ b. b.holder ≡ holder))

-- the board that a job or a reservation holds shows so
abbrev pub IsShownOfJob : Farm → JobRow → Type 0
IsShownOfJob F j = IfSome (job_gives j.state) (λ _. IsShown F j.board (Holder.Job j.number))

abbrev pub IsShownOfRes : Farm → ResRow → Type 0
IsShownOfRes F r = IfSome (res_gives r.state) (λ _. IsShown F r.board (Holder.Res r.number))

-- a member but the first is in the phase of the one before it
abbrev pub IsInStep : Farm → JobRow → Type 0
IsInStep F r = r.number ≢ r.group
    → IsSomeAnd (job_of F (r.number - 1)) (λ previous. phase previous.state ≡ phase r.state)

-- the boards of a board's type are few
abbrev pub IsOfFew : Farm → BoardRow → Type 0
IsOfFew F b = length (filter (λ c. bytes_eq c.kind b.kind) F.boards) ≤ most_boards_of_type

-- ---- a farm, row by row

-- the tables keep their order
pub record IsOrdered (F : Farm) : Type 0 where
  pub types : IsStrictlySortedBy type_cmp F.types
  pub boards : IsStrictlySortedBy board_cmp F.boards
  pub jobs : IsStrictlySortedBy job_cmp F.jobs
  pub reservations : IsStrictlySortedBy res_cmp F.reservations
  pub kept : IsStrictlySortedBy kept_cmp F.kept

-- and their limits
pub record IsFew (F : Farm) : Type 0 where
  pub sizes : AllByRecursion IsWithin (sizes_of F)
  pub clock : F.clock ≤ last_moment
  pub count : F.count ≤ most_commands
  pub next : (1 ≤ F.next) × (F.next ≤ numbers_end)

-- both: what look-ups by binary search stand on
pub record IsInBounds (F : Farm) : Type 0 where
  pub ordered : IsOrdered F
  pub few : IsFew F

-- what a row says, and what the others say of it
pub record IsSoundBoard (F : Farm) (b : BoardRow) : Type 0 where
  pub row : IsBoardRow F b
  pub few : IsOfFew F b
  pub held : IsNamedBy F b b.holder

pub record IsSoundJob (F : Farm) (j : JobRow) : Type 0 where
  pub row : IsJobRow F j
  pub step : IsInStep F j
  pub shown : IsShownOfJob F j

pub record IsSoundRes (F : Farm) (r : ResRow) : Type 0 where
  pub row : IsResRow F r
  pub shown : IsShownOfRes F r

pub record IsSoundByRows (F : Farm) : Type 0 where
  pub bounds : IsInBounds F
  pub types : AllByRecursion IsTypeRow F.types
  pub boards : AllByRecursion (IsSoundBoard F) F.boards
  pub jobs : AllByRecursion (IsSoundJob F) F.jobs
  pub reservations : AllByRecursion (IsSoundRes F) F.reservations
  pub kept : AllByRecursion IsKeptRow F.kept
  pub collecting : IsCollecting F.collector F.jobs
