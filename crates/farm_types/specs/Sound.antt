-- What every farm that the machine reaches keeps.
use Rattle.std.specs.Prelude.{◌≡◌, ◌≢◌, ℕ, ◌+◌, ◌-◌, ◌<◌, ◌≤◌, ◌↔◌, ◌==◌, ◌++◌, true, false, List, [], ◌∷◌, length, Option, Some, None, unwrap_or, is_some}
use Rattle.std.specs.Prelude.{IsTrue, IsSome, IsNone, IfSome, IsSomeAnd, codes}
use Rattle.std.specs.List.{find, filter, AllByRecursion, filter_map}
use Rattle.std.specs.List.Sorted.{IsStrictlySortedBy}
use Rattle.std.specs.Option.{option_map_or}
use Rattle.std.specs.Str.{bytes_eq}
use Rattle.farm_types.specs.Limits.{highest_priority, last_kind, last_moment, lease, longest_text, most_boards, most_boards_of_type, most_commands, most_jobs}
use Rattle.farm_types.specs.Limits.{most_jobs_since, most_replies, most_reservations, most_types, most_wants, numbers_end}
use Rattle.farm_types.specs.Words.{IsName, IsKey, IsTags, IsText}
use Rattle.farm_types.specs.Proper.{is_frequency, has_no_name_tag, is_priority, is_want}
use Rattle.farm_types.specs.Table.{type_cmp, board_cmp, job_cmp, res_cmp, kept_cmp}
use Rattle.farm_types.specs.Farm.{Farm, type_of, board_of, job_of, res_of}
use Rattle.farm_types.specs.declared.rows.Health.{Health}
use Rattle.farm_types.specs.declared.rows.State.{State}
use Rattle.farm_types.specs.declared.rows.Holder.{Holder}
use Rattle.farm_types.specs.declared.rows.JobState.{JobState}
use Rattle.farm_types.specs.declared.rows.ResState.{ResState}
use Rattle.farm_types.specs.declared.rows.Want.{Want}
use Rattle.farm_types.specs.declared.rows.TypeRow.{TypeRow}
use Rattle.farm_types.specs.declared.rows.BoardRow.{BoardRow}
use Rattle.farm_types.specs.declared.rows.JobRow.{JobRow}
use Rattle.farm_types.specs.declared.rows.ResRow.{ResRow}
use Rattle.farm_types.specs.declared.rows.KeptRow.{KeptRow}

-- the state that a job or a reservation gives the board that it holds, if it holds one
abbrev pub job_gives : JobState → Option State
job_gives JobState.Scheduling = Some State.Reserved
job_gives JobState.Scheduled = Some State.Reserved
job_gives JobState.Running = Some State.Running
job_gives JobState.Canceling = Some State.Running
job_gives state = None

abbrev pub res_gives : ResState → Option State
res_gives ResState.Allocated = Some State.Reserved
res_gives ResState.Acquired = Some State.Running
res_gives state = None

-- a board in the hands of a job or a reservation, and the state that this gives it
pub record Hold : Type 0 where
  pub board : List ℕ
  pub holder : Holder
  pub state : State

abbrev pub hold : Holder → Option (List ℕ) → Option State → Option Hold
hold holder (Some name) (Some state) = Some (record { board = name; holder = holder; state = state })
hold holder name state = None

abbrev pub job_hold : JobRow → Option Hold
job_hold j = hold (Holder.Job j.number) j.board (job_gives j.state)

abbrev pub res_hold : ResRow → Option Hold
res_hold r = hold (Holder.Res r.number) r.board (res_gives r.state)

-- what a job or a reservation holds
abbrev pub hold_of : Farm → Holder → Option Hold
hold_of F Holder.Nobody = None
hold_of F (Holder.Job n) = option_map_or job_hold (job_of F n) None
hold_of F (Holder.Res n) = option_map_or res_hold (res_of F n) None

-- what a board says of itself
abbrev pub shown_hold : BoardRow → Hold
shown_hold b = record { board = b.name; holder = b.holder; state = b.state }

-- the board is Idle in nobody's hands, or its holder holds it and gives it its state
abbrev pub IsHeldBy : Farm → BoardRow → Holder → Type 0
IsHeldBy F b Holder.Nobody = b.state ≡ State.Idle
IsHeldBy F b (Holder.Job n) = hold_of F (Holder.Job n) ≡ Some (shown_hold b)
IsHeldBy F b (Holder.Res n) = hold_of F (Holder.Res n) ≡ Some (shown_hold b)

-- each board and the row that holds it name each other
pub record IsHeldByKeys (F : Farm) : Type 0 where
  pub boards : AllByRecursion (λ b. IsHeldBy F b b.holder) F.boards
  pub rows : (h : Holder) (x : Hold) → hold_of F h ≡ Some x → IsSomeAnd (board_of F x.board) (λ b. b.holder ≡ h)

-- the holds of all rows
abbrev pub holds : Farm → List Hold
holds F = filter_map job_hold F.jobs ++ filter_map res_hold F.reservations

-- a board nobody holds
abbrev pub no_hold : List ℕ → Hold
no_hold name = record { board = name; holder = Holder.Nobody; state = State.Idle }

-- each element stands so to each later one
abbrev pub EachTwo : {A : Type 0} → (A → A → Type 0) → List A → Type 0
EachTwo R [] = Unit {0}
EachTwo R (x ∷ xs) = AllByRecursion (R x) xs × EachTwo R xs

-- no board is held twice, and each says who holds it, or that nobody does
pub record IsHeldOnce (F : Farm) : Type 0 where
  pub once : EachTwo (λ h k. h.board ≢ k.board) (holds F)
  pub shown : AllByRecursion (λ b. shown_hold b ≡ unwrap_or (find (λ h. bytes_eq h.board b.name) (holds F)) (no_hold b.name)) F.boards

-- 0 while a group waits for boards, 1 when all its members have boards, 2 from the start on
abbrev pub phase : JobState → ℕ
phase JobState.Submitted = 0
phase JobState.Scheduling = 0
phase JobState.Scheduled = 1
phase state = 2

-- no group is half started
abbrev pub AreGroupsInPhase : Farm → Type 0
AreGroupsInPhase F = AllByRecursion (λ j. AllByRecursion (λ m. m.group ≡ j.group → phase m.state ≡ phase j.state) F.jobs) F.jobs

-- only the collector's members are Scheduling, and it is a group of two or more members that wait
pub record IsCollecting (collector : ℕ) (jobs : List JobRow) : Type 0 where
  pub only : AllByRecursion (λ j. j.state ≡ JobState.Scheduling → (1 ≤ collector) × (j.group ≡ collector)) jobs
  pub several : 1 ≤ collector → 2 ≤ length (filter (λ j. j.group == collector) jobs)
  pub waits : 1 ≤ collector → AllByRecursion (λ j. j.group ≡ collector → phase j.state ≡ 0) jobs

-- a name that a row of the farm has, if it is there
abbrev pub IsBoardOf : Farm → Option (List ℕ) → Type 0
IsBoardOf F board = IfSome board (λ name. IsSome (board_of F name))

-- the words and limits of each row, and what it says of the others
pub record IsTypeRow (r : TypeRow) : Type 0 where
  pub name : IsName r.name
  pub check : IsTrue (is_frequency r.check)

-- what an admin says of a board; no job, reservation or pass changes it
pub record Description : Type 0 where
  pub name : List ℕ
  pub kind : List ℕ
  pub tags : List (List ℕ)

abbrev pub description_of : BoardRow → Description
description_of b = record { name = b.name; kind = b.kind; tags = b.tags }

pub record IsDescription (d : Description) : Type 0 where
  pub name : IsName d.name
  pub tags : IsTags d.tags
  pub no_name_tag : IsTrue (has_no_name_tag d.tags)

-- the numbers of a board that have a limit, each with its own
abbrev pub counts_of : BoardRow → List (ℕ × ℕ)
counts_of r = (r.jobs_since, most_jobs_since) ∷ []

abbrev pub IsWithin : ℕ × ℕ → Type 0
IsWithin (number, most) = number ≤ most

pub record IsBoardRow (F : Farm) (r : BoardRow) : Type 0 where
  pub words : IsDescription (description_of r)
  pub kind : IsSome (type_of F r.kind)
  pub counts : AllByRecursion IsWithin (counts_of r)
  pub checked : r.last_check ≤ F.clock
  pub retired : r.health ≡ Health.Retired → r.holder ≡ Holder.Nobody

-- what a job comes with; nothing that happens to it changes it
pub record Submission : Type 0 where
  pub owner : List ℕ
  pub priority : ℕ
  pub want : Want
  pub role : Option (List ℕ)
  pub texts : List (List ℕ)

-- the texts that a job carries
abbrev pub texts_of : JobRow → List (List ℕ)
texts_of r = r.body ∷ []

abbrev pub submission_of : JobRow → Submission
submission_of r = record { owner = r.owner; priority = r.priority; want = r.want; role = r.role; texts = texts_of r }

pub record IsJobText (text : List ℕ) : Type 0 where
  pub few : length text ≤ longest_text
  pub utf8 : IsText text

pub record IsSubmission (s : Submission) : Type 0 where
  pub owner : IsName s.owner
  pub priority : IsTrue (is_priority s.priority)
  pub want : IsTrue (is_want s.want)
  pub role : IfSome s.role IsName
  pub texts : AllByRecursion IsJobText s.texts

-- a check is a group of one, of the admin, with the highest priority, that never waits for boards, without tags, role and text
pub record IsCheck (r : JobRow) : Type 0 where
  pub alone : r.number ≡ r.group
  pub owner : r.owner ≡ codes "admin"
  pub priority : r.priority ≡ highest_priority
  pub state : phase r.state ≢ 0
  pub tags : r.want.tags ≡ []
  pub role : r.role ≡ None
  pub body : r.body ≡ []

-- a member but the first follows another of the group, no check, with the same owner and priority, and carries no text
pub record Follows (F : Farm) (r : JobRow) : Type 0 where
  pub previous : JobRow
  pub there : job_of F (r.number - 1) ≡ Some previous
  pub group : previous.group ≡ r.group
  pub owner : previous.owner ≡ r.owner
  pub priority : previous.priority ≡ r.priority
  pub ordinary : previous.checking ≡ false
  pub body : r.body ≡ []

pub record IsJobRow (F : Farm) (r : JobRow) : Type 0 where
  pub number : (1 ≤ r.number) × (r.number < F.next)
  pub apart : IsNone (res_of F r.number)
  pub words : IsSubmission (submission_of r)
  pub kind : IsSomeAnd r.want.kind (λ kind. IsSome (type_of F kind))
  pub board : IsBoardOf F r.board
  pub outcome : IsTrue (is_some r.outcome) ↔ (r.state ≡ JobState.Finished)
  pub waits : r.state ≡ JobState.Submitted → r.board ≡ None
  pub holds : IsSome (job_gives r.state) → IsSome r.board
  pub group : (r.group ≤ r.number) × (r.number < r.group + most_wants)
  pub follows : r.number ≢ r.group → Follows F r
  pub check : r.checking ≡ true → IsCheck r

pub record IsResRow (F : Farm) (r : ResRow) : Type 0 where
  pub number : (1 ≤ r.number) × (r.number < F.next)
  pub owner : IsName r.owner
  pub priority : IsTrue (is_priority r.priority)
  pub want : IsTrue (is_want r.want)
  pub kind : r.want.kind ≡ None
  pub deadline : r.deadline ≤ F.clock + lease
  pub board : IsBoardOf F r.board
  pub waits : r.state ≡ ResState.Waiting → r.board ≡ None
  pub holds : IsSome (res_gives r.state) → IsSome r.board

pub record IsKeptRow (r : KeptRow) : Type 0 where
  pub caller : IsName r.caller
  pub key : IsKey r.key
  pub kind : (1 ≤ r.kind) × (r.kind ≤ last_kind)
  pub reply : (r.reply.0 ≤ numbers_end) × (r.reply.1 ≤ numbers_end) × (r.reply.2 ≤ numbers_end)

-- how many rows of each kind a farm has, each with its limit
abbrev pub sizes_of : Farm → List (ℕ × ℕ)
sizes_of F = (length F.types, most_types) ∷ (length F.boards, most_boards) ∷ (length F.jobs, most_jobs) ∷ (length F.reservations, most_reservations) ∷ (length F.kept, most_replies) ∷ []

-- words, limits and what each row says of the others: all lines but those of holders and groups
pub record IsSteady (F : Farm) : Type 0 where
  pub types_sorted : IsStrictlySortedBy type_cmp F.types
  pub boards_sorted : IsStrictlySortedBy board_cmp F.boards
  pub jobs_sorted : IsStrictlySortedBy job_cmp F.jobs
  pub reservations_sorted : IsStrictlySortedBy res_cmp F.reservations
  pub kept_sorted : IsStrictlySortedBy kept_cmp F.kept
  pub types : AllByRecursion IsTypeRow F.types
  pub boards : AllByRecursion (IsBoardRow F) F.boards
  pub jobs : AllByRecursion (IsJobRow F) F.jobs
  pub reservations : AllByRecursion (IsResRow F) F.reservations
  pub kept : AllByRecursion IsKeptRow F.kept
  pub few : AllByRecursion IsWithin (sizes_of F)
  pub few_of_kind : (kind : List ℕ) → length (filter (λ b. bytes_eq b.kind kind) F.boards) ≤ most_boards_of_type
  pub clock : F.clock ≤ last_moment
  pub count : F.count ≤ most_commands
  pub next : (1 ≤ F.next) × (F.next ≤ numbers_end)

pub record IsSound (F : Farm) : Type 0 where
  pub steady : IsSteady F
  pub held : IsHeldByKeys F
  pub whole : AreGroupsInPhase F
  pub collecting : IsCollecting F.collector F.jobs
