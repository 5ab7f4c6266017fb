-- The rows of the six tables, column by column.
use Rattle.std.specs.Prelude.{ℕ, pos, Bool, false, ◌==◌, ◌&&◌, if◌then◌else◌, List, [], ◌∷◌, ◌++◌, map, unwrap_or, codes, IsTrue}
use Rattle.std.specs.List.{list_any}
use Rattle.std.specs.Option.{option_map_or}
use Rattle.std.specs.Str.{bytes_eq}
use Rattle.sqlite.specs.declared.types.Value.{Value}
use Rattle.sqlite.specs.declared.types.Value.TheVariants.{Int, Text}
use Rattle.sqlite_schema.specs.declared.schema.Kind.{Kind}
use Rattle.sqlite.specs.Order.{Row, column}
use Rattle.sqlite_value.specs.Order.{value_cmp}
use Rattle.std.specs.declared.cmp.Ordering.{Ordering}
use Rattle.std.specs.Ordering.{ordering_then}
use Rattle.farm_types.specs.Names.{every_of, Farm, health_code, held_by, job_state_code, outcome_code, res_state_code, state_code, tags_text}
use Rattle.farm_types.specs.declared.rows.Check.{Check}
use Rattle.farm_types.specs.declared.rows.Holder.{Holder}
use Rattle.farm_types.specs.declared.rows.TypeRow.{TypeRow}
use Rattle.farm_types.specs.declared.rows.BoardRow.{BoardRow}
use Rattle.farm_types.specs.declared.rows.JobRow.{JobRow}
use Rattle.farm_types.specs.declared.rows.JobState.{JobState}
use Rattle.farm_types.specs.declared.rows.ResRow.{ResRow}
use Rattle.farm_types.specs.declared.rows.KeptRow.{KeptRow}
use Rattle.farm_types.specs.declared.rows.MetaRow.{MetaRow}

-- a column of a table whose rows stand for such things, and what it holds of one
pub record Field (R : Type 0) : Type 0 where
  pub name : List ℕ
  pub kind : Kind
  pub value : R → Value

abbrev pub text : {R : Type 0} → List ℕ → (R → List ℕ) → Field R
text name f = record { name = name; kind = Kind.Text; value = λ r. Text (f r) }

abbrev pub number : {R : Type 0} → List ℕ → (R → ℕ) → Field R
number name f = record { name = name; kind = Kind.Integer; value = λ r. Int (pos (f r)) }

-- the row that stands for a thing
abbrev pub row_values : {R : Type 0} → List (Field R) → R → Row
row_values fields r = map (λ f. f.value r) fields

-- the unit of a check's frequency: none, hours or jobs
abbrev pub unit_code : Check → ℕ
unit_code Check.Never = 0
unit_code (Check.Hours n) = 1
unit_code (Check.Jobs n) = 2

-- who holds a board: nobody, a job or a reservation
abbrev pub holder_of : Holder → ℕ
holder_of Holder.Nobody = 0
holder_of (Holder.Job n) = 1
holder_of (Holder.Res n) = 2

abbrev pub checking_code : Bool → ℕ
checking_code checking = if checking then 1 else 0

-- ---- the columns of each table

abbrev pub type_fields : List (Field TypeRow)
type_fields = text (codes "name") (λ r. r.name)
    ∷ number (codes "unit") (λ r. unit_code r.check)
    ∷ number (codes "every") (λ r. every_of r.check) ∷ []

abbrev pub board_fields : List (Field BoardRow)
board_fields = text (codes "name") (λ r. r.name)
    ∷ text (codes "kind") (λ r. r.kind)
    ∷ text (codes "tags") (λ r. tags_text r.tags)
    ∷ number (codes "health") (λ r. health_code r.health)
    ∷ number (codes "state") (λ r. state_code r.state)
    ∷ number (codes "holder") (λ r. holder_of r.holder)
    ∷ number (codes "held_by") (λ r. held_by r.holder)
    ∷ number (codes "jobs_since") (λ r. r.jobs_since)
    ∷ number (codes "last_check") (λ r. r.last_check) ∷ []

-- with a code for its state
abbrev pub job_fields_by : (JobState → ℕ) → List (Field JobRow)
job_fields_by code = number (codes "number") (λ r. r.number)
    ∷ number (codes "grp") (λ r. r.group)
    ∷ number (codes "checking") (λ r. checking_code r.checking)
    ∷ text (codes "owner") (λ r. r.owner)
    ∷ number (codes "priority") (λ r. r.priority)
    ∷ text (codes "kind") (λ r. unwrap_or r.want.kind [])
    ∷ text (codes "tags") (λ r. tags_text r.want.tags)
    ∷ text (codes "role") (λ r. unwrap_or r.role [])
    ∷ number (codes "state") (λ r. code r.state)
    ∷ number (codes "outcome") (λ r. option_map_or outcome_code r.outcome 0)
    ∷ text (codes "board") (λ r. unwrap_or r.board [])
    ∷ text (codes "body") (λ r. r.body) ∷ []

abbrev pub job_fields : List (Field JobRow)
job_fields = job_fields_by job_state_code

abbrev pub res_fields : List (Field ResRow)
res_fields = number (codes "number") (λ r. r.number)
    ∷ text (codes "owner") (λ r. r.owner)
    ∷ number (codes "priority") (λ r. r.priority)
    ∷ text (codes "tags") (λ r. tags_text r.want.tags)
    ∷ number (codes "state") (λ r. res_state_code r.state)
    ∷ number (codes "deadline") (λ r. r.deadline)
    ∷ text (codes "board") (λ r. unwrap_or r.board []) ∷ []

abbrev pub kept_fields : List (Field KeptRow)
kept_fields = text (codes "caller") (λ r. r.caller)
    ∷ text (codes "ckey") (λ r. r.key)
    ∷ number (codes "kind") (λ r. r.kind)
    ∷ number (codes "a") (λ r. r.reply.0)
    ∷ number (codes "b") (λ r. r.reply.1)
    ∷ number (codes "c") (λ r. r.reply.2) ∷ []

abbrev pub type_columns : TypeRow → Row
type_columns = row_values type_fields

abbrev pub board_columns : BoardRow → Row
board_columns = row_values board_fields

abbrev pub job_columns : JobRow → Row
job_columns = row_values job_fields

abbrev pub res_columns : ResRow → Row
res_columns = row_values res_fields

abbrev pub kept_columns : KeptRow → Row
kept_columns = row_values kept_fields

abbrev pub meta_row : List ℕ → ℕ → Row
meta_row name value = Text name ∷ Int (pos value) ∷ []

-- the farm's numbers by their names, in byte order of the names
abbrev pub number_rows : MetaRow → List Row
number_rows m = meta_row (codes "clock") m.clock ∷ meta_row (codes "collector") m.collector
    ∷ meta_row (codes "count") m.count ∷ meta_row (codes "next") m.next ∷ []

-- the four numbers as values, in the same order
abbrev pub meta_values : MetaRow → Row
meta_values m = Int (pos m.clock) ∷ Int (pos m.collector) ∷ Int (pos m.count) ∷ Int (pos m.next)
    ∷ []

-- the version of the tables, in the first edition and in this one
abbrev pub first_schema : ℕ
first_schema = 1

abbrev pub second_schema : ℕ
second_schema = 2

-- with the version of the tables, whose name comes last, all rows of their table
abbrev pub meta_rows : MetaRow → List Row
meta_rows m = number_rows m ++ meta_row (codes "schema") second_schema ∷ []

abbrev pub numbers_of : Farm → MetaRow
numbers_of F = record {
  clock = F.clock;
  collector = F.collector;
  count = F.count;
  next = F.next;
}

-- the six tables as lists of rows, in order of their keys
pub record TableRows : Type 0 where
  pub types : List Row
  pub boards : List Row
  pub jobs : List Row
  pub reservations : List Row
  pub kept : List Row
  pub meta : List Row

-- those of a farm, with a code for the states of its jobs, and the rows of its numbers
abbrev pub rows_by : (JobState → ℕ) → (MetaRow → List Row) → Farm → TableRows
rows_by code numbers F = record {
  types = map type_columns F.types;
  boards = map board_columns F.boards;
  jobs = map (row_values (job_fields_by code)) F.jobs;
  reservations = map res_columns F.reservations;
  kept = map kept_columns F.kept;
  meta = numbers (numbers_of F);
}

unfoldable pub rows_of : Farm → TableRows
rows_of F = rows_by job_state_code meta_rows F

-- ---- the first edition's tables: the states of jobs have codes of their own, and Scheduling has
-- none that is read; no row has the group that collects

abbrev pub first_state_code : JobState → ℕ
first_state_code JobState.Submitted = 0
first_state_code JobState.Scheduled = 1
first_state_code JobState.Running = 2
first_state_code JobState.Canceling = 3
first_state_code JobState.Finished = 4
first_state_code JobState.Scheduling = 5

abbrev pub first_meta_rows : MetaRow → List Row
first_meta_rows m = meta_row (codes "clock") m.clock ∷ meta_row (codes "count") m.count
    ∷ meta_row (codes "next") m.next ∷ meta_row (codes "schema") first_schema ∷ []

unfoldable pub first_rows_of : Farm → TableRows
first_rows_of F = rows_by first_state_code first_meta_rows F

-- ----

-- the value is this text, or this number
abbrev pub is_text : List ℕ → Value → Bool
is_text text (Text found) = bytes_eq found text
is_text text value = false

abbrev pub is_number : ℕ → Value → Bool
is_number number (Int (pos found)) = found == number
is_number number value = false

-- a row has this version of the tables
abbrev pub is_version_row : ℕ → Row → Bool
is_version_row version r = is_text (codes "schema") (column r 0) && is_number version (column r 1)

-- the tables say that they are of this version
abbrev pub IsOfSchema : ℕ → TableRows → Type 0
IsOfSchema version T = IsTrue (list_any (is_version_row version) T.meta)

-- rows by their first column, and by their first two
abbrev pub by_first : Row → Row → Ordering
by_first a b = value_cmp (column a 0) (column b 0)

abbrev pub by_two : Row → Row → Ordering
by_two a b = ordering_then (value_cmp (column a 0) (column b 0))
    (value_cmp (column a 1) (column b 1))

-- six tables without a row
abbrev pub no_rows : TableRows
no_rows = record { types = []; boards = []; jobs = []; reservations = []; kept = []; meta = [] }
