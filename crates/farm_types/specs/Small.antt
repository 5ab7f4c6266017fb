-- The numbers that a store can keep.
use Rattle.std.specs.Prelude.{◌≤◌, ℕ, List, ◌∷◌, map}
use Rattle.std.specs.List.{AllByRecursion}
use Rattle.farm_types.specs.Limits.{largest_stored}
use Rattle.farm_types.specs.Sound.{counts_of}
use Rattle.farm_types.specs.declared.calls.Rows.{Rows}
use Rattle.farm_types.specs.declared.rows.Check.{Check}
use Rattle.farm_types.specs.declared.rows.Holder.{Holder}
use Rattle.farm_types.specs.declared.rows.TypeRow.{TypeRow}
use Rattle.farm_types.specs.declared.rows.BoardRow.{BoardRow}
use Rattle.farm_types.specs.declared.rows.JobRow.{JobRow}
use Rattle.farm_types.specs.declared.rows.ResRow.{ResRow}
use Rattle.farm_types.specs.declared.rows.KeptRow.{KeptRow}

abbrev pub IsSmall : ℕ → Type 0
IsSmall n = n ≤ largest_stored

-- a check's frequency, and 0 without a check
abbrev pub every_of : Check → ℕ
every_of Check.Never = 0
every_of (Check.Hours n) = n
every_of (Check.Jobs n) = n

-- the number of a board's holder, and 0 with nobody
abbrev pub held_by : Holder → ℕ
held_by Holder.Nobody = 0
held_by (Holder.Job n) = n
held_by (Holder.Res n) = n

abbrev pub IsSmallType : TypeRow → Type 0
IsSmallType r = IsSmall (every_of r.check)

-- the numbers of a board, but its holder's: the moment of its last check, and those that have a limit
abbrev pub board_numbers : BoardRow → List ℕ
board_numbers r = r.last_check ∷ map (λ c. c.0) (counts_of r)

pub record IsSmallBoard (r : BoardRow) : Type 0 where
  pub held_by : IsSmall (held_by r.holder)
  pub numbers : AllByRecursion IsSmall (board_numbers r)

pub record IsSmallJob (r : JobRow) : Type 0 where
  pub number : IsSmall r.number
  pub group : IsSmall r.group

pub record IsSmallRes (r : ResRow) : Type 0 where
  pub number : IsSmall r.number
  pub deadline : IsSmall r.deadline

pub record IsSmallKept (r : KeptRow) : Type 0 where
  pub kind : IsSmall r.kind
  pub first : IsSmall r.reply.0
  pub second : IsSmall r.reply.1
  pub third : IsSmall r.reply.2

-- each number of the changed rows is small
pub record AreSmall (c : Rows) : Type 0 where
  pub types : AllByRecursion IsSmallType c.types.items
  pub boards : AllByRecursion IsSmallBoard c.boards.items
  pub jobs : AllByRecursion IsSmallJob c.jobs.items
  pub reservations : AllByRecursion IsSmallRes c.reservations.items
  pub kept : AllByRecursion IsSmallKept c.kept.items
  pub clock : IsSmall c.meta.clock
  pub collector : IsSmall c.meta.collector
  pub count : IsSmall c.meta.count
  pub next : IsSmall c.meta.next
