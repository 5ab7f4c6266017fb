-- What is true of each job in a table: its numbers are small, and the members of a group are near.
use Rattle.std.specs.Prelude.{◌≤◌, ◌<◌, ◌+◌}
use Rattle.farm_types.specs.Names.{IsSmallJob, most_wants}
use Rattle.farm_types.specs.declared.rows.JobRow.{JobRow}

-- a member's number is one of the four from its group's on
abbrev pub IsNear : JobRow → Type 0
IsNear j = (j.group ≤ j.number) × (j.number < j.group + most_wants)

pub record IsFitJob (j : JobRow) : Type 0 where
  pub small : IsSmallJob j
  pub near : IsNear j
