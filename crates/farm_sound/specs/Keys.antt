-- The row of a list with a number: of a farm's table it is `job_of` or `res_of`.
use Rattle.std.specs.Prelude.{◌==◌, ℕ, List, Option}
use Rattle.std.specs.List.{find}
use Rattle.farm_types.specs.declared.rows.JobRow.{JobRow}
use Rattle.farm_types.specs.declared.rows.ResRow.{ResRow}

abbrev pub job_in : List JobRow → ℕ → Option JobRow
job_in rows number = find (λ r. r.number == number) rows

abbrev pub res_in : List ResRow → ℕ → Option ResRow
res_in rows number = find (λ r. r.number == number) rows
