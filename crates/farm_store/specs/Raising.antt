-- Tables on their way from the first edition to the second.
use Rattle.std.specs.Prelude.{ℕ, List, if◌then◌else◌, map, nat_lt}
use Rattle.sqlite.specs.Order.{Row}
use Rattle.farm_types.specs.declared.rows.JobRow.{JobRow}
use Rattle.farm_store.specs.Columns.{TableRows}
use Rattle.farm_store.specs.Editions.{job_columns_in}
use Rattle.farm_store.specs.declared.edition.Edition.{Edition}

-- how a job is spelled where the jobs below a number are raised
abbrev pub edition_below : ℕ → JobRow → Edition
edition_below number job = if nat_lt job.number number then Edition.Second else Edition.First

abbrev pub columns_below : ℕ → JobRow → Row
columns_below number job = job_columns_in (edition_below number job) job

-- the tables with these jobs, those below the number as the second edition spells them and the
-- others as the first
abbrev pub raised_below : ℕ → List JobRow → TableRows → TableRows
raised_below number jobs T = record T { jobs = map (columns_below number) jobs }
