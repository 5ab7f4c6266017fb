-- What each edition of the tables has of its own, and what it can spell.
use Rattle.std.specs.Prelude.{◌≡◌, ◌≢◌, ℕ, List, map, ⊤}
use Rattle.sqlite.specs.Order.{Row}
use Rattle.farm_types.specs.Names.{Farm, job_state_code}
use Rattle.farm_types.specs.declared.rows.JobRow.{JobRow}
use Rattle.farm_types.specs.declared.rows.JobState.{JobState}
use Rattle.farm_types.specs.declared.rows.MetaRow.{MetaRow}
use Rattle.farm_store.specs.Columns.{TableRows, first_meta_rows, first_rows_of, first_schema, board_fields, first_state_code, job_fields_by, kept_fields}
use Rattle.farm_store.specs.Columns.{meta_rows, res_fields, row_values, rows_of, second_schema, type_fields}
use Rattle.farm_store.specs.Readable.{IsReadable, IsReadableFirst, IsReadableJob}
use Rattle.farm_store.specs.Schema.{TableColumns, columns_of}
use Rattle.farm_store.specs.declared.edition.Edition.{Edition}
use Rattle.farm_store.specs.declared.fault.StoreFault.{StoreFault}
use Rattle.farm_store.specs.declared.fault.StoreFault.TheVariants.{NewSchema, OldSchema}

abbrev pub other_edition : Edition → Edition
other_edition Edition.First = Edition.Second
other_edition Edition.Second = Edition.First

-- the version of its tables
abbrev pub schema_of : Edition → ℕ
schema_of Edition.First = first_schema
schema_of Edition.Second = second_schema

-- how its tables are refused where those of the other edition are wanted
abbrev pub version_fault : Edition → StoreFault
version_fault Edition.First = OldSchema
version_fault Edition.Second = NewSchema

-- ---- how it spells

abbrev pub state_code_in : Edition → JobState → ℕ
state_code_in Edition.First = first_state_code
state_code_in Edition.Second = job_state_code

-- the columns of its tables
abbrev pub table_columns_in : Edition → TableColumns
table_columns_in edition = record {
  types = columns_of type_fields;
  boards = columns_of board_fields;
  jobs = columns_of (job_fields_by (state_code_in edition));
  reservations = columns_of res_fields;
  kept = columns_of kept_fields;
}

abbrev pub job_columns_in : Edition → JobRow → Row
job_columns_in edition = row_values (job_fields_by (state_code_in edition))

abbrev pub meta_rows_in : Edition → MetaRow → List Row
meta_rows_in Edition.First = first_meta_rows
meta_rows_in Edition.Second = meta_rows

abbrev pub rows_in : Edition → Farm → TableRows
rows_in Edition.First = first_rows_of
rows_in Edition.Second = rows_of

-- the tables with these jobs, as it spells them
abbrev pub tables_with_jobs : Edition → List JobRow → TableRows → TableRows
tables_with_jobs edition jobs T = record T { jobs = map (job_columns_in edition) jobs }

-- ---- what it can spell: in the first edition no job is Scheduling, and no group collects

abbrev pub IsStateIn : Edition → JobState → Type 0
IsStateIn Edition.First state = state ≢ JobState.Scheduling
IsStateIn Edition.Second state = ⊤

abbrev pub IsCollectorIn : Edition → ℕ → Type 0
IsCollectorIn Edition.First collector = collector ≡ 0
IsCollectorIn Edition.Second collector = ⊤

pub record IsReadableJobIn (edition : Edition) (r : JobRow) : Type 0 where
  pub words : IsReadableJob r
  pub state : IsStateIn edition r.state

abbrev pub IsReadableIn : Edition → Farm → Type 0
IsReadableIn Edition.First = IsReadableFirst
IsReadableIn Edition.Second = IsReadable
