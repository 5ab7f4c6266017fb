-- What reading makes of columns and rows.
use Rattle.std.specs.Prelude.{◌≡◌, ◌≢◌, ◌⊎◌, IsTrue, ℕ, suc, List, [], ◌∷◌, Result, Err, IfOk, MatchResult, map, ⊤}
use Rattle.std.specs.List.{AllByRecursion, list_any}
use Rattle.sqlite.specs.Effect.{Database}
use Rattle.sqlite.specs.Order.{Row}
use Rattle.sqlite.specs.State.{State}
use Rattle.sqlite_value.specs.Order.{column}
use Rattle.farm_types.specs.Names.{Farm, farm_of}
use Rattle.farm_types.specs.declared.calls.Rows.{Rows}
use Rattle.farm_types.specs.declared.fault.WordFault.{WordFault}
use Rattle.farm_types.specs.declared.fault.WordFault.TheVariants.{NoMemory}
use Rattle.farm_types.specs.declared.refusal.Refusal.{Refusal}
use Rattle.farm_store.specs.Columns.{IsOfSchema, TableRows, is_version_row}
use Rattle.farm_store.specs.Editions.{IsReadableIn, other_edition, rows_in, schema_of, table_columns_in, version_fault}
use Rattle.farm_store.specs.Holds.{ShowsTables, StandsWith}
use Rattle.farm_store.specs.Versions.{MayHaveVersion, HasVersion}
use Rattle.farm_store.specs.declared.edition.Edition.{Edition}
use Rattle.farm_store.specs.declared.fault.StoreFault.{StoreFault}
use Rattle.farm_store.specs.declared.fault.StoreFault.TheVariants.{BadStore, NewSchema, OldSchema, Store}

-- a fault that says nothing of the version
abbrev pub IsNoVersionFault : StoreFault → Type 0
IsNoVersionFault fault = (fault ≢ OldSchema) × (fault ≢ NewSchema)

-- what was read is good and is spelled so; it is refused only where nothing good is spelled so
abbrev pub ReadsAs : {X V : Type 0} → Result X Refusal → (X → Type 0) → (X → V) → V → Type 0
ReadsAs result IsGood spelled value =
    MatchResult result (λ x. IsGood x × (value ≡ spelled x)) (λ _. (x : _) → IsGood x → value ≢ spelled x)

-- the same of what takes memory
abbrev pub ReadsWord : {X V : Type 0} → Result X WordFault → (X → Type 0) → (X → V) → V → Type 0
ReadsWord result IsGood spelled value =
    MatchResult result (λ x. IsGood x × (value ≡ spelled x))
    (λ fault. fault ≢ NoMemory → (x : _) → IsGood x → value ≢ spelled x)

-- these are the row's columns from one place on
abbrev pub HasColumns : Row → ℕ → Row → Type 0
HasColumns row at [] = ⊤
HasColumns row at (v ∷ vs) = (column row at ≡ v) × HasColumns row (suc at) vs

-- the same of a row, column by column
abbrev pub ReadsRow : {X : Type 0} → Result X WordFault → (X → Type 0) → (X → Row) → Row → Type 0
ReadsRow result IsGood columns row =
    MatchResult result (λ x. IsGood x × HasColumns row 0 (columns x))
    (λ fault. fault ≢ NoMemory → (x : _) → IsGood x → ¬ HasColumns row 0 (columns x))

-- the same of all rows of a table
abbrev pub ReadsAll : {A X : Type 0} → Result A StoreFault → (A → List X) → (X → Type 0) → (X → Row)
    → List Row → Type 0
ReadsAll result items IsGood columns rows =
    MatchResult result (λ a. AllByRecursion IsGood (items a) × (rows ≡ map columns (items a)))
    (λ fault. IsNoVersionFault fault × (fault ≡ BadStore → (xs : List _) → AllByRecursion IsGood xs
    → rows ≢ map columns xs))

-- an open connection goes back to these tables
abbrev pub CommitShows : State → TableRows → Type 0
CommitShows s T = IsTrue s.is_open → ShowsTables s.committed T

-- the version is looked at before anything else: tables of the other edition are refused as such,
-- and those of neither as bad, where the store doesn't fail
pub record LooksAtSchema {A : Type 0} (edition : Edition) (result : Result A StoreFault)
    (T : TableRows) : Type 0 where
  pub known : IsOfSchema (schema_of (other_edition edition)) T
      → (result ≡ Err (version_fault (other_edition edition))) ⊎ (result ≡ Err Store)
  pub other : ¬ IsOfSchema (schema_of (other_edition edition)) T
      → ¬ IsOfSchema (schema_of edition) T
      → (result ≡ Err BadStore) ⊎ (result ≡ Err Store)

-- the version is looked at before anything else, whatever stands there beside the numbers: the store
-- is refused as the other edition's only where its `meta` may have that version, and it is where
-- `meta` has it; where it has neither the store is bad. Or the store failed
pub record LooksFirst {A : Type 0} (edition : Edition) (result : Result A StoreFault)
    (db : Database) : Type 0 where
  pub reported : result ≡ Err (version_fault (other_edition edition))
      → MayHaveVersion (schema_of (other_edition edition)) db
  pub known : HasVersion (schema_of (other_edition edition)) db
      → (result ≡ Err (version_fault (other_edition edition))) ⊎ (result ≡ Err Store)
  pub neither : ¬ MayHaveVersion (schema_of (other_edition edition)) db
      → ¬ MayHaveVersion (schema_of edition) db
      → (result ≡ Err BadStore) ⊎ (result ≡ Err Store)

-- rows of the numbers are refused as the other edition's, or as those of neither
abbrev pub IsVersionFault : Edition → StoreFault → List Row → Type 0
IsVersionFault edition fault rows =
    ((fault ≡ version_fault (other_edition edition))
    × IsTrue (list_any (is_version_row (schema_of (other_edition edition))) rows))
    ⊎ ((fault ≡ BadStore)
    × ¬ IsTrue (list_any (is_version_row (schema_of (other_edition edition))) rows)
    × ¬ IsTrue (list_any (is_version_row (schema_of edition)) rows))

-- they have their edition's version, and not the other's
abbrev pub IsVersion : Edition → List Row → Type 0
IsVersion edition rows =
    ¬ IsTrue (list_any (is_version_row (schema_of (other_edition edition))) rows)
    × IsTrue (list_any (is_version_row (schema_of edition)) rows)

-- the rows read are those of a readable farm with these tables; they are refused as bad only where
-- no readable farm has them
abbrev pub ReadsFarm : Edition → Result Rows StoreFault → TableRows → Type 0
ReadsFarm edition result T =
    MatchResult result
    (λ rows. IsReadableIn edition (farm_of rows) × (rows_in edition (farm_of rows) ≡ T))
    (λ fault. fault ≡ BadStore → (F : Farm) → IsReadableIn edition F → rows_in edition F ≢ T)

-- the edition's tables stand there, with these rows
abbrev pub StandsIn : Edition → State → TableRows → Type 0
StandsIn edition = StandsWith (table_columns_in edition)

-- what a reading of the tables of an edition reports of the store
pub record ReadsEdition (edition : Edition) (result : Result Rows StoreFault) (s : State)
    : Type 0 where
  -- the rows are those of a readable farm with the tables that stand there: of that very farm
  pub rows : IfOk result (λ rows. (T : TableRows) → StandsIn edition s T
      → rows_in edition (farm_of rows) ≡ T)
  pub readable : IfOk result (λ rows. (T : TableRows) → StandsIn edition s T
      → IsReadableIn edition (farm_of rows))
  pub farm : IfOk result (λ rows. (F : Farm) → IsReadableIn edition F
      → StandsIn edition s (rows_in edition F) → farm_of rows ≡ F)
  -- bad are only tables that no readable farm has, and of the other edition only those of its
  -- version
  pub bad : result ≡ Err BadStore → (F : Farm) → IsReadableIn edition F
      → ¬ StandsIn edition s (rows_in edition F)
  pub other : result ≡ Err (version_fault (other_edition edition)) → (T : TableRows)
      → StandsIn edition s T → IsOfSchema (schema_of (other_edition edition)) T
  -- the version is looked at before anything else: of our tables, and of any store
  pub schema : (T : TableRows) → StandsIn edition s T → LooksAtSchema edition result T
  pub version : LooksFirst edition result s.now

-- the same of the first edition's
abbrev pub ReadsFirst : Result Rows StoreFault → State → Type 0
ReadsFirst = ReadsEdition Edition.First
