-- What a look for a farm reports of the store, and what any call says of the version that its `meta`
-- has, whatever else stands there.
use Rattle.std.specs.Prelude.{◌≡◌, ◌⊎◌, ℕ, Option, Some, Result, Err, IfOk}
use Rattle.std.specs.Result.{result_err}
use Rattle.sqlite.specs.Effect.{Database}
use Rattle.sqlite.specs.State.{State}
use Rattle.farm_types.specs.Names.{Farm, IsSound}
use Rattle.farm_core.specs.Shown.{Shown}
use Rattle.farm_store.specs.Columns.{IsOfSchema, TableRows, first_schema, rows_of, second_schema}
use Rattle.farm_store.specs.Holds.{Stands}
use Rattle.farm_store.specs.Versions.{MayHaveVersion, HasVersion}
use Rattle.farm_keep.specs.declared.fault.KeepFault.{KeepFault}

-- the version is looked at before anything else: the store is refused so only where its `meta` may
-- have the other version, and it is where `meta` has it; where it has neither the store is bad.
-- Or the store failed
pub record LooksAtVersion (own other : ℕ) (refusal : KeepFault) (fault : Option KeepFault)
    (db : Database) : Type 0 where
  pub reported : fault ≡ Some refusal → MayHaveVersion other db
  pub known : HasVersion other db → (fault ≡ Some refusal) ⊎ (fault ≡ Some KeepFault.Store)
  pub neither : ¬ MayHaveVersion other db → ¬ MayHaveVersion own db
      → (fault ≡ Some KeepFault.BadStore) ⊎ (fault ≡ Some KeepFault.Store)

-- where a farm of this edition is looked for, and where one of the first is to be raised
abbrev pub LooksForFarm : Option KeepFault → Database → Type 0
LooksForFarm fault db = LooksAtVersion second_schema first_schema KeepFault.OldSchema fault db

abbrev pub LooksForFirst : Option KeepFault → Database → Type 0
LooksForFirst fault db = LooksAtVersion first_schema second_schema KeepFault.NewSchema fault db

pub record Finds (result : Result Shown KeepFault) (s : State) : Type 0 where
  -- the farm's tables are those that stood there: where they are a sound farm's, it is exactly that
  -- farm
  pub rows : IfOk result (λ f. (T : TableRows) → Stands s T → rows_of f.farm ≡ T)
  pub exact : IfOk result (λ f. (F : Farm) → IsSound F → Stands s (rows_of F) → f.farm ≡ F)
  -- bad are only tables of no sound farm, and old only those of the first edition
  pub bad : result ≡ Err KeepFault.BadStore → (F : Farm) → IsSound F → ¬ Stands s (rows_of F)
  pub old : result ≡ Err KeepFault.OldSchema → (T : TableRows) → Stands s T
      → IsOfSchema first_schema T
  -- the version is looked at before anything else: of our tables, and of any store
  pub known : (T : TableRows) → Stands s T → IsOfSchema first_schema T
      → (result ≡ Err KeepFault.OldSchema) ⊎ (result ≡ Err KeepFault.Store)
  pub version : LooksForFarm (result_err result) s.now
