-- Farms of the first edition, and what bringing one to this edition leaves and reports.
use Rattle.std.specs.Prelude.{◌≡◌, ◌≢◌, ◌⊎◌, false, Result, Err, IfErr, OnErr, OnOk}
use Rattle.std.specs.Result.{result_err}
use Rattle.sqlite.specs.State.{State, HasCleanDisk}
use Rattle.sqlite.specs.Tree.{Trees}
use Rattle.farm_types.specs.Names.{Farm, IsSound}
use Rattle.farm_store.specs.Columns.{IsOfSchema, TableRows, first_rows_of, first_schema, rows_of, second_schema}
use Rattle.farm_store.specs.Holds.{Holds, KeepsDoubt, LeavesEither, Stands}
use Rattle.farm_store.specs.Schema.{farm_schema}
use Rattle.farm_keep.specs.Faults.{IsMigrateFault}
use Rattle.farm_keep.specs.Found.{LooksForFirst}
use Rattle.farm_keep.specs.declared.fault.KeepFault.{KeepFault}

-- a sound farm that the first edition knew: no group collects in it, so no job is Scheduling
pub record IsSoundFirst (F : Farm) : Type 0 where
  pub sound : IsSound F
  pub none : F.collector ≡ 0

-- the trees hold the farm's tables of the first edition, or those of this one
abbrev pub HoldsEitherEdition : Trees → Farm → Type 0
HoldsEitherEdition db F = Holds db (first_rows_of F) ⊎ Holds db (rows_of F)

-- what a migration makes of a store, and what it reports of it
pub record Migrates {A : Type 0} (old new : State) (result : Result A KeepFault) : Type 0 where
  pub autocommit : new.in_transaction ≡ false
  pub clean : KeepsDoubt old new
  -- where it is done, a sound farm's tables of the first edition stood there, and no other table,
  -- column, index or view; now the same farm's tables of this edition stand there
  pub ok : HasCleanDisk new → OnOk result ((F : Farm) → IsSoundFirst F
      → Stands old (first_rows_of F) → Stands new (rows_of F))
  pub only : HasCleanDisk new → OnOk result ((T : TableRows) → Stands old T
      → (F : Farm) × IsSoundFirst F × (T ≡ first_rows_of F))
  pub ours : OnOk result (old.now.schema ≡ farm_schema)
  -- whatever comes of it, a stop leaves the ones or the others
  pub stop : HasCleanDisk new → (F : Farm) → IsSoundFirst F → Stands old (first_rows_of F)
      → LeavesEither new (first_rows_of F) (rows_of F)
  -- tables of no sound farm of the first edition stay, whatever comes of it; and all tables stay
  -- after a fault that isn't the store's
  pub others : HasCleanDisk new → (T : TableRows) → Stands old T
      → ((F : Farm) → IsSoundFirst F → T ≢ first_rows_of F) → Stands new T
  pub rests : HasCleanDisk new → result ≢ Err KeepFault.Store
      → OnErr result ((T : TableRows) → Stands old T → Stands new T)
  -- bad are only tables of no sound farm of the first edition, and new only those of this one
  pub bad : HasCleanDisk new → result ≡ Err KeepFault.BadStore → (F : Farm) → IsSoundFirst F
      → ¬ Stands old (first_rows_of F)
  pub newer : HasCleanDisk new → result ≡ Err KeepFault.NewSchema → (T : TableRows) → Stands old T
      → IsOfSchema second_schema T
  -- the version is looked at before anything else: of our tables, and of any store
  pub known : HasCleanDisk new → (T : TableRows) → Stands old T → IsOfSchema second_schema T
      → (result ≡ Err KeepFault.NewSchema) ⊎ (result ≡ Err KeepFault.Store)
  pub other : HasCleanDisk new → (T : TableRows) → Stands old T → ¬ IsOfSchema second_schema T
      → ¬ IsOfSchema first_schema T
      → (result ≡ Err KeepFault.BadStore) ⊎ (result ≡ Err KeepFault.Store)
  pub version : HasCleanDisk new → LooksForFirst (result_err result) old.now
  pub fault : IfErr result IsMigrateFault
