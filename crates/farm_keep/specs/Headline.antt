-- What a run answers and leaves, and what is found again.
use Rattle.std.specs.Prelude.{◌≡◌, ◌≤◌, ◌<◌, ◌⊎◌, ◌+◌, ℕ, true, false, List, [], ◌∷◌, ◌++◌, take, map, length, Option, Some, None, IfSome, IfNone, ⊤}
use Rattle.sqlite.specs.State.{State, HasCleanDisk}
use Rattle.sqlite.specs.Held.{Held, state}
use Rattle.sqlite.specs.Tree.{Trees}
use Rattle.sqlite_trees.specs.declared.store.Store.{Ghosts}
use Rattle.sqlite_trees.specs.View.{doubt}
use Rattle.farm_types.specs.Names.{answer, Answered, Farm, IsSound, run, step}
use Rattle.farm_types.specs.declared.calls.Call.{Call}
use Rattle.farm_core.specs.Answers.{answer_of, IsChange}
use Rattle.farm_store.specs.Columns.{IsOfSchema, TableRows, first_schema, rows_of}
use Rattle.farm_store.specs.Holds.{Holds, Stands, LeavesNoMore}
use Rattle.farm_store.specs.Schema.{farm_schema}
use Rattle.farm_keep.specs.Faults.{IsActFault}
use Rattle.farm_keep.specs.KeeperState.{KeeperState, KeepsOwnFarm, KeepsFarm, KeepsEither}
use Rattle.farm_keep.specs.declared.keeper.run.RunEnd.{RunEnd}
use Rattle.farm_keep.specs.declared.fault.KeepFault.{KeepFault}
use Rattle.farm_keep.specs.declared.fault.KeepFault.TheVariants as fault

-- the machine's answers to one call after another
abbrev pub answers_of : Farm → List Call → List Answered
answers_of F [] = []
answers_of F (call ∷ calls) = answer F call ∷ answers_of (step F call) calls

-- after so many of the calls, the next one's answer is a change's
pub record IsNextChange (F : Farm) (calls : List Call) (done : ℕ) : Type 0 where
  pub answered : Answered
  pub next : answers_of F (take (done + 1) calls) ≡ answers_of F (take done calls) ++ answered ∷ []
  pub change : IsChange answered

-- a stop now leaves the rows of the run over the calls that were answered or, after a fault of the
-- store, perhaps over one call more
abbrev pub LeavesRun : {S : Type 0} → Ghosts S → KeeperState S → RunEnd → Farm → List Call → Type 0
LeavesRun g k end F calls =
    HasCleanDisk (state g k.conn) → (db : Trees) → (state g k.conn).may_leave db
    → Holds db (rows_of (run F (take end.done calls)))
    ⊎ ((end.fault ≡ Some fault.Store) × Holds db (rows_of (run F (take (end.done + 1) calls))))

-- the keeper was made from what the connection held, which had the farm's schema
pub record Adopts {S : Type 0} (g : Ghosts S) (conn : Held S) (k : KeeperState S) : Type 0 where
  pub opened : k.is_open ≡ true
  pub sound : IsSound k.farm.farm
  pub clean : doubt (state g conn).is_clean ≤ doubt (state g k.conn).is_clean
  pub ours : (state g conn).now.schema ≡ farm_schema
  pub left : HasCleanDisk (state g k.conn) → LeavesNoMore (state g conn) (state g k.conn)
  pub stands : HasCleanDisk (state g k.conn) → (T : TableRows) → Stands (state g conn) T
      → Stands (state g k.conn) T
  pub rows : HasCleanDisk (state g k.conn) → (T : TableRows) → Stands (state g conn) T
      → rows_of k.farm.farm ≡ T
  pub exact : HasCleanDisk (state g k.conn) → (F : Farm) → IsSound F
      → Stands (state g conn) (rows_of F) → k.farm.farm ≡ F

-- the store's disk always returns what was written
abbrev pub IsAlwaysClean : {S : Type 0} → Ghosts S → Type 0
IsAlwaysClean {S} g = (h : Held S) → HasCleanDisk (state g h)

-- why a store gives no keeper: it is bad only where no sound farm stands there, and its schema old
-- only where the tables are of the first edition
abbrev pub GivesNoKeeper : State → KeepFault → Type 0
GivesNoKeeper s KeepFault.BadStore = (F : Farm) → IsSound F → ¬ Stands s (rows_of F)
GivesNoKeeper s KeepFault.OldSchema = (T : TableRows) → Stands s T → IsOfSchema first_schema T
GivesNoKeeper s other = ⊤

-- how the run of a closed keeper ends: for want of memory, at its first call, or without a fault
-- where there is none
abbrev pub EndsClosed : Option KeepFault → List Call → Type 0
EndsClosed (Some KeepFault.NoMemory) calls = ⊤
EndsClosed (Some KeepFault.Closed) calls = 0 < length calls
EndsClosed None calls = calls ≡ []
EndsClosed other calls = ⊥

-- what a run over calls makes of a keeper
pub record Runs {S : Type 0} (g : Ghosts S) (old new : KeeperState S) (end : RunEnd)
    (calls : List Call) : Type 0 where
  -- the answers are the machine's, one for each call that was done
  pub counted : length end.answers.items ≡ end.done
  pub within : end.done ≤ length calls
  pub answers : map answer_of end.answers.items ≡ answers_of old.farm.farm (take end.done calls)
  -- without a fault all calls were done, and the store keeps the farm that they lead to
  pub whole : IfNone end.fault ((end.done ≡ length calls) × (new.is_open ≡ old.is_open))
  pub farm : IfNone end.fault (new.farm.farm ≡ run old.farm.farm calls)
  pub stands : IfNone end.fault (KeepsOwnFarm g old → KeepsFarm g new (run old.farm.farm calls))
  -- without memory the keeper is closed, and the store keeps the farm of the calls that were done:
  -- there was no room for the answers, or none for the change of the next call
  pub memory : end.fault ≡ Some fault.NoMemory → (new.is_open ≡ false)
      × ((end.done ≡ 0) ⊎ IsNextChange old.farm.farm calls end.done)
      × (KeepsOwnFarm g old → KeepsFarm g new (run old.farm.farm (take end.done calls)))
  -- where the store refused the change of the next call the keeper is closed, and a stop leaves
  -- that farm or the one after this call
  pub store : end.fault ≡ Some fault.Store → (new.is_open ≡ false) × (end.done < length calls)
      × IsNextChange old.farm.farm calls end.done
      × (KeepsOwnFarm g old → KeepsEither g new (run old.farm.farm (take end.done calls))
      (run old.farm.farm (take (end.done + 1) calls)))
  -- a keeper that was closed does nothing
  pub closed : end.fault ≡ Some fault.Closed → (old.is_open ≡ false) × (new ≡ old)
  pub before : old.is_open ≡ false → (end.done ≡ 0) × (new.conn ≡ old.conn) × (new.is_open ≡ false)
      × EndsClosed end.fault calls
  pub faults : IfSome end.fault IsActFault
  -- however the run ended, a stop leaves no other tables, and each farm on the way is sound
  pub left : KeepsOwnFarm g old → LeavesRun g new end old.farm.farm calls
  pub sound : old.is_open ≡ true → (n : ℕ) → IsSound (run old.farm.farm (take n calls))
  pub clean : doubt (state g old.conn).is_clean ≤ doubt (state g new.conn).is_clean

-- a keeper that was made from what the connection held ran the calls
pub record Resumes {S : Type 0} (g : Ghosts S) (conn : Held S) (k : KeeperState S) (end : RunEnd)
    (calls : List Call) : Type 0 where
  pub adopted : KeeperState S
  pub adopts : Adopts g conn adopted
  pub runs : Runs g adopted k end calls
