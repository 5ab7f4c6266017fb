-- Lives of a store: each opens it on what the last stop left, and is stopped while it looks for the
-- farm, or once it resumed the farm.
use Rattle.std.specs.Prelude.{◌≡◌, ◌⊎◌, ◌+◌, ℕ, List, [], ◌∷◌, Some, Result, IfOk, IfErr, take}
use Rattle.std.specs.List.{AllZip}
use Rattle.sqlite.specs.Held.{Held, state}
use Rattle.sqlite.specs.State.{State, HasCleanDisk, IsLive, Opens}
use Rattle.sqlite.specs.Tree.{Trees}
use Rattle.sqlite_trees.specs.declared.store.Store.{Ghosts}
use Rattle.farm_core.specs.Shown.{Shown}
use Rattle.farm_types.specs.Names.{Farm, run}
use Rattle.farm_types.specs.declared.calls.Call.{Call}
use Rattle.farm_store.specs.Holds.{ReadsOnly}
use Rattle.farm_keep.specs.Faults.{IsOwnFault}
use Rattle.farm_keep.specs.KeeperState.{KeeperState}
use Rattle.farm_keep.specs.Headline.{Resumes}
use Rattle.farm_keep.specs.Restarts.{Restart, calls_of_restarts}
use Rattle.farm_keep.specs.declared.keeper.run.RunEnd.{RunEnd}
use Rattle.farm_keep.specs.declared.fault.KeepFault.{KeepFault}

-- the connection was just opened, and these trees are its last commit
pub record OpensOn (s : State) (db : Trees) : Type 0 where
  pub opens : Opens s
  pub live : IsLive s
  pub on : s.committed.trees ≡ db

-- a stop after a run leaves so many of its calls done: those that were answered or, after a fault
-- of the store, perhaps one more
abbrev pub LeavesDone : RunEnd → ℕ → Type 0
LeavesDone end n = (n ≡ end.done) ⊎ ((end.fault ≡ Some KeepFault.Store) × (n ≡ end.done + 1))

-- the store gives this very farm, memory and its own faults aside
pub record GivesFarm (result : Result Shown KeepFault) (F : Farm) : Type 0 where
  pub exact : IfOk result (λ shown. shown.farm ≡ F)
  pub fault : IfErr result IsOwnFault

-- the farm after so many of the calls as a stop after this run leaves done
pub record GivesRun (result : Result Shown KeepFault) (F : Farm) (end : RunEnd) (calls : List Call)
    : Type 0 where
  pub done : ℕ
  pub counts : LeavesDone end done
  pub gives : GivesFarm result (run F (take done calls))

-- one life: it was stopped while it looked for the farm, with the connection as it was opened and as
-- it was then; or after it had run calls, with the connection, the keeper that it ended with, how
-- its run ended, and the calls
pub data Life (S : Type 0) : Type 0 where
  Looked : (opened conn : Held S) → Life S
  Ran : (opened : Held S) (keeper : KeeperState S) (end : RunEnd) (calls : List Call) → Life S

-- it was opened on the first trees, had then only read, found a farm or not, and its stop left the
-- other trees
pub record IsStoppedEarly {S : Type 0} (g : Ghosts S) (opened conn : Held S) (first last : Trees)
    : Type 0 where
  pub opens : OpensOn (state g opened) first
  pub reads : ReadsOnly (state g opened) (state g conn)
  pub clean : HasCleanDisk (state g conn)
  pub left : (state g conn).may_leave last

-- it was opened on the first trees, resumed and ran its calls, and its stop left the other trees
pub record IsStoppedLate {S : Type 0} (g : Ghosts S) (opened : Held S) (keeper : KeeperState S)
    (end : RunEnd) (calls : List Call) (first last : Trees) : Type 0 where
  pub opens : OpensOn (state g opened) first
  pub resumes : Resumes g opened keeper end calls
  pub clean : HasCleanDisk (state g keeper.conn)
  pub left : (state g keeper.conn).may_leave last

abbrev pub IsLived : {S : Type 0} → Ghosts S → Life S → Trees → Trees → Type 0
IsLived g (Life.Looked opened conn) first last = IsStoppedEarly g opened conn first last
IsLived g (Life.Ran opened keeper end calls) first last =
    IsStoppedLate g opened keeper end calls first last

-- lives one after another
abbrev pub AreLived : {S : Type 0} → Ghosts S → List (Life S) → Trees → Trees → Type 0
AreLived g [] first last = first ≡ last
AreLived g (life ∷ lives) first last = (db : Trees) × IsLived g life first db
    × AreLived g lives db last

-- a life as a restart of the machine: one that was stopped early did no call
abbrev pub IsRestart : {S : Type 0} → Life S → Restart → Type 0
IsRestart (Life.Looked opened conn) restart = (restart.calls ≡ []) × (restart.done ≡ 0)
IsRestart (Life.Ran opened keeper end calls) restart = (restart.calls ≡ calls)
    × LeavesDone end restart.done

-- the farm after the calls that were done in all lives, one after another
pub record GivesRestarts {S : Type 0} (result : Result Shown KeepFault) (F : Farm)
    (lives : List (Life S)) : Type 0 where
  pub restarts : List Restart
  pub each : AllZip IsRestart lives restarts
  pub gives : GivesFarm result (run F (calls_of_restarts restarts))
