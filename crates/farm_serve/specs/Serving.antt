-- What serving connections makes of a keeper: each connection does one call of the machine, or
-- none.
use Rattle.std.specs.Prelude.{◌≡◌, ◌≤◌, ◌<◌, ℕ, true, false, List, length, Result, Ok, Err}
use Rattle.sqlite_trees.specs.declared.store.Store.{Ghosts}
use Rattle.farm_types.specs.Names.{answer, Farm, run, step}
use Rattle.farm_types.specs.declared.calls.Call.{Call}
use Rattle.farm_core.specs.Answers.{IsChange}
use Rattle.farm_keep.specs.KeeperState.{KeeperState, KeepsOwnFarm, KeepsFarm, KeepsEither}
use Rattle.farm_keep.specs.declared.fault.KeepFault.{KeepFault}
use Rattle.farm_serve.specs.declared.fault.DeskFault.{DeskFault}
use Rattle.farm_serve.specs.Response.{WasClosed}

-- the keeper has the farm after these calls, and its store keeps that farm
pub record Reaches {S : Type 0} (g : Ghosts S) (old new : KeeperState S) (calls : List Call)
    : Type 0 where
  pub opened : new.is_open ≡ old.is_open
  pub farm : new.farm.farm ≡ run old.farm.farm calls
  pub keeps : KeepsOwnFarm g old → KeepsOwnFarm g new

-- an open keeper stays open: it has the farm after some calls, at most one a connection, and its
-- store keeps that farm
pub record ServesClients {S : Type 0} (g : Ghosts S) (old new : KeeperState S) (max : ℕ)
    : Type 0 where
  pub was_open : old.is_open ≡ true
  pub calls : List Call
  pub few : length calls ≤ max
  pub reaches : Reaches g old new calls

-- after the keeper's fault a stop leaves the farm before the call or, not after want of memory, the
-- one after it
abbrev pub LeavesAfter : {S : Type 0} → Ghosts S → KeeperState S → KeepFault → Farm → Farm → Type 0
LeavesAfter g k KeepFault.NoMemory F G = KeepsFarm g k F
LeavesAfter g k KeepFault.Store F G = KeepsEither g k F G
LeavesAfter g k fault F G = ⊥

-- some calls were done, and the change of one more closed the keeper with this fault
pub record ServingCloses {S : Type 0} (g : Ghosts S) (old new : KeeperState S) (max : ℕ)
    (fault : KeepFault) : Type 0 where
  pub was_open : old.is_open ≡ true
  pub is_closed : new.is_open ≡ false
  pub calls : List Call
  pub call : Call
  pub few : length calls < max
  pub change : IsChange (answer (run old.farm.farm calls) call)
  pub leaves : KeepsOwnFarm g old → LeavesAfter g new fault (run old.farm.farm calls)
      (step (run old.farm.farm calls) call)

-- what serving at most so many connections makes of a keeper, by how it ends
abbrev pub ServesUntil : {S A : Type 0} → Ghosts S → KeeperState S → KeeperState S → ℕ
    → Result A DeskFault → Type 0
ServesUntil g old new max (Ok done) = ServesClients g old new max
ServesUntil g old new max (Err (DeskFault.Keep KeepFault.NoMemory)) = ServingCloses g old new max KeepFault.NoMemory
ServesUntil g old new max (Err (DeskFault.Keep KeepFault.Store)) = ServingCloses g old new max KeepFault.Store
ServesUntil g old new max (Err (DeskFault.Keep KeepFault.Closed)) = WasClosed old new
ServesUntil g old new max (Err fault) = ⊥

-- of the ends of a conversation the keeper's fault is passed on alone
abbrev pub PassesOn : {A : Type 0} → Result ℕ DeskFault → Result A DeskFault → Type 0
PassesOn (Err (DeskFault.Keep fault)) result = result ≡ Err (DeskFault.Keep fault)
PassesOn end (Ok done) = Unit {0}
PassesOn end (Err fault) = ⊥
