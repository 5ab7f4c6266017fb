-- What an import does: the calls of a lab file, one after another, up to the first refusal or
-- fault.
use Rattle.std.specs.Prelude.{◌≡◌, ◌≤◌, ◌<◌, ◌+◌, ℕ, [], ◌∷◌, ◌++◌, Bool, true, false, List, map, take, length, Option, Some, None, Ok}
use Rattle.std.specs.List.{count_by}
use Rattle.sqlite_trees.specs.declared.store.Store.{Ghosts}
use Rattle.farm_types.specs.Names.{Answered, Changed, Denied, Farm, FaultOrNoMemory, Repeated, run}
use Rattle.farm_types.specs.declared.calls.Call.{Call}
use Rattle.farm_types.specs.declared.refusal.Refusal.{Refusal}
use Rattle.farm_keep.specs.KeeperState.{KeeperState, KeepsOwnFarm}
use Rattle.farm_keep.specs.Headline.{answers_of, IsNextChange}
use Rattle.farm_keep.specs.declared.fault.KeepFault.{KeepFault}
use Rattle.farm_jobfile.specs.Reading.{text_fault}
use Rattle.farm_jobfile.specs.Lab.{entry_of, lab}
use Rattle.farm_jobfile.specs.declared.fault.FileFault.{FileFault}
use Rattle.farm_serve.specs.Serving.{LeavesAfter, Reaches}
use Rattle.farm_serve.specs.declared.fault.DeskFault.{DeskFault}
use Rattle.farm_serve.specs.declared.lab_import.ImportEnd.{ImportEnd}

-- ---- how far it went

-- the command was accepted
abbrev pub is_accepted : Answered → Bool
is_accepted (Changed reply) = true
is_accepted answered = false

-- it had been accepted before
abbrev pub is_kept : Answered → Bool
is_kept (Repeated reply) = true
is_kept answered = false

-- so many of the calls were done
abbrev pub done_by : ImportEnd → ℕ
done_by end = end.accepted + end.kept

-- the first calls were done and none of them was refused: so many were accepted, and so many had
-- been before
pub record IsCounted (F : Farm) (calls : List Call) (accepted kept : ℕ) : Type 0 where
  pub within : accepted + kept ≤ length calls
  pub accepted_are : accepted ≡ count_by is_accepted (answers_of F (take (accepted + kept) calls))
  pub kept_are : kept ≡ count_by is_kept (answers_of F (take (accepted + kept) calls))

-- ---- how it ended

-- all calls were done
pub record ImportsAll {S : Type 0} (g : Ghosts S) (old new : KeeperState S) (calls : List Call)
    (done : ℕ) : Type 0 where
  pub all : done ≡ length calls
  pub reaches : Reaches g old new calls

-- the call at this place, counted from 1, was refused, and those before it were done
pub record IsStopped {S : Type 0} (g : Ghosts S) (old new : KeeperState S) (calls : List Call)
    (done place code : ℕ) : Type 0 where
  pub next : place ≡ done + 1
  pub within : place ≤ length calls
  pub refused : answers_of old.farm.farm (take place calls) ≡ answers_of old.farm.farm
      (take done calls) ++ Denied code ∷ []
  pub reaches : Reaches g old new (take done calls)

-- the change of the next call closed the keeper with this fault, and a stop leaves the farm before
-- it or, not after want of memory, the one after it
pub record ClosesAt {S : Type 0} (g : Ghosts S) (old new : KeeperState S) (calls : List Call)
    (done : ℕ) (fault : KeepFault) : Type 0 where
  pub within : done < length calls
  pub change : IsNextChange old.farm.farm calls done
  pub is_closed : new.is_open ≡ false
  pub leaves : KeepsOwnFarm g old → LeavesAfter g new fault (run old.farm.farm (take done calls))
      (run old.farm.farm (take (done + 1) calls))

-- the keeper was closed before, and nothing is imported
pub record ImportsNothing {S : Type 0} (old new : KeeperState S) (done : ℕ) : Type 0 where
  pub was_closed : old.is_open ≡ false
  pub nothing : done ≡ 0
  pub unchanged : new ≡ old

-- how it ended, by its refusal or its fault
abbrev pub EndsBy : {S : Type 0} → Ghosts S → KeeperState S → KeeperState S → List Call → ℕ
    → Option (ℕ × Refusal) → Option DeskFault → Type 0
EndsBy g old new calls done None None = ImportsAll g old new calls done
EndsBy g old new calls done (Some stop) None = IsStopped g old new calls done stop.0 stop.1.code
EndsBy g old new calls done None (Some (DeskFault.Keep KeepFault.NoMemory)) = ClosesAt g old new calls done KeepFault.NoMemory
EndsBy g old new calls done None (Some (DeskFault.Keep KeepFault.Store)) = ClosesAt g old new calls done KeepFault.Store
EndsBy g old new calls done None (Some (DeskFault.Keep KeepFault.Closed)) = ImportsNothing old new done
EndsBy g old new calls done stopped fault = ⊥

-- these calls were done up to the first refusal or fault
pub record DoesCalls {S : Type 0} (g : Ghosts S) (old new : KeeperState S) (calls : List Call)
    (end : ImportEnd) : Type 0 where
  pub counted : IsCounted old.farm.farm calls end.accepted end.kept
  pub ends : EndsBy g old new calls (done_by end) end.stopped end.fault

-- ---- the file

-- the text parses to calls, and these were done
pub record Imports {S : Type 0} (g : Ghosts S) (old new : KeeperState S) (text : List ℕ) (now : ℕ)
    (end : ImportEnd) : Type 0 where
  pub calls : List Call
  pub parsed : lab text now ≡ Ok (map entry_of calls)
  pub does : DoesCalls g old new calls end

-- the text parses to none, or there was no memory to read it: nothing was done
pub record IsFileRefused {S : Type 0} (old new : KeeperState S) (text : List ℕ) (now : ℕ)
    (fault : FileFault) (end : ImportEnd) : Type 0 where
  pub fault_is : FaultOrNoMemory (text_fault fault) (lab text now)
  pub nothing : done_by end ≡ 0
  pub never_began : end.stopped ≡ None
  pub unchanged : new ≡ old

abbrev pub ImportsBy : {S : Type 0} → Ghosts S → KeeperState S → KeeperState S → List ℕ → ℕ
    → ImportEnd → Option DeskFault → Type 0
ImportsBy g old new text now end (Some (DeskFault.File fault)) =
    IsFileRefused old new text now fault end
ImportsBy g old new text now end fault = Imports g old new text now end

-- what an import of that text does at that moment
abbrev pub IsImport : {S : Type 0} → Ghosts S → KeeperState S → KeeperState S → List ℕ → ℕ
    → ImportEnd → Type 0
IsImport g old new text now end = ImportsBy g old new text now end end.fault
