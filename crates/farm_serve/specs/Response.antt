-- Which answer is due, and how the conversation ends once it is written.
use Rattle.std.specs.Prelude.{◌≡◌, ℕ, ◌⊎◌, true, false, List, Option, Result, Ok, Err}
use Rattle.sqlite_trees.specs.declared.store.Store.{Ghosts}
use Rattle.farm_types.specs.Names.{answer, no_memory, step}
use Rattle.farm_types.specs.declared.calls.Call.{Call}
use Rattle.farm_core.specs.Answers.{IsChange}
use Rattle.farm_keep.specs.Faults.{keep_fault_code}
use Rattle.farm_keep.specs.KeeperState.{KeeperState, KeepsOwnFarm, KeepsEither}
use Rattle.farm_keep.specs.declared.fault.KeepFault.{KeepFault}
use Rattle.farm_wire.specs.Reading.{Denial}
use Rattle.farm_wire.specs.Replies.{reply_bytes}
use Rattle.farm_wire.specs.declared.ask.Ask.{Ask}
use Rattle.farm_serve.specs.declared.fault.DeskFault.{DeskFault}
use Rattle.farm_serve.specs.Answers.{Answers, out_of_refusal}
use Rattle.farm_serve.specs.Received.{Receives, ReceivesWhole}

-- ---- no memory for the answer

-- the call was done by an open keeper, though its answer isn't written
pub record IsDoneUnanswered {S : Type 0} (g : Ghosts S) (old new : KeeperState S) (call : Call)
    : Type 0 where
  pub was_open : old.is_open ≡ true
  pub farm : new.farm.farm ≡ step old.farm.farm call
  pub keeps : KeepsOwnFarm g old → KeepsOwnFarm g new

-- the keeper stayed as it was, or a call was done
abbrev pub UnchangedOrDone : {S : Type 0} → Ghosts S → KeeperState S → KeeperState S
    → Result Ask Denial → Type 0
UnchangedOrDone g old new (Ok (Ask.Call call)) = (new ≡ old) ⊎ IsDoneUnanswered g old new call
UnchangedOrDone g old new what = new ≡ old

-- a keeper that was asked anything was open
abbrev pub WasOpenFor : {S : Type 0} → KeeperState S → Result Ask Denial → Type 0
WasOpenFor old (Ok what) = old.is_open ≡ true
WasOpenFor old (Err why) = Unit {0}

-- there was no memory for the answer: the constant one is due, and an open keeper stays open; a
-- closed one has its own answer to whatever is asked
pub record RunsOutOfMemory {S : Type 0} (g : Ghosts S) (old new : KeeperState S)
    (what : Result Ask Denial) (bytes : List ℕ) : Type 0 where
  pub encodes : bytes ≡ reply_bytes (out_of_refusal no_memory)
  pub was_open : WasOpenFor old what
  pub stays_open : new.is_open ≡ old.is_open
  pub farm : UnchangedOrDone g old new what

-- ---- a fault of the keeper

-- there was no memory for the change: the store is as it was
pub record LacksMemory {S : Type 0} (old new : KeeperState S) (call : Call) : Type 0 where
  pub was_open : old.is_open ≡ true
  pub change : IsChange (answer old.farm.farm call)
  pub store : new.conn ≡ old.conn

-- a call of the store was refused: a stop now leaves the old farm or the one after the call
pub record LosesStore {S : Type 0} (g : Ghosts S) (old new : KeeperState S) (call : Call)
    : Type 0 where
  pub was_open : old.is_open ≡ true
  pub change : IsChange (answer old.farm.farm call)
  pub leaves : KeepsOwnFarm g old → KeepsEither g new old.farm.farm (step old.farm.farm call)

-- the keeper was closed before, whatever is asked
pub record WasClosed {S : Type 0} (old new : KeeperState S) : Type 0 where
  pub was_closed : old.is_open ≡ false
  pub unchanged : new ≡ old

-- why the keeper is closed: 61 for calls and views alike, 1 and 60 only where a call changes the
-- farm
abbrev pub IsCause : {S : Type 0} → Ghosts S → KeeperState S → KeeperState S → Ask → KeepFault
    → Type 0
IsCause g old new what KeepFault.Closed = WasClosed old new
IsCause g old new (Ask.Call call) KeepFault.NoMemory = LacksMemory old new call
IsCause g old new (Ask.Call call) KeepFault.Store = LosesStore g old new call
IsCause g old new what fault = ⊥

-- the keeper returned this fault: the constant answer of its number is due, and the keeper is
-- closed
pub record Closes {S : Type 0} (g : Ghosts S) (old new : KeeperState S) (what : Ask)
    (fault : KeepFault) (bytes : List ℕ) : Type 0 where
  pub encodes : bytes ≡ reply_bytes (out_of_refusal (keep_fault_code fault))
  pub is_closed : new.is_open ≡ false
  pub cause : IsCause g old new what fault

abbrev pub ClosesIfAsked : {S : Type 0} → Ghosts S → KeeperState S → KeeperState S
    → Result Ask Denial → KeepFault → List ℕ → Type 0
ClosesIfAsked g old new (Ok what) fault bytes = Closes g old new what fault bytes
ClosesIfAsked g old new (Err why) fault bytes = ⊥

-- ---- all

-- these bytes are due to what was asked, and the conversation then ends so
abbrev pub IsResponseTo : {S : Type 0} → Ghosts S → KeeperState S → KeeperState S
    → Result Ask Denial → List ℕ → Result ℕ DeskFault → Type 0
IsResponseTo g old new what bytes (Ok status) = Answers g old new what bytes status
IsResponseTo g old new what bytes (Err DeskFault.NoMemory) = RunsOutOfMemory g old new what bytes
IsResponseTo g old new what bytes (Err (DeskFault.Keep fault)) = ClosesIfAsked g old new what fault bytes
IsResponseTo g old new what bytes end = ⊥

-- what was asked was understood, and the answer is due to it
pub record IsDueToAsked {S : Type 0} (g : Ghosts S) (old new : KeeperState S)
    (input rest : Option (List ℕ)) (now : ℕ) (bytes : List ℕ) (end : Result ℕ DeskFault)
    : Type 0 where
  pub what : Result Ask Denial
  pub receives : Receives input rest now what
  pub response : IsResponseTo g old new what bytes end

-- there was no memory to read the request or to understand it
pub record IsNotUnderstood {S : Type 0} (old new : KeeperState S) (input rest : Option (List ℕ))
    (bytes : List ℕ) (end : Result ℕ DeskFault) : Type 0 where
  pub fault : end ≡ Err DeskFault.NoMemory
  pub receives : ReceivesWhole input rest
  pub encodes : bytes ≡ reply_bytes (out_of_refusal no_memory)
  pub unchanged : new ≡ old

-- these bytes are the answer that is due, and the conversation ends so once they are written
abbrev pub IsResponse : {S : Type 0} → Ghosts S → KeeperState S → KeeperState S → Option (List ℕ)
    → Option (List ℕ) → ℕ → List ℕ → Result ℕ DeskFault → Type 0
IsResponse g old new input rest now bytes end =
    IsDueToAsked g old new input rest now bytes end ⊎ IsNotUnderstood old new input rest bytes end
