-- How a conversation ends.
use Rattle.std.specs.Prelude.{◌≡◌, ℕ, Bool, true, false, List, length, Option, Result, Err}
use Rattle.std.specs.Io.KnownBytes.{Appends, Keeps}
use Rattle.farm_http.specs.Faults.{WritesPrefix}
use Rattle.farm_http.specs.Turns.{Turns, FailsBehind, TakesTurns}
use Rattle.farm_keep.specs.KeeperState.{KeeperState}
use Rattle.farm_serve.specs.declared.fault.DeskFault.{DeskFault}

-- the writer gained the whole answer that was due
pub record IsAnswered (Response : List ℕ → Result ℕ DeskFault → Type 0) (held holds : Option (List ℕ))
    (end : Result ℕ DeskFault) : Type 0 where
  pub bytes : List ℕ
  pub response : Response bytes end
  pub written : Appends held holds bytes

-- the writer gained a part of the answer that was due; all else is as if it had gained all
pub record IsUnwritten (Response : List ℕ → Result ℕ DeskFault → Type 0) (held holds : Option (List ℕ))
    : Type 0 where
  pub bytes : List ℕ
  pub end : Result ℕ DeskFault
  pub response : Response bytes end
  pub part : WritesPrefix held holds bytes

-- a writer that has room for so many bytes gained all of the bytes, or where it failed a part of
-- them, for want of room
abbrev pub Writes : (ℕ → Type 0) → Bool → Option (List ℕ) → Option (List ℕ) → List ℕ → Type 0
Writes Room false held holds bytes = Appends held holds bytes
Writes Room true held holds bytes = WritesPrefix held holds bytes × (¬ Room (length bytes))

-- the writer gained the answer that was due, or where it failed a part of it
pub record WritesAnswer (Response : List ℕ → Result ℕ DeskFault → Type 0) (Room : ℕ → Type 0)
    (failed : Bool) (held holds : Option (List ℕ)) (end : Result ℕ DeskFault) : Type 0 where
  pub bytes : List ℕ
  pub response : Response bytes end
  pub written : Writes Room failed held holds bytes

-- by the writer's own count it failed, or failed at none of its turns
abbrev pub CountsLoss : Option Turns → Option Turns → Bool → Type 0
CountsLoss old new true = (n : ℕ) × FailsBehind n old new
CountsLoss old new false = (n : ℕ) × TakesTurns n old new

-- the writer had no room for the answer that was due
pub record HasNoRoom (Response : List ℕ → Result ℕ DeskFault → Type 0) (Room : ℕ → Type 0)
    : Type 0 where
  pub bytes : List ℕ
  pub end : Result ℕ DeskFault
  pub response : Response bytes end
  pub no_room : ¬ Room (length bytes)

-- the reader returned no request: nothing is written, and the keeper stays as it was
pub record IsUnread {S : Type 0} (old new : KeeperState S) (held holds : Option (List ℕ))
    : Type 0 where
  pub nothing_written : Keeps held holds
  pub unchanged : new ≡ old

-- with this end the answer was written
abbrev pub EndsWritten : Result ℕ DeskFault → Type 0
EndsWritten (Err DeskFault.Read) = ⊥
EndsWritten (Err DeskFault.Write) = ⊥
EndsWritten end = Unit {0}
