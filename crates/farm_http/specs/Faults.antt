-- What a fault says of the bytes that were taken.
use Rattle.std.specs.Prelude.{◌≡◌, ℕ, ◌<◌, Option, Some, List, [], length, take, Result, Ok, Err, ⊤}
use Rattle.std.specs.Io.KnownBytes.{Appends, Consumes, IsAtEnd}
use Rattle.farm_types.specs.Names.{bad_request}
use Rattle.farm_http.specs.declared.fault.WireFault.{WireFault}
use Rattle.farm_http.specs.declared.fault.WireFault.TheVariants.{NoMemory, Read, Write, Refused}
use Rattle.farm_http.specs.declared.taken.Taken.{Taken}
use Rattle.farm_http.specs.Heads.{HasNoHead}
use Rattle.farm_http.specs.Requests.{IsRefused, IsRequest}

-- reading a head fails after these bytes
abbrev pub HeadFails : List ℕ → Type 0 → WireFault → Type 0
HeadFails used AtEnd Read = ⊤
HeadFails used AtEnd (Refused refusal) = HasNoHead used AtEnd refusal.code
HeadFails used AtEnd fault = ⊥

-- the input ends before n bytes
pub record IsCut (n : ℕ) (used : List ℕ) (AtEnd : Type 0) (code : ℕ) : Type 0 where
  pub refused : code ≡ bad_request
  pub end : AtEnd
  pub short : length used < n

-- reading a body of n bytes fails after these bytes
abbrev pub BodyFails : ℕ → List ℕ → Type 0 → WireFault → Type 0
BodyFails n used AtEnd Read = ⊤
BodyFails n used AtEnd (Refused refusal) = IsCut n used AtEnd refusal.code
BodyFails n used AtEnd fault = ⊥

-- reading a request fails after these bytes: for want of memory before the first
abbrev pub Fails : List ℕ → Type 0 → WireFault → Type 0
Fails used AtEnd NoMemory = used ≡ []
Fails used AtEnd Read = ⊤
Fails used AtEnd Write = ⊥
Fails used AtEnd (Refused refusal) = IsRefused used AtEnd refusal.code

-- a reader loses these bytes, and reading a request fails after them
abbrev pub FailsAfter : Option (List ℕ) → Option (List ℕ) → WireFault → Type 0
FailsAfter old new fault = (used : List ℕ) × Consumes old new used × Fails used (IsAtEnd new) fault

-- of a known input these bytes are taken, with this result
abbrev pub TakesBytes : List ℕ → List ℕ → Result Taken WireFault → Type 0
TakesBytes input used (Ok taken) = (used ≡ taken.bytes.items) × IsRequest used taken.head
TakesBytes input used (Err fault) = Fails used (used ≡ input) fault

-- a writer gains a part of the bytes from their front, and not all of them
abbrev pub WritesPrefix : Option (List ℕ) → Option (List ℕ) → List ℕ → Type 0
WritesPrefix old new bytes = (n : ℕ) × (n < length bytes) × Appends old new (take n bytes)

-- a reader with this input loses the bytes that reading takes, with this result
abbrev pub TakesFrom : List ℕ → Option (List ℕ) → Result Taken WireFault → Type 0
TakesFrom input new result = (used : List ℕ) × Consumes (Some input) new used
    × TakesBytes input used result

-- that request is taken, unless memory is refused or the reader is spent
abbrev pub IsTaken : List ℕ → ℕ → Result Taken WireFault → Type 0
IsTaken request head (Ok taken) = (taken.bytes.items ≡ request) × (taken.head ≡ head)
IsTaken request head (Err NoMemory) = ⊤
IsTaken request head (Err Read) = ⊤
IsTaken request head (Err fault) = ⊥
