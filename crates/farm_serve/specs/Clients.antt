-- Clients that are served one after another, where they are known.
use Rattle.std.specs.Prelude.{◌≡◌, ◌≤◌, ◌+◌, ℕ, List, [], ◌∷◌, ◌++◌, length, Option, Some, None}

-- a client as it arrives: the moment of its request, what its reader has, what its writer holds,
-- and how many bytes that may hold in all
pub record Arrival : Type 0 where
  pub now : ℕ
  pub input : Option (List ℕ)
  pub output : Option (List ℕ)
  pub capacity : Option ℕ

-- a writer that may hold so many bytes, and holds these, has room for n more
abbrev pub HasRoom : Option ℕ → Option (List ℕ) → ℕ → Type 0
HasRoom None held n = ⊥
HasRoom (Some capacity) None n = ⊥
HasRoom (Some capacity) (Some held) n = length held + n ≤ capacity

-- a client as it departs: what its reader still has, and what its writer holds
pub record Departure : Type 0 where
  pub input : Option (List ℕ)
  pub output : Option (List ℕ)

-- those that wait, and those that were served
pub record ClientList : Type 0 where
  pub waiting : List Arrival
  pub served : List Departure

-- the next client arrives; what isn't known stays unknown
abbrev pub Arrives : Option ClientList → Option ClientList → Arrival → Type 0
Arrives None new client = new ≡ None
Arrives (Some old) None client = ⊥
Arrives (Some old) (Some new) client =
    (old.waiting ≡ client ∷ new.waiting) × (new.served ≡ old.served)

-- the next client is accepted at this moment, with a reader that has this and a writer that holds
-- this and has such room
pub record Accepts (old new : Option ClientList) (now : ℕ) (input output : Option (List ℕ))
    (Room : ℕ → Type 0) : Type 0 where
  pub capacity : Option ℕ
  pub arrives : Arrives old new
      (record { now = now; input = input; output = output; capacity = capacity })
  pub has_room : (n : ℕ) → HasRoom capacity output n → Room n

-- nobody who is known waits
abbrev pub IsOver : Option ClientList → Type 0
IsOver None = Unit {0}
IsOver (Some clients) = clients.waiting ≡ []

-- a client departs
abbrev pub Departs : Option ClientList → Option ClientList → Departure → Type 0
Departs None new client = new ≡ None
Departs (Some old) None client = ⊥
Departs (Some old) (Some new) client =
    (new.waiting ≡ old.waiting) × (new.served ≡ old.served ++ client ∷ [])
