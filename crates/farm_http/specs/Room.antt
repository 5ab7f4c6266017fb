-- The room of a writer: of which numbers it is known that it takes so many bytes.
use Rattle.std.specs.Prelude.{ℕ, ◌+◌, ◌-◌, List, length, Option, Some}

-- the room that is left of it, where the writer held these bytes and then holds those; nothing is
-- known of it where they aren't known
abbrev pub RoomLeft : (ℕ → Type 0) → Option (List ℕ) → Option (List ℕ) → ℕ → Type 0
RoomLeft Room (Some held) (Some holds) n = Room (length holds - length held + n)
RoomLeft Room held holds n = ⊥

-- the writer then has the room that is left
abbrev pub KeepsRoom : (ℕ → Type 0) → (ℕ → Type 0) → Option (List ℕ) → Option (List ℕ) → Type 0
KeepsRoom Old New held holds = (n : ℕ) → RoomLeft Old held holds n → New n
