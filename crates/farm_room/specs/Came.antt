-- What came of a request: what is known of it, and whether more of it is awaited.
use Rattle.std.specs.Prelude.{◌⊎◌, ◌<◌, ◌≤◌, ℕ, List, ⊤, Bool, true, false, Option, Some, None, length}
use Rattle.farm_http.specs.Fronts.{AreRefused, BeginsRequest}
use Rattle.farm_http.specs.Heads.{IsOpenBelow}
use Rattle.farm_room.specs.declared.inbox.Look.{Look}

-- what is known of bytes: no line of those that were seen ends a head, and each leaves it open; or
-- the head is there, and the request so long
abbrev pub IsKnown : List ℕ → ℕ → Option ℕ → Type 0
IsKnown came seen None = (seen ≤ length came) × IsOpenBelow seen came
IsKnown came seen (Some whole) = BeginsRequest came whole

-- more is awaited where the head isn't there or not all of its request; nothing is where some bytes
-- are refused or all of the request is there
abbrev pub IsAwaited : List ℕ → Bool → Type 0
IsAwaited came true = IsOpenBelow (length came) came
    ⊎ ((whole : ℕ) × BeginsRequest came whole × (length came < whole))
IsAwaited came false = AreRefused came
    ⊎ ((whole : ℕ) × BeginsRequest came whole × (whole ≤ length came))

-- what is found by bytes once some more came
abbrev pub Finds : List ℕ → Look → Type 0
Finds came Look.Open = IsAwaited came true
Finds came Look.Done = IsAwaited came false
Finds came Look.NoMemory = ⊤
Finds came Look.Failed = ⊥
