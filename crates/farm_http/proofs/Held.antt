-- What a buffered reader holds is the front of what it has left.
use Rattle.std.proofs.Common.{◌≡◌, ℕ, ◌≤◌, Bool, true, false, List, ◌++◌, length, take, drop, sym, ap, ◌∙◌, append_assoc, take-append-drop, length-take-le}
use Rattle.std.proofs.Common.{take_at}
use Rattle.std.specs.Prelude.{Option, Some, None, if◌then◌else◌}
use Rattle.std.specs.Io.KnownBytes.{Consumes, prepend_known}

-- n bytes of it were taken
pub held_taken : (empty : Bool) (held : List ℕ) (rest : Option (List ℕ)) (n : ℕ)
    → Consumes (if empty then None else prepend_known held rest) (if empty then None else prepend_known (drop n held) rest) (take n held)
held_taken true held rest n = tt
held_taken false held None n = tt
held_taken false held (Some xs) n = ap (λ l. l ++ xs) (sym (take-append-drop n held)) ∙ append_assoc (take n held) (drop n held) xs

-- and were copied to the front of a slice
pub held_copied : (n : ℕ) (copy rest held : List ℕ) → copy ≡ take n held → n ≤ length held → take n (copy ++ rest) ≡ take n held
held_copied n copy rest held is fits = take_at copy rest n (ap length is ∙ length-take-le n held fits) ∙ is
