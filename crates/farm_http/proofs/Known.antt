-- At a reader whose bytes are known, the end is the end of the input.
use Rattle.std.proofs.Common.{◌≡◌, ℕ, List, ◌++◌, ap, sym, ◌∙◌, refl, append-nil, Err, inl, inr}
use Rattle.std.specs.Prelude.{Option, Some, None, IfSome}
use Rattle.std.specs.Io.KnownBytes.{Consumes, IsAtEnd}
use Rattle.farm_http.specs.Requests.{IsRefused, IsRequest}
use Rattle.farm_http.specs.Faults.{Fails, FailsAfter, TakesFrom}
use Rattle.farm_http.specs.declared.fault.WireFault.{WireFault}
use Rattle.farm_http.specs.declared.fault.WireFault.TheVariants.{NoMemory, Read, Write, Refused}

-- a refusal asks of the end of the input no more than that it has come
pub refused_map : (A B : Type 0) (f : A → B) (used : List ℕ) (code : ℕ) → IsRefused used A code → IsRefused used B code
refused_map A B f used code (inl (inl e)) = inl (inl (record { refused = e.refused; end = f e.end; short = e.short; open_lines = e.open_lines }))
refused_map A B f used code (inl (inr e)) = inl (inr e)
refused_map A B f used code (inr (inl e)) = inr (inl e)
refused_map A B f used code (inr (inr e)) =
    inr (inr (record { head = e.head; body = e.body; len = e.len; reads = e.reads; whole = e.whole; declared = e.declared; short = e.short; end = f e.end; refused = e.refused }))

-- and so does a fault
pub fails_map : (A B : Type 0) (f : A → B) (used : List ℕ) (e : WireFault) → Fails used A e → Fails used B e
fails_map A B f used NoMemory none = none
fails_map A B f used Read spent = tt
fails_map A B f used Write never = absurd never
fails_map A B f used (Refused r) refused = refused_map A B f used r.code refused

-- nothing is left of the input: all of it was taken
ended : (input used : List ℕ) (b : Option (List ℕ)) → Consumes (Some input) b used → IsAtEnd b → used ≡ input
ended input used None c e = absurd c
ended input used (Some rest) c e = sym (c ∙ ap (λ l. used ++ l) e ∙ append-nil used)

-- what holds at every reader says it of one whose bytes are known: of a request that was taken
pub known_taken : (a b : Option (List ℕ)) (request : List ℕ) (head : ℕ) → Consumes a b request → IsRequest request head
    → IfSome a (λ input. (used : List ℕ) × Consumes (Some input) b used × ((used ≡ request) × IsRequest used head))
known_taken None b request head taken whole = tt
known_taken (Some input) b request head taken whole = (request, taken, (refl, whole))

-- and of a fault
pub known_fails : (a b : Option (List ℕ)) (e : WireFault) → FailsAfter a b e → IfSome a (λ input. TakesFrom input b (Err e))
known_fails None b e err = tt
known_fails (Some input) b e err = (err.0, err.1, fails_map (IsAtEnd b) (err.0 ≡ input) (ended input err.0 b err.1) err.0 e err.2)
