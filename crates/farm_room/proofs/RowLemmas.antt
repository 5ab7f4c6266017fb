-- Who stays in a row, who is cut from its front, and how many bytes wait aside for it.
use Rattle.std.proofs.Common.{◌≡◌, ℕ, ◌+◌, ◌-◌, ◌^◌, ◌<◌, List, [], ◌∷◌, ◌++◌, length, take, drop, map, min, All, refl, sym, ap, subst, ◌∙◌}
use Rattle.std.proofs.Common.{◌⊎◌, inl, inr, append_assoc, arith, Bool, true, false, if◌then◌else◌, append-nil}
use Rattle.std.proofs.KnownBytes.{Appends-trans}
use Rattle.std.proofs.lemmas.List.{same_from_push, take-append-drop, map-append}
use Rattle.std.proofs.lemmas.List.Sums.{sum_by-append}
use Rattle.std.proofs.lemmas.List.Elements.{All-push, Contains-append_cases, Contains-append_left, Contains-append_right}
use Rattle.std.specs.Io.KnownBytes.{Appends}
use Rattle.std.specs.Prelude.{Contains, insert, Option, Result, Ok, Err, OnOk, OnErr}
use Rattle.std.specs.VecDeque.{deque_items}
use Rattle.std.specs.declared.time.Duration.{Duration}
use Rattle.farm_room.specs.Waiting.{held, held_by, AllStay, LosesNobody, PutsAside, SendsSome, CutsOldest, Fits, HasTimedOut, IsOverdue, Stay}
use Rattle.farm_room.specs.declared.connection.Connection.{Connection}
use Rattle.farm_room.specs.declared.connections.Connections.{Connections}

-- ---- what is sent

pub sends_more : (old mid new : Option (List ℕ)) (bytes rest : List ℕ) (n : ℕ) → SendsSome old mid bytes rest → Appends mid new (take n rest) → SendsSome old new bytes (drop n rest)
sends_more old mid new bytes rest n it wrote = record {
  sent = it.sent ++ take n rest;
  parts = it.parts ∙ ap (λ l. it.sent ++ l) (sym (take-append-drop n rest)) ∙ sym (append_assoc it.sent (take n rest) (drop n rest));
  appends = Appends-trans old mid new it.sent (take n rest) it.appends wrote;
}

-- ---- who is cut

-- some were cut from the front, and too many were left before the last of them
abbrev pub IsCutting : List Connection → List Connection → Type 0
IsCutting old new = (cut : List Connection) × (old ≡ cut ++ new)
    × ((before : List Connection) (last : Connection) → cut ≡ before ++ last ∷ [] → Fits (last ∷ new) → ⊥)

-- nobody is left who is too much
pub some_row : (row : List Connection) → (Fits row → ⊥) → 0 < length row
some_row [] much = absurd (much (record { few = omega arith; small = omega arith }))
some_row (first ∷ rest) much = omega arith

pub cuts_one : (old row new : List Connection) → new ≡ drop 1 row → (Fits row → ⊥) → IsCutting old row → IsCutting old new
cuts_one old [] new is much it = absurd (much (record { few = omega arith; small = omega arith }))
cuts_one old (first ∷ rest) new is much it = (
  it.0 ++ first ∷ [],
  it.1 ∙ sym (append_assoc it.0 (first ∷ []) rest) ∙ ap (λ l. (it.0 ++ first ∷ []) ++ l) (sym is),
  λ before last same fits.
      let one : first ≡ last = (same_from_push it.0 before first last same).1 in
      much (subst Fits (ap (λ x. x ∷ new) (sym one) ∙ ap (λ l. first ∷ l) is) fits),
)

-- ---- whose time is over

-- some were cut from the front, whose time was over
abbrev pub AreOverdue : Option Duration → List Connection → List Connection → Type 0
AreOverdue now old new = (cut : List Connection) × (old ≡ cut ++ new) × All (λ one. HasTimedOut now one.since) cut

pub overdue_one : (now : Option Duration) (old row new : List Connection) → new ≡ drop 1 row → IsOverdue now row → AreOverdue now old row → AreOverdue now old new
overdue_one now old [] new is cut it = absurd cut
overdue_one now old (first ∷ rest) new is cut it = (
  it.0 ++ first ∷ [],
  it.1 ∙ sym (append_assoc it.0 (first ∷ []) rest) ∙ ap (λ l. (it.0 ++ first ∷ []) ++ l) (sym is),
  All-push (λ one. HasTimedOut now one.since) it.0 first it.2 cut,
)

-- ---- how many bytes wait aside

pub adds_one : {A : Type 0} (v : A → Connection) (xs : List A) (x : A) (sum : ℕ) → sum ≡ min (held_by (map v xs)) (2 ^ 64 - 1)
    → min (sum + held (v x).outbox) (2 ^ 64 - 1) ≡ min (held_by (map v (xs ++ x ∷ []))) (2 ^ 64 - 1)
adds_one v xs x sum so =
    let all : held_by (map v (xs ++ x ∷ [])) ≡ held_by (map v xs) + held_by (v x ∷ []) = ap held_by (map-append v xs (x ∷ [])) ∙ sum_by-append (λ one. held one.outbox) (map v xs) (v x ∷ []) in
    let one : held_by (v x ∷ []) ≡ 0 + held (v x).outbox = refl in
    omega (arith, so, all, one)

-- ---- who stays

pub stay_same : (old new : List Connection) → new ≡ old → Stay old new
stay_same old new same = ([], same ∙ sym (append-nil old))

pub stay_push : (pushed : Bool) (old row new : List Connection) (one : Connection) → row ≡ old → new ≡ (if pushed then row ++ one ∷ [] else row) → Stay old new
stay_push true old row new one same is = (one ∷ [], is ∙ ap (λ l. l ++ one ∷ []) same)
stay_push false old row new one same is = stay_same old new (is ∙ same)

pub stay_then : (old mid new : List Connection) → Stay old mid → Stay mid new → Stay old new
stay_then old mid new one two = (one.0 ++ two.0, two.1 ∙ ap (λ l. l ++ two.0) one.1 ∙ append_assoc old one.0 two.0)

pub all_of : (old new : List Connection) → Stay old new → AllStay old new
all_of old new stay one is = subst (λ l. Contains l one) (sym stay.1) (Contains-append_left old stay.0 one is)

pub all_insert : (row new : List Connection) (place : ℕ) (one : Connection) → new ≡ insert row place one → AllStay row new
all_insert row new place one is other at =
    let parts = subst (λ l. Contains l other) (sym (take-append-drop place row)) at in
    subst (λ l. Contains l other) (sym is) (elim (Contains-append_cases (take place row) (drop place row) other parts) [
      | inl before ↦ Contains-append_left (take place row) (one ∷ drop place row) other before
      | inr behind ↦ Contains-append_right (take place row) (one ∷ drop place row) other (Contains-append_right (one ∷ []) (drop place row) other behind)
    ])

pub all_stay : (old new : List Connection) → new ≡ old → AllStay old new
all_stay old new same one is = subst (λ l. Contains l one) (sym same) is

pub all_inserted : {A E : Type 0} (result : Result A E) (row new : List Connection) (place : ℕ) (one : Connection) → OnOk result (new ≡ insert row place one) → OnErr result (new ≡ row) → AllStay row new
all_inserted (Ok it) row new place one put same = all_insert row new place one put
all_inserted (Err error) row new place one put same = all_stay row new same

pub puts_aside : (old mid new : List Connection) (one : Connection) → mid ≡ old → CutsOldest mid new ⊎ CutsOldest (mid ++ one ∷ []) new → PutsAside old new
puts_aside old mid new one same cuts = subst (λ row. PutsAside row new) same (elim cuts [
  | inl before ↦ inr (inl before)
  | inr with ↦ inr (inr (one, with))
])

-- ---- nobody is lost, one step after another

loses_then : (old mid new : Connections) → LosesNobody old mid → LosesNobody mid new → LosesNobody old new
loses_then old mid new one two few = two (subst (λ n. n < 2 ^ 64) (sym (one few)) few) ∙ one few

abbrev pub StayAccepted : Connections → Connections → Type 0
StayAccepted old new = LosesNobody old new × Stay (deque_items old.ready) (deque_items new.ready)

pub accepted_then : (old mid step new : Connections) → new ≡ step → StayAccepted old mid → LosesNobody mid step → Stay (deque_items mid.ready) (deque_items step.ready) → StayAccepted old new
accepted_then old mid step new is before all ready =
    subst (λ it. StayAccepted old it) (sym is) (loses_then old mid step before.0 all, stay_then _ _ _ before.1 ready)

abbrev pub AllWait : Connections → Connections → Type 0
AllWait old new = LosesNobody old new × AllStay (deque_items old.ready) (deque_items new.ready)

pub waits_then : (old mid new : Connections) → AllWait old mid → AllWait mid new → AllWait old new
waits_then old mid new one two = (loses_then old mid new one.0 two.0, λ it at. two.1 it (one.1 it at))
