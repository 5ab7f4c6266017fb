-- Rows in the strict order of their keys.
use native.Mathlib.Omega.{arith}
use Rattle.std.proofs.Common.{[], refl, ◌≡◌, ◌≢◌, ◌⊎◌, inl, inr, List, ◌∷◌, sym, ap, ◌∙◌, Ordering, Less, Equal, Greater}
use Rattle.farm_store.proofs.Names.{all_has, AllByRecursion, Has, IsStrict, IsTotalOrder, match_ordering, ordering_reverse, put, tied_back}

pub all_put : {X : Type 0} (cmp : X → X → Ordering) (P : X → Type 0) (x : X) (ys : List X) → P x → AllByRecursion P ys → AllByRecursion P (put cmp ys x)
all_put cmp P x [] p all = (p, tt)
all_put cmp P x (y ∷ ys) p all = elim (cmp x y) as (λ o. AllByRecursion P (match_ordering o (x ∷ y ∷ ys) (x ∷ ys) (y ∷ put cmp ys x))) [
  | Less ↦ (p, all)
  | Equal ↦ (p, all.1)
  | Greater ↦ (all.0, all_put cmp P x ys p all.1)
]

module _ {X : Type 0} {cmp : X → X → Ordering} (total : IsTotalOrder cmp) where
  turned : (a b : X) → cmp a b ≡ Greater → cmp b a ≡ Less
  turned a b h = total.antisymm b a ∙ ap ordering_reverse h

  -- of a strict list, items that tie are one
  pub tie_same : (ys : List X) (a b : X) → IsStrict cmp ys → Has ys a → Has ys b → cmp a b ≡ Equal → a ≡ b
  tie_same [] a b up h k tie = absurd h
  tie_same (y ∷ ys) a b up (inl h) (inl k) tie = h ∙ sym k
  tie_same (y ∷ ys) a b up (inl h) (inr k) tie = absurd (let low = all_has (λ z. cmp y z ≡ Less) ys b up.0 k in let e = sym low ∙ ap (λ z. cmp z b) (sym h) ∙ tie in cc)
  tie_same (y ∷ ys) a b up (inr h) (inl k) tie = absurd (let low = all_has (λ z. cmp y z ≡ Less) ys a up.0 h in let e = sym low ∙ ap (λ z. cmp z a) (sym k) ∙ tied_back total a b tie in cc)
  tie_same (y ∷ ys) a b up (inr h) (inr k) tie = tie_same ys a b up.1 h k tie

  all_map : (P Q : X → Type 0) (ys : List X) → ((y : X) → P y → Q y) → AllByRecursion P ys → AllByRecursion Q ys
  all_map P Q [] f all = tt
  all_map P Q (y ∷ ys) f all = (f y all.0, all_map P Q ys f all.1)

  pub put_strict : (x : X) (ys : List X) → IsStrict cmp ys → IsStrict cmp (put cmp ys x)
  put_strict x [] up = (tt, tt)
  put_strict x (y ∷ ys) up = grind (arith, put_strict x ys up.1, all_map, all_map (λ b. cmp y b ≡ Less) (λ b. cmp x b ≡ Less) ys, all_put cmp (λ b. cmp y b ≡ Less) x ys, turned x y)

  pub put_adds : (x : X) (ys : List X) → Has (put cmp ys x) x
  put_adds x [] = inl refl
  put_adds x (y ∷ ys) = elim (cmp x y) as (λ o. Has (match_ordering o (x ∷ y ∷ ys) (x ∷ ys) (y ∷ put cmp ys x)) x) [ Less ↦ inl refl | Equal ↦ inl refl | Greater ↦ inr (put_adds x ys) ]

  pub put_keeps : (x : X) (ys : List X) (z : X) → Has ys z → cmp z x ≢ Equal → Has (put cmp ys x) z
  put_keeps x [] z h apart = absurd h
  put_keeps x (y ∷ ys) z h apart = grind (arith, put_keeps x ys z)

  apart_if_below : (z x : X) → cmp x z ≡ Less → cmp z x ≢ Equal
  apart_if_below z x low tie = let e = sym low ∙ tied_back total z x tie in cc

  apart_if_above : (z x : X) → cmp z x ≡ Less → cmp z x ≢ Equal
  apart_if_above z x low tie = let e = sym low ∙ tie in cc

  pub put_has : (x : X) (ys : List X) (z : X) → IsStrict cmp ys → Has (put cmp ys x) z → (z ≡ x) ⊎ (Has ys z × (cmp z x ≢ Equal))
  put_has x [] z up (inl same) = inl same
  put_has x [] z up (inr none) = absurd none
  put_has x (y ∷ ys) z up h = grind (arith, put_has x ys z up.1, apart_if_below z x, all_has, all_has (λ b. cmp y b ≡ Less) ys z up.0, apart_if_above z x, turned x y)
