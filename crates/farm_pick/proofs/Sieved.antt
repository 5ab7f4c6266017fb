-- What passes a test in a list in strict order: the first, and those behind it.
use Rattle.std.proofs.Common.{[], ◌≡◌, ◌∙◌, ◌&&◌, List, ◌∷◌, Bool, true, false, cond, Some, None, refl, sym, ap, arith}
use Rattle.farm_pick.proofs.Names.{AllByRecursion, among_has, find, found_has, is_gt, is_lt, IsTotalOrder, Ordering}
use Rattle.std.specs.List.Sorted.{IsStrictlySortedBy}
use Rattle.std.specs.List.{filter}
use Rattle.std.specs.declared.cmp.Ordering.TheVariants.{Less}
use Rattle.std.proofs.lemmas.Cmp.{tied_itself}
use Rattle.farm_types.specs.Names.{IsAmong}
use Rattle.farm_pick.proofs.Ordered.{not_below_itself}

-- the first that passes, and nothing where none does
pub found_of_filter : {R : Type 0} (test : R → Bool) (xs : List R) (c : R) (ys : List R) → filter test xs ≡ c ∷ ys → find test xs ≡ Some c
found_of_filter test [] c ys is = cc
found_of_filter test (x ∷ xs) c ys is = grind (arith, found_of_filter test xs c ys)

pub none_of_filter : {R : Type 0} (test : R → Bool) (xs : List R) → filter test xs ≡ [] → find test xs ≡ None
none_of_filter test [] is = refl
none_of_filter test (x ∷ xs) is = grind (arith, none_of_filter test xs)

pub filter_of_none : {R : Type 0} (test : R → Bool) (xs : List R) → find test xs ≡ None → filter test xs ≡ []
filter_of_none test [] is = refl
filter_of_none test (x ∷ xs) is = grind (arith, filter_of_none test xs)

pub found_there : {R : Type 0} (test : R → Bool) (c : R) (xs : List R) → find test xs ≡ Some c → IsAmong c xs
found_there test c [] is = cc
found_there test c (x ∷ xs) is = grind (arith, found_there test c xs)

pub none_passes : {R : Type 0} (test : R → Bool) (x : R) (xs : List R) → find test xs ≡ None → IsAmong x xs → test x ≡ true → ⊥
none_passes test x [] is at has = at
none_passes test x (y ∷ ys) is at has = grind (arith, none_passes test x ys)

filter_same : {R : Type 0} (p q : R → Bool) (xs : List R) → AllByRecursion (λ x. p x ≡ q x) xs → filter p xs ≡ filter q xs
filter_same p q [] all = refl
filter_same p q (x ∷ xs) all = ap (λ v. cond v (x ∷ filter p xs) (filter p xs)) all.0 ∙ ap (λ ys. cond (q x) (x ∷ ys) ys) (filter_same p q xs all.1)

module _ {R : Type 0} (cmp : R → R → Ordering) (total : IsTotalOrder cmp) where
  not_less : (a b : R) → (cmp a b ≡ Less → ⊥) → is_lt (cmp a b) ≡ false
  not_less a b none = grind arith

  not_more : (a b : R) → (cmp b a ≡ Less → ⊥) → is_gt (cmp a b) ≡ false
  not_more a b none = grind (arith, total.antisymm b a)

  -- the first that passes goes before no other that does
  pub found_first : (test : R → Bool) (c : R) (xs : List R) → IsStrictlySortedBy cmp xs → find test xs ≡ Some c → (d : R) → IsAmong d xs → test d ≡ true → is_gt (cmp c d) ≡ false
  unfolding IsStrictlySortedBy
  found_first test c [] sorted is d at has = cc
  found_first test c (x ∷ xs) sorted is d at has =
      not_more c d (λ less. grind (arith, found_first test c xs sorted.1, tied_itself total d, total.antisymm c d, among_has (λ y. cmp x y ≡ Less) d xs sorted.0))

  module _ (after opens : R → Bool) (up : (x y : R) → after x ≡ true → cmp x y ≡ Less → after y ≡ true) where
    abbrev passes : R → Bool
    passes x = after x && opens x

    abbrev passes_on : R → R → Bool
    passes_on c x = is_lt (cmp c x) && opens x

    above : (x : R) (xs : List R) → after x ≡ true → AllByRecursion (λ y. cmp x y ≡ Less) xs → AllByRecursion (λ y. passes y ≡ passes_on x y) xs
    above x [] is all = tt
    above x (y ∷ ys) is all = (ap (λ v. v && opens y) (up x y is all.0 ∙ sym (ap is_lt all.0)), above x ys is all.1)

    -- of those that pass the first, and behind it those that are after it
    pub sieve : (c : R) (xs : List R) → IsStrictlySortedBy cmp xs → find passes xs ≡ Some c → filter passes xs ≡ c ∷ filter (passes_on c) xs
    unfolding IsStrictlySortedBy
    sieve c [] sorted is = cc
    sieve c (x ∷ xs) sorted is = grind (arith, sieve c xs sorted.1, found_has (λ y. cmp x y ≡ Less) passes c xs sorted.0, not_less c x, not_below_itself cmp total x, filter_same passes (passes_on x) xs, above x xs, not_less x x (λ less. not_below_itself cmp total x less))

    -- and as it is cut off
    pub sieve_on : (c : R) (ys xs : List R) → IsStrictlySortedBy cmp xs → filter passes xs ≡ c ∷ ys → ys ≡ filter (passes_on c) xs
    sieve_on c ys xs sorted is =
        let two : c ∷ ys ≡ c ∷ filter (passes_on c) xs = sym is ∙ sieve c xs sorted (found_of_filter passes xs c ys is) in
        cc
