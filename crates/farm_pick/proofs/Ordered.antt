-- A list in strict order is the only sorted list of its elements, and two of the same elements are one.
use Rattle.std.proofs.Common.{◌≡◌, ◌⊎◌, inl, inr, ◌+◌, List, [], ◌∷◌, get_or, Bool, false, sym, ap, ◌∙◌, refl, subst, arith}
use denote.Ref.{Bor}
use denote.Param.Members.{Mut}
use Rattle.farm_pick.proofs.Names.{AllByRecursion, always_returns_same, among_has, is_eq, is_lt, IsPermutation, IsPermutation-sym, IsSortedBy}
use Rattle.farm_pick.proofs.Names.{IsTotalOrder, Ordering, ordering_reverse}
use Rattle.std.specs.List.Sorted.{IsStrictlySortedBy}
use Rattle.std.specs.Cmp.{IsStrictWeakOrder}
use Rattle.std.specs.Fn.{Called, ComparesAs}
use Rattle.std.specs.List.{IsDistinct}
use Rattle.std.specs.Ordering.{eq_by_cmp}
use Rattle.std.specs.declared.cmp.Ordering.TheVariants.{Equal, Greater, Less}
use Rattle.std.proofs.lemmas.List.Elements.{All-from_recursion, recursion_from_All}
use Rattle.std.proofs.lemmas.List.Sorted.{All-permutation, ranks_by}
use Rattle.std.proofs.lemmas.Map.Keys.{IsDistinct-IsPermutation, IsDistinct-from_sorted, apart_from_distinct, sorted_from_all_adjacent}
use Rattle.farm_types.specs.Names.{IsAmong}
use Rattle.farm_pick.proofs.Entries.{among_itself}

module _ {R : Type 0} (cmp : R → R → Ordering) (total : IsTotalOrder cmp) where
  pub not_below_itself : (x : R) → cmp x x ≡ Less → ⊥
  not_below_itself x less = let flipped : Less ≡ Greater = sym less ∙ total.antisymm x x ∙ ap ordering_reverse less in cc

  -- ---- lists in strict order that have the same elements

  first_or_behind : (x y : R) (ys : List R) → AllByRecursion (λ z. cmp y z ≡ Less) ys → IsAmong x (y ∷ ys) → (x ≡ y) ⊎ (cmp y x ≡ Less)
  first_or_behind x y ys above (inl same) = inl same
  first_or_behind x y ys above (inr at) = inr (among_has (λ z. cmp y z ≡ Less) x ys above at)

  same_first : (x y : R) → (x ≡ y) ⊎ (cmp y x ≡ Less) → (y ≡ x) ⊎ (cmp x y ≡ Less) → x ≡ y
  same_first x y (inl same) other = same
  same_first x y (inr less) (inl same) = sym same
  same_first x y (inr less) (inr more) = absurd (not_below_itself x (total.trans x y x more less))

  among_rest : (x : R) (ys xs : List R) → AllByRecursion (λ z. cmp x z ≡ Less) xs → AllByRecursion (λ z. IsAmong z (x ∷ ys)) xs → AllByRecursion (λ z. IsAmong z ys) xs
  among_rest x ys [] above among = tt
  among_rest x ys (z ∷ xs) above among =
      (elim among.0 [ inl same ↦ absurd (not_below_itself x (subst (λ w. cmp x w ≡ Less) same above.0)) | inr at ↦ at ], among_rest x ys xs above.1 among.1)

  -- two lists in strict order that have the same elements are one
  pub same_elements : (xs ys : List R) → IsStrictlySortedBy cmp xs → IsStrictlySortedBy cmp ys
      → AllByRecursion (λ x. IsAmong x ys) xs → AllByRecursion (λ y. IsAmong y xs) ys → xs ≡ ys
  unfolding IsStrictlySortedBy
  same_elements [] [] rise rises here there = refl
  same_elements [] (y ∷ ys) rise rises here there = absurd there.0
  same_elements (x ∷ xs) [] rise rises here there = absurd here.0
  same_elements (x ∷ xs) (y ∷ ys) rise rises here there =
      let same : x ≡ y = same_first x y (first_or_behind x y ys rises.0 here.0) (first_or_behind y x xs rise.0 there.0) in
      let rest : xs ≡ ys = same_elements xs ys rise.1 rises.1
      (among_rest x ys xs rise.0 (subst (λ w. AllByRecursion (λ z. IsAmong z (w ∷ ys)) xs) (sym same) here.1))
      (among_rest y xs ys rises.0 (subst (λ w. AllByRecursion (λ z. IsAmong z (w ∷ xs)) ys) same there.1)) in
      ap (λ w. w ∷ xs) same ∙ ap (λ zs. y ∷ zs) rest

  -- two of a list in strict order that tie are one
  pub tied_same : (x y : R) (xs : List R) → IsStrictlySortedBy cmp xs → IsAmong x xs → IsAmong y xs → cmp x y ≡ Equal → x ≡ y
  unfolding IsStrictlySortedBy
  tied_same x y [] rise here there tie = absurd here
  tied_same x y (z ∷ xs) rise here there tie = grind (
    arith,
    tied_same x y xs rise.1,
    total.antisymm y x,
    among_has (λ w. cmp z w ≡ Less) x xs rise.0,
    among_has (λ w. cmp z w ≡ Less) y xs rise.0,
  )

  -- ---- permutations

  among_permuted : (xs ys : List R) → IsPermutation xs ys → AllByRecursion (λ y. IsAmong y xs) ys
  among_permuted xs ys permuted = recursion_from_All (λ y. IsAmong y xs) ys
      (All-permutation (λ y. IsAmong y xs) xs ys permuted (All-from_recursion (λ x. IsAmong x xs) xs (among_itself xs)))

  equal_back : (o : Ordering) → is_eq (ordering_reverse o) ≡ is_eq o
  equal_back o = grind arith

  less_left : (a b : R) → is_lt (cmp b a) ≡ false → eq_by_cmp cmp a b ≡ false → cmp a b ≡ Less
  less_left a b above apart = grind (arith, total.antisymm b a)

  strictly : (ys : List R) → IsSortedBy (λ a b. is_lt (cmp a b)) ys → IsDistinct (eq_by_cmp cmp) ys → IsStrictlySortedBy cmp ys
  unfolding IsStrictlySortedBy
  strictly [] sorted apart = tt
  strictly (y ∷ ys) sorted apart = sorted_from_all_adjacent total (y ∷ ys) y
      (λ k low. less_left (get_or (y ∷ ys) k y) (get_or (y ∷ ys) (k + 1) y) (sorted k y (omega arith) low)
      (apart_from_distinct (eq_by_cmp cmp) (y ∷ ys) k (k + 1) y apart (omega arith) low))

  -- a sorted permutation of a list in strict order is that list
  pub sorted_is_one : (xs ys : List R) → IsStrictlySortedBy cmp xs → IsPermutation xs ys → IsSortedBy (λ a b. is_lt (cmp a b)) ys → ys ≡ xs
  sorted_is_one xs ys rise permuted sorted =
      let apart : IsDistinct (eq_by_cmp cmp) ys = IsDistinct-IsPermutation (eq_by_cmp cmp)
      (λ x y. ap is_eq (total.antisymm x y) ∙ equal_back (cmp y x)) xs ys permuted (IsDistinct-from_sorted cmp xs rise) in
      same_elements ys xs (strictly ys sorted apart) rise (among_permuted xs ys permuted)
      (among_permuted ys xs (IsPermutation-sym xs ys permuted))

  -- what a sort by a closure ensures, where each call compares by the order
  pub sorted_from_sort_by : {F : Type 0} {g : Mut F (Bor R × (Bor R × Unit {0})) Ordering} {f : F} (xs : List R)
      → ((lt : R → R → Bool) → IsStrictWeakOrder lt → ComparesAs g lt f → IsSortedBy lt xs)
      → ((a : Bor R × (Bor R × Unit {0})) (r : Ordering) (f' : F) → Called g f a r f' → (r ≡ cmp a.0.now a.1.0.now) × (f' ≡ f))
      → IsSortedBy (λ a b. is_lt (cmp a b)) xs
  sorted_from_sort_by {g = g} {f = f} xs sorted calls = sorted (λ a b. is_lt (cmp a b)) (ranks_by total (λ x. x))
      (always_returns_same g (λ a r. is_lt r ≡ is_lt (cmp a.0.now a.1.0.now)) f (λ a r f' called. (ap is_lt (calls a r f' called).0, (calls a r f' called).1)))
