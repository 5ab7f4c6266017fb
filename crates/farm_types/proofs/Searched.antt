-- Rows in strict order of their keys, and what a binary search among them finds.
use Rattle.std.proofs.Common.{◌≡◌, ℕ, zero, suc, ◌+◌, ◌<◌, ◌≤◌, ◌==◌, ◌⊎◌, inl, inr, Bool, true, false, List, [], ◌∷◌, length, get_or, Some, None, Result, Ok}
use Rattle.std.proofs.Common.{Err, MatchResult, sym, ap, ◌∙◌, refl, arith}
use Rattle.std.specs.List.{find, AllAdjacentBelow, IsAllAdjacentAnswer}
use Rattle.std.specs.List.Sorted.{IsStrictlySortedBy, IsSortedBy, IsSearchInRange, IsBinarySearchResult}
use Rattle.std.specs.Cmp.{IsTotalOrder}
use Rattle.std.specs.Str.{bytes_eq}
use Rattle.std.specs.Ordering.{ordering_reverse, is_lt, is_eq, nat_cmp}
use Rattle.std.specs.declared.cmp.Ordering.TheVariants.{Less, Equal, Greater}
use Rattle.std.specs.declared.cmp.Ordering.{Ordering}
use Rattle.std.proofs.lemmas.List.Sorted.{searchable_from_sorted}
use Rattle.std.proofs.lemmas.Bool.Decides.{nat_tests}
use Rattle.std.proofs.lemmas.Cmp.{alike_right}
use Rattle.std.proofs.lemmas.Map.Keys.{Less-from_sorted, sorted_tail, sorted_from_all_adjacent}
use Rattle.std.proofs.lemmas.Map.Text.{is_eq-slice_cmp}
use Rattle.farm_types.specs.Words.{text_cmp}
use mathlib.Core.Bool.{true≢false}

pub is_lt-Less : (o : Ordering) → is_lt o ≡ true → o ≡ Less
is_lt-Less Less e = refl
is_lt-Less Equal e = cc
is_lt-Less Greater e = cc

module _ {R : Type 0} (cmp : R → R → Ordering) (total : IsTotalOrder cmp) where
  risen : (xs : List R) → AllAdjacentBelow (λ x y. true ≡ is_lt (cmp x y)) xs (length xs) → IsStrictlySortedBy cmp xs
  unfolding IsStrictlySortedBy
  risen [] h = tt
  risen (x ∷ xs) h = sorted_from_all_adjacent total (x ∷ xs) x (λ k lt. is_lt-Less _ (sym (h k x lt)))

  not_risen : (xs : List R) → IsStrictlySortedBy cmp xs → (k : ℕ) → k + 1 < length xs → ((d : R) → false ≡ is_lt (cmp (get_or xs k d) (get_or xs (k + 1) d))) → ⊥
  not_risen [] sorted k lt falls = absurd (omega arith)
  not_risen (x ∷ xs) sorted k lt falls =
      let less : cmp (get_or (x ∷ xs) k x) (get_or (x ∷ xs) (k + 1) x) ≡ Less = Less-from_sorted cmp (x ∷ xs) k (k + 1) x sorted (omega arith) lt in
      true≢false (sym (ap is_lt less) ∙ sym (falls x))

  -- neighbours that rise are rows in order, and the other way round
  pub sorted_from_answer : (rows : List R) (r : Bool) → IsAllAdjacentAnswer (λ x y b. b ≡ is_lt (cmp x y)) rows r → (r ≡ true → IsStrictlySortedBy cmp rows) × (IsStrictlySortedBy cmp rows → r ≡ true)
  sorted_from_answer rows true h = (λ _. risen rows h, λ _. refl)
  sorted_from_answer rows false h = (λ e. absurd (true≢false (sym e)), λ sorted. absurd (not_risen rows sorted h.0 h.1 h.2))

below_or : (j i : ℕ) → (j < i) ⊎ (i ≤ j)
below_or j i = grind arith

-- a row that is found where no row before it ties
module _ {R K : Type 0} (key : R → K) (c : K → K → Ordering) (total : IsTotalOrder c) (eq : K → K → Bool) (ties : (a b : K) → eq a b ≡ is_eq (c a b)) (k : K) where
  find_at : (rows : List R) (i : ℕ) → IsStrictlySortedBy (λ a b. c (key a) (key b)) rows → i < length rows → (d : R) → c (key (get_or rows i d)) k ≡ Equal → find (λ r. eq (key r) k) rows ≡ Some (get_or rows i d)
  find_at [] i sorted in_range d equal = absurd (omega arith)
  find_at (r ∷ rows) zero sorted in_range d equal = rw (ties (key r) k, equal)
  find_at (r ∷ rows) (suc i) sorted in_range d equal =
      let less : c (key r) (key (get_or rows i d)) ≡ Less = Less-from_sorted (λ a b. c (key a) (key b)) (r ∷ rows) 0 (suc i) d sorted (omega arith) in_range in
      let below : c (key r) k ≡ Less = sym (alike_right total (key (get_or rows i d)) k (key r) equal) ∙ less in
      rw (ties (key r) k, below) (find_at rows i (sorted_tail (λ a b. c (key a) (key b)) r rows sorted) (omega arith) d equal)

  find_none : (rows : List R) → ((j : ℕ) (d : R) → j < length rows → is_eq (c (key (get_or rows j d)) k) ≡ false) → find (λ r. eq (key r) k) rows ≡ None
  find_none [] apart = refl
  find_none (r ∷ rows) apart = rw (ties (key r) k, apart 0 r (omega arith)) (find_none rows (λ j d lt. apart (suc j) d (omega arith)))

  -- under strict order a binary search finds what a search from the front finds
  pub found_at : (rows : List R) → IsStrictlySortedBy (λ a b. c (key a) (key b)) rows → (found : Result ℕ ℕ) → IsSearchInRange found (length rows) → IsBinarySearchResult (λ r. c (key r) k) rows found → MatchResult found (λ i. (d : R) → find (λ r. eq (key r) k) rows ≡ Some (get_or rows i d)) (λ i. find (λ r. eq (key r) k) rows ≡ None)
  found_at rows sorted (Ok i) in_range equal = λ d. find_at rows i sorted in_range d (equal d)
  found_at rows sorted (Err i) in_range parted =
      let ascending : IsSortedBy (λ a b. is_lt (c (key a) (key b))) rows = λ j d low high. ap is_lt (total.antisymm (key (get_or rows (j + 1) d)) (key (get_or rows j d)) ∙ ap ordering_reverse (Less-from_sorted (λ a b. c (key a) (key b)) rows j (j + 1) d sorted (omega arith) high)) in
      let both = parted (searchable_from_sorted total key rows k ascending) in
      find_none rows (λ j d lt. elim (below_or j i) [
        | inl below ↦ rw (both.0 j d (omega arith) below)
        | inr above ↦ rw (both.1 j d above lt)
      ])

pub same_names : (a b : List ℕ) → bytes_eq a b ≡ is_eq (text_cmp a b)
same_names a b = sym (is_eq-slice_cmp a b)

pub same_numbers : (a b : ℕ) → (a == b) ≡ is_eq (nat_cmp a b)
same_numbers a b = grind (arith, nat_tests)
