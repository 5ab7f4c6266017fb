-- What a binary search finds in a table that stands in order, which a function has as a slice.
use Rattle.std.proofs.Common.{◌≡◌, ◌∙◌, ◌<◌, ◌≤◌, ap, sym, ℕ, Bool, List, Some, None, Ok, Err, length, get_or}
use Rattle.farm_sound.proofs.Names.{find, is_eq, IsTotalOrder, Ordering}
use Rattle.std.specs.List.Sorted.{IsBinarySearchResult, IsStrictlySortedBy}
use Rattle.farm_types.proofs.Searched.{found_at}

module _ {R K : Type 0} (key : R → K) (c : K → K → Ordering) (total : IsTotalOrder c) (eq : K → K → Bool) (ties : (a b : K) → eq a b ≡ is_eq (c a b))
    (k : K) (table rows : List R) (is : rows ≡ table) (sorted : IsStrictlySortedBy (λ a b. c (key a) (key b)) table) where
  pub row_found : (i : ℕ) → i < length rows → IsBinarySearchResult (λ r. c (key r) k) rows (Ok i) → (row : R) → row ≡ get_or rows i row
      → Some row ≡ find (λ r. eq (key r) k) table
  row_found i within equal row at = rw (sym is) (ap Some at ∙ sym (found_at key c total eq ties k rows (rw is sorted) (Ok i) within equal row))

  pub none_found : (i : ℕ) → i ≤ length rows → IsBinarySearchResult (λ r. c (key r) k) rows (Err i) → None ≡ find (λ r. eq (key r) k) table
  none_found i within parted = rw (sym is) (sym (found_at key c total eq ties k rows (rw is sorted) (Err i) within parted))
