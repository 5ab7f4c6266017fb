-- The place at which a binary search ends.
use Rattle.std.proofs.Common.{◌≡◌, Bool, Err, List, Ok, Result, length, subst, sym, ℕ}
use Rattle.farm_pick.proofs.Names.{find, is_eq, IsTotalOrder, on_total, Ordering}
use Rattle.farm_types.proofs.Put.{put_searched}
use Rattle.std.specs.List.Sorted.{IsBinarySearchResult, IsSearchInRange, IsStrictlySortedBy}
use Rattle.farm_types.proofs.Searched.{found_at}
use Rattle.farm_pick.specs.Index.{IsPlace}

module _ {R K : Type 0} (key : R → K) (c : K → K → Ordering) (total : IsTotalOrder c) (eq : K → K → Bool) (ties : (a b : K) → eq a b ≡ is_eq (c a b))
    (k : K) (HasKey : R → Type 0) (has : (r : R) → HasKey r → key r ≡ k) where
  pub placed : (rows : List R) → IsStrictlySortedBy (λ a b. c (key a) (key b)) rows → (found : Result ℕ ℕ) → IsSearchInRange found (length rows)
      → IsBinarySearchResult (λ r. c (key r) k) rows found → IsPlace (λ a b. c (key a) (key b)) HasKey rows (find (λ r. eq (key r) k) rows) found
  placed rows sorted (Ok i) within is = record {
    within = within;
    row = found_at key c total eq ties k rows sorted (Ok i) within is;
    puts = λ row mine. put_searched (λ a b. c (key a) (key b)) (on_total key total) row rows sorted (Ok i) within
        (subst (λ (x : K). IsBinarySearchResult (λ r. c (key r) x) rows (Ok i)) (sym (has row mine)) is);
  }
  placed rows sorted (Err i) within is = record {
    within = within;
    row = found_at key c total eq ties k rows sorted (Err i) within is;
    puts = λ row mine. put_searched (λ a b. c (key a) (key b)) (on_total key total) row rows sorted (Err i) within
        (subst (λ (x : K). IsBinarySearchResult (λ r. c (key r) x) rows (Err i)) (sym (has row mine)) is);
  }
