-- Where a search ends among rows in order, and what `put` does there.
use Rattle.std.proofs.Common.{◌≡◌, ℕ, zero, suc, ◌+◌, ◌<◌, ◌≤◌, List, [], ◌∷◌, length, get_or, set, Result, Ok, Err, MatchResult, Bool, true, cond}
use Rattle.std.proofs.Common.{Some, None, IsSome, sym, ap, ◌∙◌, refl, arith}
use Rattle.std.specs.List.{insert, AllByRecursion, find, filter}
use Rattle.std.specs.List.Sorted.{IsStrictlySortedBy, IsSortedBy, IsSearchInRange, IsBinarySearchResult}
use Rattle.std.proofs.lemmas.List.Sorted.{searchable_from_sorted}
use Rattle.std.specs.Cmp.{IsTotalOrder}
use Rattle.std.specs.Ordering.{ordering_reverse, is_lt, is_eq}
use Rattle.std.specs.declared.cmp.Ordering.TheVariants.{Less, Equal, Greater}
use Rattle.std.specs.declared.cmp.Ordering.{Ordering}
use Rattle.std.proofs.lemmas.Cmp.{alike_right}
use Rattle.std.proofs.lemmas.Map.Keys.{Less-from_sorted, sorted_tail}
use Rattle.farm_types.specs.Table.{put}

-- a weaker fact
pub AllByRecursion-weaker : {R : Type 0} {P Q : R → Type 0} → ((r : R) → P r → Q r) → (rows : List R) → AllByRecursion P rows → AllByRecursion Q rows
AllByRecursion-weaker weaker [] all = tt
AllByRecursion-weaker weaker (r ∷ rows) all = (weaker r all.0, AllByRecursion-weaker weaker rows all.1)

module _ {R : Type 0} (cmp : R → R → Ordering) (total : IsTotalOrder cmp) (row : R) where
  -- what holds of the row and of each old row holds of each new one
  pub AllByRecursion-put : (P : R → Type 0) → P row → (rows : List R) → AllByRecursion P rows → AllByRecursion P (put cmp rows row)
  AllByRecursion-put P here [] all = (here, tt)
  AllByRecursion-put P here (r ∷ rows) all = grind (arith, AllByRecursion-put P here rows all.1)

  -- the rows stay in order
  pub put_sorted : (rows : List R) → IsStrictlySortedBy cmp rows → IsStrictlySortedBy cmp (put cmp rows row)
  unfolding IsStrictlySortedBy
  put_sorted [] sorted = (tt, tt)
  put_sorted (r ∷ rows) sorted = grind (arith, put_sorted rows sorted.1, AllByRecursion-weaker, AllByRecursion-put (λ y. cmp r y ≡ Less))

  -- the row takes the place of the one with its key
  pub put_at : (rows : List R) (i : ℕ) → IsStrictlySortedBy cmp rows → i < length rows → ((d : R) → cmp (get_or rows i d) row ≡ Equal) → put cmp rows row ≡ set rows i row
  put_at [] i sorted in_range equal = absurd (omega arith)
  put_at (r ∷ rows) zero sorted in_range equal =
      let flipped : cmp row r ≡ Equal = total.antisymm row r ∙ ap ordering_reverse (equal row) in
      rw flipped
  put_at (r ∷ rows) (suc i) sorted in_range equal =
      let less : cmp r (get_or rows i row) ≡ Less = Less-from_sorted cmp (r ∷ rows) 0 (suc i) row sorted (omega arith) in_range in
      let below : cmp r row ≡ Less = sym (alike_right total (get_or rows i row) row r (equal row)) ∙ less in
      let flipped : cmp row r ≡ Greater = total.antisymm row r ∙ ap ordering_reverse below in
      rw flipped (ap (λ rest. r ∷ rest) (put_at rows i (sorted_tail cmp r rows sorted) (omega arith) equal))

  -- the row is added in the gap for its key
  pub put_gap : (rows : List R) (i : ℕ) → i ≤ length rows → ((j : ℕ) (d : R) → j < i → cmp (get_or rows j d) row ≡ Less) → ((j : ℕ) (d : R) → i ≤ j → j < length rows → cmp (get_or rows j d) row ≡ Greater) → put cmp rows row ≡ insert rows i row
  put_gap [] zero in_range before after = refl
  put_gap [] (suc i) in_range before after = absurd (omega arith)
  put_gap (r ∷ rows) zero in_range before after =
      let flipped : cmp row r ≡ Less = total.antisymm row r ∙ ap ordering_reverse (after 0 row (omega arith) (omega arith)) in
      rw flipped
  put_gap (r ∷ rows) (suc i) in_range before after =
      let flipped : cmp row r ≡ Greater = total.antisymm row r ∙ ap ordering_reverse (before 0 row (omega arith)) in
      rw flipped (ap (λ rest. r ∷ rest) (put_gap rows i (omega arith) (λ j d lt. before (suc j) d (omega arith)) (λ j d le lt. after (suc j) d (omega arith) (omega arith))))

  -- a binary search among rows in order ends at the row's place
  pub put_searched : (rows : List R) → IsStrictlySortedBy cmp rows → (found : Result ℕ ℕ) → IsSearchInRange found (length rows) → IsBinarySearchResult (λ r. cmp r row) rows found → MatchResult found (λ i. put cmp rows row ≡ set rows i row) (λ i. put cmp rows row ≡ insert rows i row)
  put_searched rows sorted (Ok i) in_range equal = put_at rows i sorted in_range equal
  put_searched rows sorted (Err i) in_range parted =
      let ascending : IsSortedBy (λ a b. is_lt (cmp a b)) rows = λ k d low high. ap is_lt (total.antisymm (get_or rows (k + 1) d) (get_or rows k d) ∙ ap ordering_reverse (Less-from_sorted cmp rows k (k + 1) d sorted (omega arith) high)) in
      let both = parted (searchable_from_sorted total (λ r. r) rows row ascending) in
      put_gap rows i in_range (λ j d lt. both.0 j d (omega arith) lt) both.1

  -- a row that is found is found again, if rows with one key pass alike
  pub find_put : (test : R → Bool) → ((r : R) → cmp row r ≡ Equal → test row ≡ test r) → (rows : List R) → IsSome (find test rows) → IsSome (find test (put cmp rows row))
  find_put test same [] found = grind arith
  find_put test same (r ∷ rows) found = grind (arith, find_put test same rows, same r)

  -- there is one more row at most
  pub length_put : (rows : List R) → length (put cmp rows row) ≤ length rows + 1
  length_put [] = omega arith
  length_put (r ∷ rows) = grind (arith, length_put rows)

  -- and one more that passes, if the row does
  pub count_put : (test : R → Bool) (rows : List R) → length (filter test (put cmp rows row)) ≤ length (filter test rows) + cond (test row) 1 0
  count_put test [] = grind arith
  count_put test (r ∷ rows) = grind (arith, count_put test rows)

  -- below all rows, the row ties with none
  not_tied : (rows : List R) → AllByRecursion (λ y. cmp row y ≡ Less) rows → find (λ r. is_eq (cmp row r)) rows ≡ None
  not_tied [] all = refl
  not_tied (y ∷ rows) all = rw all.0 (not_tied rows all.1)

  same_length : (test : R → Bool) (b : R) (rest : List R) → test row ≡ test b → length (cond (test row) (row ∷ rest) rest) ≡ length (cond (test b) (b ∷ rest) rest)
  same_length test b rest same = grind arith

  longer : (test : R → Bool) (r : R) (xs ys : List R) → length xs ≡ length ys → length (cond (test r) (r ∷ xs) xs) ≡ length (cond (test r) (r ∷ ys) ys)
  longer test r xs ys same = grind arith

  -- a row in the place of another that passes alike
  pub count_replaced : (test : R → Bool) (b : R) → test row ≡ test b → (rows : List R) → IsStrictlySortedBy cmp rows → find (λ r. is_eq (cmp row r)) rows ≡ Some b → (length (filter test (put cmp rows row)) ≡ length (filter test rows)) × (length (put cmp rows row) ≡ length rows)
  unfolding IsStrictlySortedBy
  count_replaced test b same [] sorted found = cc
  count_replaced test b same (r ∷ rows) sorted found = grind (arith, count_replaced test b same rows sorted.1, not_tied rows, AllByRecursion-weaker, same_length test r (filter test rows), longer test r)

  -- what is found after a put: the row itself, or what was found before
  pub find_put_is : (test : R → Bool) → ((r : R) → cmp row r ≡ Equal → test row ≡ test r) → ((r : R) → test row ≡ true → test r ≡ true → cmp row r ≡ Equal) → (rows : List R) → find test (put cmp rows row) ≡ cond (test row) (Some row) (find test rows)
  find_put_is test same alike [] = refl
  find_put_is test same alike (r ∷ rows) = grind (arith, find_put_is test same alike rows, same r, alike r)

-- what holds of each row holds of the one that is found
pub found_has : {R : Type 0} (P : R → Type 0) (test : R → Bool) (b : R) → (rows : List R) → AllByRecursion P rows → find test rows ≡ Some b → P b
found_has P test b [] all found = cc
found_has P test b (r ∷ rows) all found = grind (arith, found_has P test b rows all.1)

-- and passes
pub found_passes : {R : Type 0} (test : R → Bool) (b : R) → (rows : List R) → find test rows ≡ Some b → test b ≡ true
found_passes test b [] found = cc
found_passes test b (r ∷ rows) found = grind (arith, found_passes test b rows)
