-- Rows that are put over others: which row is found then, how many there are, and that rows may be
-- split between the two.
use Rattle.std.proofs.Common.{[], ◌≡◌, ◌∙◌, ◌+◌, List, ◌∷◌, length, Bool, true, false, cond, not, Some, None, refl, sym, ap, arith}
use Rattle.farm_core.proofs.Names.{AllByRecursion, AllByRecursion-weaker, Equal, find, Greater, is_eq, IsStrictlySortedBy, Less, Ordering}
use Rattle.farm_core.proofs.Names.{ordering_reverse, put_sorted}
use Rattle.std.specs.List.{filter}
use Rattle.std.specs.Option.{option_or, is_some}
use Rattle.std.specs.Cmp.{IsTotalOrder}
use Rattle.std.proofs.lemmas.List.Kept.{IsStrictlySortedBy-filter}
use Rattle.farm_types.specs.Names.{put, put_all}

pub All-filter : {R : Type 0} (P : R → Type 0) (p : R → Bool) (rows : List R) → AllByRecursion P rows → AllByRecursion P (filter p rows)
All-filter P p [] all = tt
All-filter P p (r ∷ rows) all = grind (arith, All-filter P p rows all.1)

tied_if : (o : Ordering) → is_eq o ≡ true → o ≡ Equal
tied_if Less is = cc
tied_if Equal is = refl
tied_if Greater is = cc

module _ {R : Type 0} (cmp : R → R → Ordering) (total : IsTotalOrder cmp) where
  turn : (a b : R) (o : Ordering) → cmp a b ≡ o → cmp b a ≡ ordering_reverse o
  turn a b o is = total.antisymm b a ∙ ap ordering_reverse is

  -- the second of two rows with one key is what stays
  put_twice : (a b : R) → cmp a b ≡ Equal → (rows : List R) → put cmp (put cmp rows a) b ≡ put cmp rows b
  put_twice a b tie [] = rw (turn a b Equal tie)
  put_twice a b tie (r ∷ rows) = grind (arith, put_twice a b tie rows)

  -- rows with different keys may be put in either order
  put_swap : (a b : R) → (cmp a b ≡ Equal → ⊥) → (rows : List R) → put cmp (put cmp rows a) b ≡ put cmp (put cmp rows b) a
  put_swap a b apart [] = grind arith
  put_swap a b apart (r ∷ rows) = grind (arith, put_swap a b apart rows)

  -- a row that ties with none of the rows above may as well be put after them
  put_past : (row : R) (over : List R) → AllByRecursion (λ n. cmp row n ≡ Equal → ⊥) over → (rows : List R) → put_all cmp (put cmp rows row) over ≡ put cmp (put_all cmp rows over) row
  put_past row [] apart rows = refl
  put_past row (n ∷ over) apart rows =
      ap (λ rs. put_all cmp rs over) (put_swap row n apart.0 rows) ∙ put_past row over apart.1 (put cmp rows n)

  less_apart : (row n : R) → cmp row n ≡ Less → cmp row n ≡ Equal → ⊥
  less_apart row n less tie = let wrong : Less ≡ Equal = sym less ∙ tie in cc

  -- a row that is put among the rows above is put into all
  pub put_above : (row : R) (over : List R) → IsStrictlySortedBy cmp over → (rows : List R) → put_all cmp rows (put cmp over row) ≡ put cmp (put_all cmp rows over) row
  unfolding IsStrictlySortedBy
  put_above row [] sorted rows = refl
  put_above row (n ∷ over) sorted rows = grind (arith, put_above row over sorted.1 (put cmp rows n), put_past row (n ∷ over), less_apart row n, AllByRecursion-weaker, less_apart row, put_twice n row, turn row n, put_past row over)

  -- rows that are put into rows in order leave them in order
  pub put_all_sorted : (over rows : List R) → IsStrictlySortedBy cmp rows → IsStrictlySortedBy cmp (put_all cmp rows over)
  put_all_sorted [] rows sorted = sorted
  put_all_sorted (n ∷ over) rows sorted = put_all_sorted over (put cmp rows n) (put_sorted cmp total n rows sorted)

  -- ---- what is found

  module _ (q : R) where
    passes : R → Bool
    passes r = is_eq (cmp r q)

    none_if : (rows : List R) → AllByRecursion (λ y. is_eq (cmp y q) ≡ false) rows → find (λ r. is_eq (cmp r q)) rows ≡ None
    none_if [] all = refl
    none_if (r ∷ rows) all = rw all.0 (none_if rows all.1)

    -- above a row that passes none does
    above : (n y : R) → is_eq (cmp n q) ≡ true → cmp n y ≡ Less → is_eq (cmp y q) ≡ false
    above n y is less = ap is_eq (turn q y Less (sym (total.congr n q y (tied_if (cmp n q) is)) ∙ less))

    find_put : (row : R) (rows : List R) → find (λ r. is_eq (cmp r q)) (put cmp rows row) ≡ cond (is_eq (cmp row q)) (Some row) (find (λ r. is_eq (cmp r q)) rows)
    find_put row [] = refl
    find_put row (r ∷ rows) = grind (arith, find_put row rows)

    -- what stands above is found first
    pub find_over : (over : List R) → IsStrictlySortedBy cmp over → (rows : List R)
        → find (λ r. is_eq (cmp r q)) (put_all cmp rows over) ≡ option_or (find (λ r. is_eq (cmp r q)) over) (find (λ r. is_eq (cmp r q)) rows)
    unfolding IsStrictlySortedBy
    find_over [] sorted rows = refl
    find_over (n ∷ over) sorted rows = grind (arith, find_over over sorted.1 (put cmp rows n), find (λ r. is_eq (cmp r q)) over, is_eq, find_put n rows, is_eq (cmp n q), none_if over, AllByRecursion-weaker, above n)

  -- there is one row more where none with its key was found
  pub length_put_is : (row : R) (rows : List R) → IsStrictlySortedBy cmp rows → length (put cmp rows row) ≡ length rows + cond (is_some (find (λ r. is_eq (cmp r row)) rows)) 0 1
  unfolding IsStrictlySortedBy
  length_put_is row [] sorted = omega arith
  length_put_is row (r ∷ rows) sorted = grind (arith, length_put_is row rows sorted.1, AllByRecursion-weaker, turn row, turn row r, none_if row rows)

  -- ---- rows that are split

  lowest : (r : R) (rows : List R) → AllByRecursion (λ y. cmp r y ≡ Less) rows → put cmp rows r ≡ r ∷ rows
  lowest r [] all = refl
  lowest r (x ∷ rows) all = rw all.0

  past_lowest : (r : R) (over : List R) → AllByRecursion (λ y. cmp r y ≡ Less) over → (rows : List R) → put_all cmp (r ∷ rows) over ≡ r ∷ put_all cmp rows over
  past_lowest r [] all rows = refl
  past_lowest r (n ∷ over) all rows = rw (turn r n Less all.0) (past_lowest r over all.1 (put cmp rows n))

  -- rows in order, put one after the other
  pub put_all_same : (rows : List R) → IsStrictlySortedBy cmp rows → put_all cmp [] rows ≡ rows
  unfolding IsStrictlySortedBy
  put_all_same [] sorted = refl
  put_all_same (r ∷ rows) sorted = past_lowest r rows sorted.0 [] ∙ ap (λ rs. r ∷ rs) (put_all_same rows sorted.1)

  split : (p : R → Bool) (rows : List R) → IsStrictlySortedBy cmp rows → put_all cmp (filter p rows) (filter (λ r. not (p r)) rows) ≡ rows
  unfolding IsStrictlySortedBy
  split p [] sorted = refl
  split p (r ∷ rows) sorted = grind (arith, split p rows sorted.1, All-filter (λ y. cmp r y ≡ Less), past_lowest r (filter (λ r. not (p r)) rows), lowest r (filter p rows))

  -- rows in order are those that pass with the others put over them
  pub split_rows : (p : R → Bool) (rows : List R) → IsStrictlySortedBy cmp rows → put_all cmp (filter p rows) (put_all cmp [] (filter (λ r. not (p r)) rows)) ≡ rows
  split_rows p rows sorted =
      ap (put_all cmp (filter p rows)) (put_all_same (filter (λ r. not (p r)) rows) (IsStrictlySortedBy-filter cmp (λ r. not (p r)) rows sorted))
      ∙ split p rows sorted
