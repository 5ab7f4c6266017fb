-- What a table keeps at each step, and that the log leads on.
use Rattle.std.proofs.Common.{[], ◌≡◌, ℕ, zero, suc, ◌+◌, add-one, ◌<◌, List, ◌∷◌, ◌++◌, length, get_or, set, Bool, true, false, Result, Ok, Err, Some}
use Rattle.std.proofs.Common.{None, sym, ap, ◌∙◌, refl, subst, arith}
use Rattle.std.specs.List.{AllByRecursion, find}
use Rattle.std.specs.List.Sorted.{IsBinarySearchResult, IsSearchInRange, IsStrictlySortedBy}
use Rattle.std.specs.Cmp.{IsTotalOrder}
use Rattle.std.specs.Ordering.{is_eq, ordering_reverse}
use Rattle.std.specs.declared.cmp.Ordering.TheVariants.{Less, Equal, Greater}
use Rattle.std.specs.declared.cmp.Ordering.{Ordering}
use Rattle.std.proofs.lemmas.Cmp.{tied_itself}
use Rattle.farm_types.specs.Names.{change_where, put, put_all}
use Rattle.farm_types.proofs.Put.{AllByRecursion-put, AllByRecursion-weaker, put_sorted, put_at, put_searched, found_passes}
use Rattle.farm_types.proofs.Searched.{found_at}
use Rattle.farm_table.proofs.Upto.{upto_next, upto_more, upto_same, at_any}
use Rattle.farm_table.specs.Tabled.{upto, put_in, Tabled, Leads, IsFoundAt, IsTable, by_key}

pub put_all_join : {R : Type 0} (cmp : R → R → Ordering) (rows xs ys : List R) → put_all cmp rows (xs ++ ys) ≡ put_all cmp (put_all cmp rows xs) ys
put_all_join cmp rows [] ys = refl
put_all_join cmp rows (x ∷ xs) ys = put_all_join cmp (put cmp rows x) xs ys

pub all_push : {R : Type 0} (P : R → Type 0) (xs : List R) (y : R) → AllByRecursion P xs → P y → AllByRecursion P (xs ++ y ∷ [])
all_push P [] y all here = (here, tt)
all_push P (x ∷ xs) y all here = (all.0, all_push P xs y all.1 here)

-- ---- the log leads on

pub leads_none : {R : Type 0} (cmp : R → R → Ordering) (a : Tabled R) → Leads cmp a a
leads_none cmp a = record { on = λ start led. led }

pub leads_join : {R : Type 0} (cmp : R → R → Ordering) (a b c : Tabled R) → Leads cmp a b → Leads cmp b c → Leads cmp a c
leads_join cmp a b c first second = record { on = λ start led. second.on start (first.on start led) }

-- ---- one row more

module _ {R : Type 0} (cmp : R → R → Ordering) (total : IsTotalOrder cmp) (Fits : R → Type 0) (rows log : List R) (row copy : R) (same : copy ≡ row) where
  pub leads_put : (a b : Tabled R) → a ≡ record { rows = rows; log = log } → b ≡ record { rows = put cmp rows row; log = log ++ copy ∷ [] } → Leads cmp a b
  leads_put a b before after = rw (before, after) (record {
    on = λ start led. put_all_join cmp start log (copy ∷ []) ∙ (λ i. put cmp (led i) (same i));
  })

  pub table_put : Fits row → IsTable cmp Fits rows log → IsTable cmp Fits (put cmp rows row) (log ++ copy ∷ [])
  table_put fits table = record {
    sorted = put_sorted cmp total row rows table.sorted;
    fit = AllByRecursion-put cmp total row Fits fits rows table.fit;
    logged = all_push Fits log copy table.logged (subst Fits (sym same) fits);
  }

-- a row that is put where a search for its key ended is put
pub put_found : {R : Type 0} (cmp : R → R → Ordering) (total : IsTotalOrder cmp) (row : R) (rows : List R) → IsStrictlySortedBy cmp rows → (place : Result ℕ ℕ) → IsSearchInRange place (length rows)
    → IsBinarySearchResult (λ r. cmp r row) rows place → put_in place row rows ≡ put cmp rows row
put_found cmp total row rows sorted (Ok i) within is = sym (put_searched cmp total row rows sorted (Ok i) within is)
put_found cmp total row rows sorted (Err i) within is = sym (put_searched cmp total row rows sorted (Err i) within is)

pub no_table : {R : Type 0} (cmp : R → R → Ordering) (Fits : R → Type 0) (rows log : List R) → rows ≡ [] → log ≡ [] → IsTable cmp Fits rows log
unfolding IsStrictlySortedBy
no_table cmp Fits rows log no_rows no_log = rw (no_rows, no_log) (record { sorted = tt; fit = tt; logged = tt })

-- ---- the row with a key

pub fit_at : {R : Type 0} (P : R → Type 0) (rows : List R) (i : ℕ) (d : R) → AllByRecursion P rows → i < length rows → P (get_or rows i d)
fit_at P [] i d all low = absurd (omega arith)
fit_at P (r ∷ rows) zero d all low = all.0
fit_at P (r ∷ rows) (suc i) d all low = fit_at P rows i d all.1 (omega arith)

module _ {R : Type 0} (cmp : R → R → Ordering) (test : R → Bool) (f : R → R) (apart : (x y : R) → cmp x y ≡ Less → test x ≡ true → test y ≡ false) where
  none_change : (rows : List R) → AllByRecursion (λ y. test y ≡ false) rows → change_where test f rows ≡ rows
  none_change [] all = refl
  none_change (r ∷ rows) all = rw all.0 (ap (λ rest. r ∷ rest) (none_change rows all.1))

  pub one_changes : (rows : List R) (i : ℕ) (d : R) → IsStrictlySortedBy cmp rows → i < length rows → test (get_or rows i d) ≡ true → change_where test f rows ≡ set rows i (f (get_or rows i d))
  unfolding IsStrictlySortedBy
  one_changes [] i d sorted low passes = absurd (omega arith)
  one_changes (r ∷ rows) zero d sorted low passes =
      rw passes (ap (λ rest. f r ∷ rest) (none_change rows (AllByRecursion-weaker (λ y less. apart r y less passes) rows sorted.0)))
  one_changes (r ∷ rows) (suc i) d sorted low passes = grind (arith, one_changes rows i d sorted.1 (omega arith) passes, fit_at (λ y. cmp r y ≡ Less) rows i d sorted.0 (omega arith))

pub nobody_changes : {R : Type 0} (test : R → Bool) (f : R → R) (rows : List R) → find test rows ≡ None → rows ≡ change_where test f rows
nobody_changes test f [] none = refl
nobody_changes test f (r ∷ rows) none = grind (arith, nobody_changes test f rows)

is_eq-Equal : (o : Ordering) → is_eq o ≡ true → o ≡ Equal
is_eq-Equal Less e = cc
is_eq-Equal Equal e = refl
is_eq-Equal Greater e = cc

module _ {R K : Type 0} (key : R → K) (c : K → K → Ordering) (total : IsTotalOrder c) (eq : K → K → Bool) (ties : (a b : K) → eq a b ≡ is_eq (c a b)) (k : K) where
  pub apart_by_key : (x y : R) → by_key key c x y ≡ Less → eq (key x) k ≡ true → eq (key y) k ≡ false
  apart_by_key x y less here = grind arith

  -- where a binary search ends
  pub found_place : (rows : List R) → IsStrictlySortedBy (by_key key c) rows → (place : Result ℕ ℕ) → IsSearchInRange place (length rows) → IsBinarySearchResult (λ r. c (key r) k) rows place → IsFoundAt rows (find (λ r. eq (key r) k) rows) place
  found_place rows sorted (Ok i) within is = (within, found_at key c total eq ties k rows sorted (Ok i) within is)
  found_place rows sorted (Err i) within is = found_at key c total eq ties k rows sorted (Err i) within is

  -- the row that a search found is the one that changes
  pub found_changes : (f : R → R) (rows new : List R) (i : ℕ) → IsStrictlySortedBy (by_key key c) rows → i < length rows → ((d : R) → find (λ r. eq (key r) k) rows ≡ Some (get_or rows i d))
      → ((d : R) → new ≡ set rows i (f (get_or rows i d))) → new ≡ change_where (λ r. eq (key r) k) f rows
  found_changes f [] new i sorted low found made = absurd (omega arith)
  found_changes f (r ∷ rows) new i sorted low found made =
      made r ∙ sym (one_changes (by_key key c) (λ r. eq (key r) k) f apart_by_key (r ∷ rows) i r sorted low (found_passes (λ r. eq (key r) k) (get_or (r ∷ rows) i r) (r ∷ rows) (found r)))

-- ---- a row that is changed in its place is put there

module _ {R : Type 0} (cmp : R → R → Ordering) (total : IsTotalOrder cmp) (Fits : R → Type 0) (rows log : List R) (table : IsTable cmp Fits rows log) (i : ℕ) (low : i < length rows)
    (f : R → R) (tied : (r : R) → cmp (f r) r ≡ Equal) (fits : (r : R) → Fits r → Fits (f r)) (given read new copy : R) (given_is : given ≡ get_or rows i given) (read_is : read ≡ get_or rows i read) (new_is : new ≡ f given) (copy_is : copy ≡ f read) where
  put_there : put cmp rows new ≡ set rows i new
  put_there = put_at cmp total new rows i table.sorted low (λ d.
      ap (λ r. cmp r new) (at_any rows i given d low given_is) ∙ ap (cmp given) new_is ∙ total.antisymm given (f given) ∙ ap ordering_reverse (tied given))

  same : copy ≡ new
  same = copy_is ∙ ap f (sym (at_any rows i read given low read_is) ∙ sym given_is) ∙ sym new_is

  fit_new : Fits new
  fit_new = subst Fits (sym new_is) (fits given (subst Fits (sym given_is) (fit_at Fits rows i given table.fit low)))

  pub table_set : IsTable cmp Fits (set rows i new) (log ++ copy ∷ [])
  table_set = subst (λ xs. IsTable cmp Fits xs (log ++ copy ∷ [])) put_there (table_put cmp total Fits rows log new copy same fit_new table)

  pub leads_set : (a b : Tabled R) → a ≡ record { rows = rows; log = log } → b ≡ record { rows = set rows i new; log = log ++ copy ∷ [] } → Leads cmp a b
  leads_set a b before after = leads_put cmp total Fits rows log new copy same a b before (after ∙ (λ i. record { rows = sym put_there i; log = log ++ copy ∷ [] }))

-- keys that stay keep the order
pub tied_by_key : {R K : Type 0} (key : R → K) (c : K → K → Ordering) → IsTotalOrder c → (f : R → R) → ((r : R) → key (f r) ≡ key r) → (r : R) → by_key key c (f r) r ≡ Equal
tied_by_key key c total f keeps r = ap (λ k. c k (key r)) (keeps r) ∙ tied_itself total (key r)

-- ---- one row after another

module _ {R : Type 0} (test : R → Bool) (f : R → R) where
  pub step_passes : (n : ℕ) (rows xs new : List R) → xs ≡ upto test f n rows → n < length rows → ((d : R) → true ≡ test (get_or xs n d)) → ((d : R) → new ≡ set xs n (f (get_or xs n d))) → new ≡ upto test f (n + 1) rows
  step_passes n [] xs new so low passes made = absurd (omega arith)
  step_passes n (r ∷ rows) xs new so low passes made =
      let own : (d : R) → get_or xs n d ≡ get_or (r ∷ rows) n d = λ d. ap (λ ys. get_or ys n d) so ∙ upto_next test f n (r ∷ rows) d in
      rw add-one (made r ∙ (λ i. set (so i) n (f (own r i))) ∙ upto_more test f n (r ∷ rows) low (λ d. ap test (sym (own d)) ∙ sym (passes d)) r)

  pub step_fails : (n : ℕ) (rows xs : List R) → xs ≡ upto test f n rows → ((d : R) → false ≡ test (get_or xs n d)) → xs ≡ upto test f (n + 1) rows
  step_fails n rows xs so fails =
      rw add-one (so ∙ sym (upto_same test f n rows (λ d low. ap test (sym (ap (λ ys. get_or ys n d) so ∙ upto_next test f n rows d)) ∙ sym (fails d))))
