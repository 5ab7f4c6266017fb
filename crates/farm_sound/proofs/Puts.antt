-- A change where a test passes is one put after another of the changed rows.
use Rattle.std.proofs.Common.{[], ◌==◌, ◌∙◌, ◌∷◌, ◌≡◌, Bool, List, Some, ap, arith, false, map, refl, sym, true, ℕ}
use Rattle.farm_sound.proofs.Names.{AllByRecursion, AllByRecursion-weaker, BoardRow, bytes_eq, bytes_eq-Decides, Equal, filter, find, Greater, is_eq}
use Rattle.farm_sound.proofs.Names.{is_eq-slice_cmp, IsTotalOrder, JobRow, Less, match_ordering, nat_cmp, nat_cmp_total, nat_list_cmp_total}
use Rattle.std.specs.List.Sorted.{IsStrictlySortedBy}
use Rattle.farm_sound.proofs.Names.{nat_list_eq_equiv, nat_tests, Ordering, ordering_reverse, ranked, ResRow, tied_itself}
use Rattle.farm_types.specs.Names.{board_cmp, change_where, job_cmp, put, put_all, res_cmp, text_cmp}
use Rattle.farm_sound.proofs.Lists.{filter_all, none_pass}
use Rattle.farm_sound.proofs.Where.{AllByRecursion-map}

module _ {R : Type 0} (cmp : R → R → Ordering) (total : IsTotalOrder cmp) (test : R → Bool) (f : R → R) (keeps : (r : R) → cmp (f r) r ≡ Equal) where
  -- rows above the first one leave it in its place
  above : (r : R) (changed rows : List R) → AllByRecursion (λ c. cmp c r ≡ Greater) changed → put_all cmp (r ∷ rows) changed ≡ r ∷ put_all cmp rows changed
  above r [] rows all = refl
  above r (c ∷ changed) rows all =
      ap (λ o. put_all cmp (match_ordering o (c ∷ r ∷ rows) (c ∷ rows) (r ∷ put cmp rows c)) changed) all.0 ∙ above r changed (put cmp rows c) all.1

  changed_above : (r s : R) (rows : List R) → cmp s r ≡ Equal → AllByRecursion (λ y. cmp r y ≡ Less) rows
      → AllByRecursion (λ c. cmp c s ≡ Greater) (map f (filter test rows))
  changed_above r s rows same less =
      AllByRecursion-map (λ y. cmp r y ≡ Less) (λ c. cmp c s ≡ Greater) f
      (λ y is. total.congr (f y) y s (keeps y) ∙ total.antisymm y s ∙ ap ordering_reverse (total.congr s r y same ∙ is))
      (filter test rows) (AllByRecursion-weaker (λ y two. two.0) (filter test rows) (filter_all (λ y. cmp r y ≡ Less) test rows less))

  pub puts_are_change : (rows : List R) → IsStrictlySortedBy cmp rows → put_all cmp rows (map f (filter test rows)) ≡ change_where test f rows
  unfolding IsStrictlySortedBy
  puts_are_change [] sorted = refl
  puts_are_change (r ∷ rows) sorted = grind (arith, puts_are_change rows sorted.1, above (f r) (map f (filter test rows)) rows (changed_above r (f r) rows (keeps r) sorted.0), changed_above r (f r) rows (keeps r) sorted.0, above r (map f (filter test rows)) rows (changed_above r r rows (tied_itself total r) sorted.0), changed_above r r rows (tied_itself total r) sorted.0)

-- ---- one row

-- of rows in order only the one that is found passes a test by the key
filter_one : {R : Type 0} (cmp : R → R → Ordering) (test : R → Bool) → ((x y : R) → cmp x y ≡ Less → test x ≡ true → test y ≡ false) → (r : R) (rows : List R)
    → IsStrictlySortedBy cmp rows → find test rows ≡ Some r → filter test rows ≡ r ∷ []
unfolding IsStrictlySortedBy
filter_one cmp test apart r [] sorted found = cc
filter_one cmp test apart r (x ∷ rows) sorted found = grind (arith, filter_one cmp test apart r rows sorted.1, none_pass test rows, AllByRecursion-weaker)

-- changing it is putting the changed one
pub put_is_change : {R : Type 0} (cmp : R → R → Ordering) (total : IsTotalOrder cmp) (test : R → Bool) (f : R → R) → ((r : R) → cmp (f r) r ≡ Equal)
    → ((x y : R) → cmp x y ≡ Less → test x ≡ true → test y ≡ false) → (r : R) (rows : List R) → IsStrictlySortedBy cmp rows → find test rows ≡ Some r
    → put cmp rows (f r) ≡ change_where test f rows
put_is_change cmp total test f keeps apart r rows sorted found =
    sym (ap (λ xs. put_all cmp rows (map f xs)) (filter_one cmp test apart r rows sorted found)) ∙ puts_are_change cmp total test f keeps rows sorted

pub job_keeps : (f : JobRow → JobRow) → ((k : JobRow) → (f k).number ≡ k.number) → (j : JobRow) → job_cmp (f j) j ≡ Equal
job_keeps f keeps j = ap (λ n. nat_cmp n j.number) (keeps j) ∙ tied_itself nat_cmp_total j.number

pub res_keeps : (f : ResRow → ResRow) → ((q : ResRow) → (f q).number ≡ q.number) → (r : ResRow) → res_cmp (f r) r ≡ Equal
res_keeps f keeps r = ap (λ n. nat_cmp n r.number) (keeps r) ∙ tied_itself nat_cmp_total r.number

pub board_keeps : (f : BoardRow → BoardRow) → ((c : BoardRow) → (f c).name ≡ c.name) → (b : BoardRow) → board_cmp (f b) b ≡ Equal
board_keeps f keeps b = ap (λ n. text_cmp n b.name) (keeps b) ∙ tied_itself nat_list_cmp_total b.name

pub numbers_apart : (n a b : ℕ) → nat_cmp a b ≡ Less → (a == n) ≡ true → (b == n) ≡ false
numbers_apart n a b less same = let below = ranked a b Less (sym less) in grind (arith, nat_tests)

pub names_apart : (n a b : List ℕ) → text_cmp a b ≡ Less → bytes_eq a n ≡ true → bytes_eq b n ≡ false
names_apart n a b less same =
    let e : a ≡ n = (bytes_eq-Decides a n).0 same in
    nat_list_eq_equiv.symm b n ∙ sym (ap (λ x. bytes_eq x b) e) ∙ sym (is_eq-slice_cmp a b) ∙ ap is_eq less
