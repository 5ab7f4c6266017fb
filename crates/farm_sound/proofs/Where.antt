-- Rows that are changed where they pass a test.
use native.Mathlib.Omega.{arith}
use Rattle.std.proofs.Common.{[], ◌∙◌, ◌∷◌, ◌≡◌, Bool, List, Some, ap, cond, false, length, map, refl, true}
use Rattle.farm_sound.proofs.Names.{AllByRecursion, filter, find, found_passes, length-map, Less, option_map, Ordering}
use Rattle.std.specs.List.Sorted.{IsStrictlySortedBy}
use Rattle.farm_types.specs.Names.{change_where}

-- each row is the changed one or itself
pub by_cases : {R : Type 0} (P : R → Type 0) (v : Bool) (x y : R) → (v ≡ true → P x) → (v ≡ false → P y) → P (cond v x y)
by_cases P true x y so other = so refl
by_cases P false x y so other = other refl

-- a row after the change, and what it keeps
abbrev pub changed : {R : Type 0} → (R → Bool) → (R → R) → R → R
changed test f r = cond (test r) (f r) r

pub changed_keeps : {R A : Type 0} (key : R → A) (test : R → Bool) (f : R → R) → ((r : R) → key (f r) ≡ key r) → (r : R) → key (changed test f r) ≡ key r
changed_keeps key test f same r = by_cases (λ s. key s ≡ key r) (test r) (f r) r (λ _. same r) (λ _. refl)

pub all_changed : {R : Type 0} (Q : R → Type 0) (test : R → Bool) (f : R → R) (rows : List R) → AllByRecursion (λ r. test r ≡ true → Q (f r)) rows
    → AllByRecursion Q rows → AllByRecursion Q (map (changed test f) rows)
all_changed Q test f [] so old = tt
all_changed Q test f (r ∷ rows) so old = (by_cases Q (test r) (f r) r so.0 (λ _. old.0), all_changed Q test f rows so.1 old.1)

-- what holds in both cases of a test
pub either : {P : Type 0} (v : Bool) → (v ≡ true → P) → (v ≡ false → P) → P
either true so other = so refl
either false so other = other refl

-- what holds of each row after the change
pub AllByRecursion-map : {R S : Type 0} (P : R → Type 0) (Q : S → Type 0) (f : R → S) → ((r : R) → P r → Q (f r)) → (rows : List R)
    → AllByRecursion P rows → AllByRecursion Q (map f rows)
AllByRecursion-map P Q f each [] all = tt
AllByRecursion-map P Q f each (r ∷ rows) all = (each r all.0, AllByRecursion-map P Q f each rows all.1)

pub AllByRecursion-both : {R : Type 0} (P Q : R → Type 0) (rows : List R) → AllByRecursion P rows → AllByRecursion Q rows → AllByRecursion (λ r. P r × Q r) rows
AllByRecursion-both P Q [] p q = tt
AllByRecursion-both P Q (r ∷ rows) p q = ((p.0, q.0), AllByRecursion-both P Q rows p.1 q.1)

-- a row is found by a key that stays
pub find_map : {R : Type 0} (test : R → Bool) (f : R → R) → ((r : R) → test (f r) ≡ test r) → (rows : List R)
    → find test (map f rows) ≡ option_map f (find test rows)
find_map test f same [] = refl
find_map test f same (r ∷ rows) = grind (arith, find_map test f same rows)

-- a row is found as before, and changed
pub find_where : {R : Type 0} (p test : R → Bool) (f : R → R) → ((r : R) → p (f r) ≡ p r) → (rows : List R)
    → find p (change_where test f rows) ≡ option_map (changed test f) (find p rows)
find_where p test f same rows = find_map p (changed test f) (changed_keeps p test f same) rows

-- and as before where it isn't one of those that change
pub find_untouched : {R : Type 0} (p test : R → Bool) (f : R → R) → ((r : R) → p (f r) ≡ p r) → ((r : R) → p r ≡ true → test r ≡ false) → (rows : List R)
    → find p (change_where test f rows) ≡ find p rows
find_untouched {R = R} p test f same apart rows = grind (arith, find_where p test f same rows, found_passes p)

pub find_touched : {R : Type 0} (p test : R → Bool) (f : R → R) → ((r : R) → p (f r) ≡ p r) → (r : R) (rows : List R) → find p rows ≡ Some r → test r ≡ true
    → find p (change_where test f rows) ≡ Some (f r)
find_touched p test f same r rows there so =
    find_where p test f same rows ∙ ap (option_map (changed test f)) there ∙ ap (λ v. Some (cond v (f r) r)) so

-- the same rows pass a test by what stays, so as many
pub filter_same : {R : Type 0} (test : R → Bool) (f : R → R) → ((r : R) → test (f r) ≡ test r) → (rows : List R)
    → filter test (map f rows) ≡ map f (filter test rows)
filter_same test f same [] = refl
filter_same test f same (r ∷ rows) = grind (arith, filter_same test f same rows)

pub count_map : {R : Type 0} (test : R → Bool) (f : R → R) → ((r : R) → test (f r) ≡ test r) → (rows : List R)
    → length (filter test (map f rows)) ≡ length (filter test rows)
count_map test f same rows = ap length (filter_same test f same rows) ∙ length-map (filter test rows) f

-- rows in order of what stays are in order
pub sorted_map : {R : Type 0} (cmp : R → R → Ordering) (f : R → R) → ((a b : R) → cmp (f a) (f b) ≡ cmp a b) → (rows : List R)
    → IsStrictlySortedBy cmp rows → IsStrictlySortedBy cmp (map f rows)
unfolding IsStrictlySortedBy
sorted_map cmp f same [] sorted = tt
sorted_map cmp f same (r ∷ rows) sorted =
    (AllByRecursion-map (λ y. cmp r y ≡ Less) (λ y. cmp (f r) y ≡ Less) f (λ y less. same r y ∙ less) rows sorted.0, sorted_map cmp f same rows sorted.1)

pub map_id : {R : Type 0} (rows : List R) → map (λ r. r) rows ≡ rows
map_id [] = refl
map_id (r ∷ rows) = ap (λ rest. r ∷ rest) (map_id rows)

pub all_true : {R : Type 0} (rows : List R) → AllByRecursion (λ r. Unit {0}) rows
all_true [] = tt
all_true (r ∷ rows) = (tt, all_true rows)
