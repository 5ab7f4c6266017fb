-- Lists: what holds of each element, or of each two, and which pass a test.
use Rattle.std.proofs.Common.{[], ◌++◌, ◌∙◌, ◌∷◌, ◌≡◌, ◌≤◌, ◌⊎◌, Bool, List, None, Some, ap, arith, false, inl, inr, length, map, refl, subst, sym, true}
use Rattle.farm_sound.proofs.Names.{AllByRecursion, AllByRecursion-weaker, filter, find, found_has, Less, list_all, list_any, Ordering}
use Rattle.std.specs.List.Sorted.{IsStrictlySortedBy}
use Rattle.farm_sound.proofs.Names.{true≢false}
use Rattle.farm_types.specs.Names.{EachTwo, IsAmong}
use Rattle.farm_sound.proofs.Tests.{both, both_false}
use Rattle.farm_sound.proofs.Where.{AllByRecursion-both, AllByRecursion-map, by_cases}

pub all_join : {A : Type 0} (P : A → Type 0) (xs ys : List A) → AllByRecursion P xs → AllByRecursion P ys → AllByRecursion P (xs ++ ys)
all_join P [] ys all more = more
all_join P (x ∷ xs) ys all more = (all.0, all_join P xs ys all.1 more)

pub none_found : {R : Type 0} (test : R → Bool) (rows : List R) → AllByRecursion (λ r. test r ≡ false) rows → find test rows ≡ None
none_found test [] all = refl
none_found test (r ∷ rows) all = rw all.0 (none_found test rows all.1)

pub among_has : {A : Type 0} (P : A → Type 0) (x : A) (xs : List A) → AllByRecursion P xs → IsAmong x xs → P x
among_has P x [] all at = absurd at
among_has P x (y ∷ ys) all (inl same) = subst P (sym same) all.0
among_has P x (y ∷ ys) all (inr at) = among_has P x ys all.1 at

pub all_self : {A : Type 0} (xs : List A) → AllByRecursion (λ x. IsAmong x xs) xs
all_self [] = tt
all_self (x ∷ xs) = (inl refl, AllByRecursion-weaker (λ y at. inr at) xs (all_self xs))

pub among_found : {A : Type 0} (test : A → Bool) (x : A) (xs : List A) → find test xs ≡ Some x → IsAmong x xs
among_found test x xs there = found_has (λ y. IsAmong y xs) test x xs (all_self xs) there

pub among_map : {A B : Type 0} (f : A → B) (x : A) (xs : List A) → IsAmong x xs → IsAmong (f x) (map f xs)
among_map f x [] at = absurd at
among_map f x (y ∷ ys) (inl same) = inl (ap f same)
among_map f x (y ∷ ys) (inr at) = inr (among_map f x ys at)

-- ---- elements that pass a test

pub all_tested : {A : Type 0} (test : A → Bool) (xs : List A) → list_all test xs ≡ true → AllByRecursion (λ x. test x ≡ true) xs
all_tested test [] is = tt
all_tested test (x ∷ xs) is = let two = both (test x) (list_all test xs) is in (two.0, all_tested test xs two.1)

pub filter_all : {A : Type 0} (P : A → Type 0) (test : A → Bool) (xs : List A) → AllByRecursion P xs
    → AllByRecursion (λ x. P x × (test x ≡ true)) (filter test xs)
filter_all P test [] all = tt
filter_all P test (x ∷ xs) all = by_cases (AllByRecursion (λ x. P x × (test x ≡ true))) (test x) (x ∷ filter test xs) (filter test xs)
    (λ is. ((all.0, is), filter_all P test xs all.1)) (λ _. filter_all P test xs all.1)

-- what holds of those that pass
pub filter_back : {A : Type 0} (P : A → Type 0) (test : A → Bool) (xs : List A) → AllByRecursion P (filter test xs)
    → AllByRecursion (λ x. test x ≡ true → P x) xs
filter_back P test [] all = tt
filter_back P test (x ∷ xs) all = grind (arith, filter_back P test xs)

-- none of a list passes
pub none_passes : {A : Type 0} (test : A → Bool) (xs : List A) → list_any test xs ≡ false → AllByRecursion (λ x. test x ≡ false) xs
none_passes test [] is = tt
none_passes test (x ∷ xs) is = let two = both_false (test x) (list_any test xs) is in (two.0, none_passes test xs two.1)

pub none_pass : {R : Type 0} (test : R → Bool) (rows : List R) → AllByRecursion (λ r. test r ≡ false) rows → filter test rows ≡ []
none_pass test [] all = refl
none_pass test (r ∷ rows) all = rw all.0 (none_pass test rows all.1)

-- none passes where none is found
pub all_fail : {A : Type 0} (test : A → Bool) (xs : List A) → find test xs ≡ None → AllByRecursion (λ x. test x ≡ false) xs
all_fail test [] is = tt
all_fail test (x ∷ xs) is = grind (arith, all_fail test xs)

-- one that passes is among none where none is found
pub among_none : {A : Type 0} (test : A → Bool) (x : A) (xs : List A) → IsAmong x xs → test x ≡ true → find test xs ≡ None → ⊥
among_none test x xs at passes none = true≢false (sym passes ∙ among_has (λ y. test y ≡ false) x xs (all_fail test xs none) at)

pub among_filter : {A : Type 0} (test : A → Bool) (x : A) (xs : List A) → IsAmong x xs → test x ≡ true → IsAmong x (filter test xs)
among_filter test x xs at passes = among_has (λ y. test y ≡ true → IsAmong y (filter test xs)) x xs (filter_back (λ y. IsAmong y (filter test xs)) test xs (all_self (filter test xs))) at passes

pub length_filter : {A : Type 0} (test : A → Bool) (xs : List A) → length (filter test xs) ≤ length xs
length_filter test [] = omega arith
length_filter test (x ∷ xs) = by_cases (λ l. length l ≤ length (x ∷ xs)) (test x) (x ∷ filter test xs) (filter test xs)
    (λ _. omega (arith, length_filter test xs)) (λ _. omega (arith, length_filter test xs))

-- ---- each two

pub each_append : {A : Type 0} (R : A → A → Type 0) (xs ys : List A) → EachTwo R xs → EachTwo R ys → AllByRecursion (λ x. AllByRecursion (R x) ys) xs
    → EachTwo R (xs ++ ys)
each_append R [] ys here there across = there
each_append R (x ∷ xs) ys here there across = (all_join (R x) xs ys here.0 across.0, each_append R xs ys here.1 there across.1)

pub each_map : {A B : Type 0} (S : A → A → Type 0) (R : B → B → Type 0) (f : A → B) → ((a b : A) → S a b → R (f a) (f b)) → (xs : List A) → EachTwo S xs
    → EachTwo R (map f xs)
each_map S R f follows [] each = tt
each_map S R f follows (x ∷ xs) each = (AllByRecursion-map (S x) (R (f x)) f (λ y. follows x y) xs each.0, each_map S R f follows xs each.1)

pub each_with : {A : Type 0} (S : A → A → Type 0) (P : A → Type 0) (xs : List A) → EachTwo S xs → AllByRecursion P xs → EachTwo (λ a b. S a b × P a × P b) xs
each_with S P [] each all = tt
each_with S P (x ∷ xs) each all =
    (AllByRecursion-weaker (λ y two. (two.0, all.0, two.1)) xs (AllByRecursion-both (S x) P xs each.0 all.1), each_with S P xs each.1 all.1)

-- of rows in order those that pass are in order
pub each_sorted : {A : Type 0} (cmp : A → A → Ordering) (test : A → Bool) (xs : List A) → IsStrictlySortedBy cmp xs
    → EachTwo (λ a b. cmp a b ≡ Less) (filter test xs)
unfolding IsStrictlySortedBy
each_sorted cmp test [] sorted = tt
each_sorted cmp test (x ∷ xs) sorted = by_cases (EachTwo (λ a b. cmp a b ≡ Less)) (test x) (x ∷ filter test xs) (filter test xs)
    (λ _. (AllByRecursion-weaker (λ y two. two.0) (filter test xs) (filter_all (λ y. cmp x y ≡ Less) test xs sorted.0), each_sorted cmp test xs sorted.1))
    (λ _. each_sorted cmp test xs sorted.1)

pub each_weaker : {A : Type 0} (R S : A → A → Type 0) → ((a b : A) → R a b → S a b) → (xs : List A) → EachTwo R xs → EachTwo S xs
each_weaker R S follows [] each = tt
each_weaker R S follows (x ∷ xs) each = (AllByRecursion-weaker (follows x) xs each.0, each_weaker R S follows xs each.1)

-- of one list or the other, so of both
pub among_append : {A : Type 0} (x : A) (xs ys : List A) → IsAmong x xs ⊎ IsAmong x ys → IsAmong x (xs ++ ys)
among_append x [] ys (inl at) = absurd at
among_append x [] ys (inr at) = at
among_append x (y ∷ xs) ys (inl (inl same)) = inl same
among_append x (y ∷ xs) ys (inl (inr at)) = inr (among_append x xs ys (inl at))
among_append x (y ∷ xs) ys (inr at) = inr (among_append x xs ys (inr at))
