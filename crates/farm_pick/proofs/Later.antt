-- The claims that come after the one tried last, and the next that is tried.
use Rattle.std.proofs.Common.{[], ◌&&◌, ◌<◌, ◌∙◌, ◌∷◌, ◌≡◌, Bool, List, None, Option, Some, ap, arith, false, length, refl, true}
use Rattle.farm_pick.proofs.Names.{AllByRecursion, AllByRecursion-weaker, claim_total, find, fold, found_has, is_lt, is_lt-Less}
use Rattle.std.specs.List.Sorted.{IsStrictlySortedBy}
use Rattle.farm_pick.proofs.Names.{ordering_reverse}
use Rattle.std.specs.List.{filter}
use Rattle.std.proofs.lemmas.Cmp.{tied_itself}
use Rattle.std.specs.declared.cmp.Ordering.TheVariants.{Less}
use Rattle.farm_types.specs.Names.{claim_cmp, Claimed, IsAmong}
use Rattle.farm_pick.specs.Merged.{comes_after}
use Rattle.farm_pick.proofs.Entries.{all_pass}

-- the claims after a place
abbrev pub later : Option Claimed → List Claimed → List Claimed
later last xs = filter (comes_after last) xs

pub among_later : (test : Claimed → Bool) (d : Claimed) (xs : List Claimed) → IsAmong d xs → test d ≡ true → IsAmong d (filter test xs)
among_later test d [] at is = at
among_later test d (x ∷ xs) at is = grind (arith, among_later test d xs)

-- ---- the order

pub less_from : (a b : Claimed) → is_lt (claim_cmp a b) ≡ true → claim_cmp a b ≡ Less
less_from a b is = is_lt-Less (claim_cmp a b) is

-- one that is below another isn't after it
pub not_back : (a b : Claimed) → claim_cmp a b ≡ Less → is_lt (claim_cmp b a) ≡ false
not_back a b less = ap is_lt (claim_total.antisymm b a ∙ ap ordering_reverse less)

pub after_itself : (a : Claimed) → is_lt (claim_cmp a a) ≡ false
after_itself a = ap is_lt (tied_itself claim_total a)

-- what comes after one that comes after the last one does so too
pub after_more : (last : Option Claimed) (x y : Claimed) → comes_after last x ≡ true → claim_cmp x y ≡ Less → comes_after last y ≡ true
after_more None x y is less = refl
after_more (Some l) x y is less = ap is_lt (claim_total.trans l x y (less_from l x is) less)

all_after : (last : Option Claimed) (x : Claimed) (xs : List Claimed) → comes_after last x ≡ true → AllByRecursion (λ y. claim_cmp x y ≡ Less) xs → later last xs ≡ xs
all_after last x xs is above = all_pass (comes_after last) xs (AllByRecursion-weaker (λ y less. after_more last x y is less) xs above)

all_above : (x : Claimed) (xs : List Claimed) → AllByRecursion (λ y. claim_cmp x y ≡ Less) xs → later (Some x) xs ≡ xs
all_above x xs above = all_pass (comes_after (Some x)) xs (AllByRecursion-weaker (λ y less. ap is_lt less) xs above)

pub later_none : (xs : List Claimed) → later None xs ≡ xs
later_none [] = refl
later_none (x ∷ xs) = ap (λ rest. x ∷ rest) (later_none xs)

-- the one that is found among those above x doesn't come before it
found_above : (test : Claimed → Bool) (x c : Claimed) (xs : List Claimed) → AllByRecursion (λ y. claim_cmp x y ≡ Less) xs → find test xs ≡ Some c
    → is_lt (claim_cmp c x) ≡ false
found_above test x c xs above found = not_back x c (found_has (λ y. claim_cmp x y ≡ Less) test c xs above found)

-- ---- the claims from the last one on

module _ {S : Type 0} (serve : S → Claimed → S) (s : S) (opens : Claimed → Bool) (last : Option Claimed) where
  -- the next claim leads on, and fewer are left behind it
  pub record Continues (c : Claimed) (xs : List Claimed) : Type 0 where
    pub folds : fold serve s (later last xs) ≡ fold serve (serve s c) (later (Some c) xs)
    pub fewer : length (later (Some c) xs) < length (later last xs)

  abbrev Skips : List Claimed → Type 0
  Skips xs = AllByRecursion (λ d. opens d ≡ false → serve s d ≡ s) xs

  -- a claim at the head
  tried_here : (x : Claimed) (xs : List Claimed) → AllByRecursion (λ y. claim_cmp x y ≡ Less) xs → comes_after last x ≡ true → Continues x (x ∷ xs)
  tried_here x xs above is = record {
    folds = rw (is, all_after last x xs is above, after_itself x, all_above x xs above) refl;
    fewer = rw (is, all_after last x xs is above, after_itself x, all_above x xs above) (omega arith);
  }

  pub leads_on : (c : Claimed) (xs : List Claimed) → IsStrictlySortedBy claim_cmp xs → Skips xs
      → find (λ d. comes_after last d && opens d) xs ≡ Some c → Continues c xs
  unfolding IsStrictlySortedBy
  leads_on c [] sorted skips found = cc
  leads_on c (x ∷ xs) sorted skips found = grind (arith, leads_on c xs sorted.1 skips.1, found_above (λ d. comes_after last d && opens d) x c xs sorted.0, tried_here x xs sorted.0, skips.0)

  -- where none is tried, all that are left are skipped
  pub leads_nowhere : (xs : List Claimed) → Skips xs → find (λ d. comes_after last d && opens d) xs ≡ None → fold serve s (later last xs) ≡ s
  leads_nowhere [] skips none = refl
  leads_nowhere (x ∷ xs) skips none = grind (arith, leads_nowhere xs skips.1, skips.0)
