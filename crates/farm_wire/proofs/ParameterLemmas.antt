-- The first segment behind the front of a path.
use Rattle.std.proofs.Common.{◌≡◌, ℕ, List, [], ◌∷◌, ◌++◌, take, Bool, true, false, cond, not, refl, ap, ◌∙◌, ◌==◌, nat_eq, ◌+◌, suc, arith}
use Rattle.std.proofs.Math.Seq.{drop-append_seam}
use Rattle.std.specs.List.{before_first, prefix_len}
use Rattle.matchit.specs.Seek.{has_slash}
use Rattle.farm_wire.specs.Parameters.{parameter}

one_more : (n : ℕ) → 1 + n ≡ suc n
one_more n = omega arith

before_slash : (s back : List ℕ) → has_slash s ≡ false → before_first (λ b. b == 47) (s ++ (47 ∷ back)) ≡ s
before_slash [] back none = refl
before_slash (b ∷ s) back none = by (nat_eq b 47) (before_slash s back) none
  where
    by : (t : Bool) → (has_slash s ≡ false → take (prefix_len (λ b. not (b == 47)) (s ++ (47 ∷ back))) (s ++ (47 ∷ back)) ≡ s) → cond t true (has_slash s) ≡ false
        → take (cond (not t) (1 + prefix_len (λ b. not (b == 47)) (s ++ (47 ∷ back))) 0) (b ∷ (s ++ (47 ∷ back))) ≡ b ∷ s
    by true more none = cc
    by false more none = rw (one_more (prefix_len (λ b. not (b == 47)) (s ++ (47 ∷ back)))) (ap (λ l. b ∷ l) (more none))

before_none : (s : List ℕ) → has_slash s ≡ false → before_first (λ b. b == 47) s ≡ s
before_none [] none = refl
before_none (b ∷ s) none = by (nat_eq b 47) (before_none s) none
  where
    by : (t : Bool) → (has_slash s ≡ false → take (prefix_len (λ b. not (b == 47)) s) s ≡ s) → cond t true (has_slash s) ≡ false
        → take (cond (not t) (1 + prefix_len (λ b. not (b == 47)) s) 0) (b ∷ s) ≡ b ∷ s
    by true more none = cc
    by false more none = rw (one_more (prefix_len (λ b. not (b == 47)) s)) (ap (λ l. b ∷ l) (more none))

pub middle_parameter : (front s back : List ℕ) → has_slash s ≡ false → parameter front (front ++ (s ++ (47 ∷ back))) ≡ s
middle_parameter front s back none = ap (before_first (λ b. b == 47)) (drop-append_seam front (s ++ (47 ∷ back))) ∙ before_slash s back none

pub last_parameter : (front s : List ℕ) → has_slash s ≡ false → parameter front (front ++ s) ≡ s
last_parameter front s none = ap (before_first (λ b. b == 47)) (drop-append_seam front s) ∙ before_none s none
