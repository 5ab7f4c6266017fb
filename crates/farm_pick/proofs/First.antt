-- The first claim of several queues.
use Rattle.std.proofs.Common.{◌≡◌, ◌∙◌, ◌<◌, ◌+◌, ◌⊎◌, ℕ, List, [], ◌∷◌, Bool, true, false, Option, Some, None, IsSome, refl, sym, ap, arith}
use mathlib.Core.Bool.{true≢false}
use Rattle.farm_pick.proofs.Names.{AllByRecursion, among_has, Claim, is_eq, is_gt, IsTotalOrder, nat_cmp, nat_cmp_total, on_total, Ordering, ordering_reverse}
use Rattle.farm_pick.proofs.Names.{ordering_then, then_total}
use Rattle.std.specs.Cmp.{back_total}
use Rattle.std.specs.declared.cmp.Ordering.TheVariants.{Less}
use Rattle.std.proofs.lemmas.Cmp.{tied_itself}
use Rattle.farm_types.specs.Names.{EachTwo, IsAmong, shown_cmp}
use Rattle.farm_pick.specs.Index.{spot_cmp, claim_at, IsKeyed}
use Rattle.farm_pick.specs.Heads.{IsFirstBehind, rank_cmp}
use Rattle.farm_pick.specs.declared.spot.Spot.{Spot}
use Rattle.farm_pick.proofs.Entries.{found_entry}
use Rattle.farm_pick.proofs.Keeping.{tied}

-- of the first n queues those that pass: the first of their claims that come after a spot
abbrev pub IsFirst : List (Spot × Claim) → (ℕ → Bool) → ℕ → Spot → Option Claim → Type 0
IsFirst es test n last None = (t : Spot) → t.queue < n → test t.queue ≡ true
    → rank_cmp last t ≡ Less → claim_at es t ≡ None
IsFirst es test n last (Some c) =
    (s : Spot) × (s.queue < n) × (test s.queue ≡ true) × (rank_cmp last s ≡ Less)
    × (claim_at es s ≡ Some c)
    × ((t : Spot) → t.queue < n → test t.queue ≡ true → rank_cmp last t ≡ Less
    → IsSome (claim_at es t) → rank_cmp t s ≡ Less → ⊥)

pub rank_total : IsTotalOrder rank_cmp
rank_total = then_total (on_total (λ (s : Spot). s.priority) (back_total nat_cmp_total)) (on_total (λ (s : Spot). s.number) nat_cmp_total)

-- in one queue
pub same_queue : (s t : Spot) → s.queue ≡ t.queue → spot_cmp s t ≡ rank_cmp s t
same_queue s t is = ap (λ o. ordering_then o (rank_cmp s t)) (ap (nat_cmp s.queue) (sym is) ∙ tied_itself nat_cmp_total s.queue)

-- two entries of one number are one
pub one_entry : (es : List (Spot × Claim)) → EachTwo (λ a b. a.1.number ≡ b.1.number → ⊥) es → (a b : Spot × Claim) → IsAmong a es → IsAmong b es → a.1.number ≡ b.1.number → a ≡ b
one_entry [] each a b here there same = absurd here
one_entry (e ∷ es) each a b here there same = grind (
  arith,
  one_entry es each.1 a b,
  among_has (λ (d : Spot × Claim). e.1.number ≡ d.1.number → ⊥) a es each.0,
  among_has (λ (d : Spot × Claim). e.1.number ≡ d.1.number → ⊥) b es each.0,
)

pub record IsRanked (s : Spot) (c : Claim) : Type 0 where
  pub number : s.number ≡ c.number
  pub priority : s.priority ≡ c.priority

pub ranked_at : (kinds : List (List ℕ)) (es : List (Spot × Claim)) (s : Spot) (c : Claim) → AllByRecursion (IsKeyed kinds) es → claim_at es s ≡ Some c → IsRanked s c
ranked_at kinds es s c keyed is =
    let e = found_entry (IsKeyed kinds) (λ x. is_eq (spot_cmp s x)) c es keyed is in
    let t = tied s e.0.0 e.2 in
    record { number = t.number ∙ e.1.number ∙ ap (λ (d : Claim). d.number) e.3; priority = t.priority ∙ e.1.priority ∙ ap (λ (d : Claim). d.priority) e.3 }

pub shown_rank : (s t : Spot) (c d : Claim) → IsRanked s c → IsRanked t d → shown_cmp c d ≡ rank_cmp s t
shown_rank s t c d one other = rw (one.number, one.priority, other.number, other.priority) refl

pub below : (n q : ℕ) → q < n + 1 → (q < n) ⊎ (q ≡ n)
below n q low = grind arith

flip : (s t : Spot) (o : Ordering) → rank_cmp s t ≡ o → rank_cmp t s ≡ ordering_reverse o
flip s t o is = rank_total.antisymm t s ∙ ap ordering_reverse is

module _ (kinds : List (List ℕ)) (es : List (Spot × Claim)) (keyed : AllByRecursion (IsKeyed kinds) es) (test : ℕ → Bool) (last : Spot) (n : ℕ) where
  abbrev here : Spot
  here = record { queue = n; priority = last.priority; number = last.number }

  -- what comes after the last one in this queue
  comes_here : (t : Spot) → t.queue ≡ n → rank_cmp last t ≡ Less → spot_cmp here t ≡ Less
  comes_here t same less = same_queue here t (sym same) ∙ less

  least_here : (s t : Spot) → s.queue ≡ n → t.queue ≡ n → is_gt (spot_cmp s t) ≡ false → rank_cmp t s ≡ Less → ⊥
  least_here s t one other least less = true≢false (sym (ap is_gt (same_queue s t (one ∙ sym other) ∙ flip t s Less less)) ∙ least)

  -- the head of one queue, where no other passes
  module _ (m : ℕ) (low : n < m) (alone : (q : ℕ) → test q ≡ true → q ≡ n) where
    pub first_alone : (h : Option Claim) → test n ≡ true → IsFirstBehind es here h → IsFirst es test m last h
    first_alone None open_here g = λ t below is after. g t (alone t.queue is) (comes_here t (alone t.queue is) after)
    first_alone (Some b) open_here g = (
      g.0,
      (let e = g.1 in omega (arith, e)),
      ap test g.1 ∙ open_here,
      sym (same_queue here g.0 (sym g.1)) ∙ g.2,
      g.3,
      λ t below is after some less. least_here g.0 t g.1 (alone t.queue is) (g.4 t (alone t.queue is) (comes_here t (alone t.queue is) after) some) less,
    )

    pub none_alone : test n ≡ false → IsFirst es test m last None
    none_alone closed = λ t below is after. absurd (true≢false (sym is ∙ ap test (alone t.queue is) ∙ closed))
