-- The spots of the claims of two boards or more, and the first of these claims as callers see it.
use Rattle.std.proofs.Common.{◌&&◌, ◌||◌, ◌∙◌, ◌∷◌, ◌≡◌, ◌≤◌, Bool, List, None, Option, Some, ap, arith, cond, false, is_some, map, nat_le, not, refl, subst}
use Rattle.std.proofs.Common.{sym, true, ℕ}
use mathlib.Core.Bool.{true≢false}
use Rattle.std.specs.BTreeSet.{BTreeSet, IsKeyRangeOf}
use Rattle.farm_pick.proofs.Names.{AllByRecursion, among_has, both, Claim, find, is_eq, is_lt, is_lt-Less, nat_tests, option_map_or}
use Rattle.std.specs.Option.{option_map}
use Rattle.std.specs.declared.cmp.Ordering.TheVariants.{Less}
use Rattle.std.specs.declared.ops.Bound.TheVariants.{Excluded, Unbounded}
use Rattle.farm_types.specs.Names.{EachTwo, IsAmong}
use Rattle.farm_pick.specs.Heads.{is_later, rank_cmp, rank_of_claim}
use Rattle.farm_pick.specs.Index.{IsKeyed, IsWell, claim_at, queued_cmp, shown_claims, shown_entry, shown_idle, spot_cmp}
use Rattle.farm_pick.specs.Queued.{QueueLists, Queued}
use Rattle.farm_pick.specs.Several.{IsFirstSeveral, IsNextSpot, is_several, ranked_cmp}
use Rattle.farm_pick.specs.declared.idle.IdleRow.{IdleRow}
use Rattle.farm_pick.specs.declared.index.Rank.{Rank}
use Rattle.farm_pick.specs.declared.spot.Place.{Place}
use Rattle.farm_pick.specs.declared.spot.Spot.{Spot}
use Rattle.farm_pick.proofs.Entries.{found_entry}
use Rattle.farm_pick.proofs.First.{IsRanked, one_entry, ranked_at, shown_rank}
use Rattle.farm_pick.proofs.Keeping.{queued_total}
use Rattle.farm_pick.proofs.Shown.{IsSome-at, entry_of, find_first, find_none, rank_of, shown_at, sorted_put_all}

-- ---- the set of spots

pub next_some : (s : BTreeSet Rank) (last : Spot) (k : Rank) (found more : List Rank)
    → IsKeyRangeOf ranked_cmp (Excluded (record { spot = last })) Unbounded s found → found ≡ k ∷ more → IsNextSpot s.keys last (Some k.spot)
next_some s last k found more range is =
    let from = subst (IsKeyRangeOf ranked_cmp (Excluded (record { spot = last })) Unbounded s) is range in
    (from.1.0.0, from.1.1, λ t less has. from.2 (record { spot = t }) (less, tt) has)

pub noted : (v w : Bool) (n : ℕ) → 2 ≤ n → cond v true w ≡ (w || (nat_le 2 n && v))
noted v w n low = grind (arith, nat_tests)

pub forgotten : (v w : Bool) → cond v false w ≡ (not v && w)
forgotten v w = grind arith

-- ---- what is shown

module _ (kinds : List (List ℕ)) (es : List (Spot × Claim)) (keyed : AllByRecursion (IsKeyed kinds) es)
    (apart : EachTwo (λ a b. a.1.number ≡ b.1.number → ⊥) es) (last : Spot) where
  abbrev passes : Queued → Bool
  passes x = is_later last x.claim && nat_le 2 x.claim.boards

  -- an entry that is shown, and whether it is shown
  entry : (x : Queued) → IsAmong x (shown_claims kinds es) → (e : Spot × Claim) × IsAmong e es × (shown_entry kinds e ≡ x)
  entry = entry_of kinds es keyed apart last (λ _. true) (λ _. true) (λ _ _. refl)

  ranked : (e : Spot × Claim) → IsAmong e es → IsRanked e.0 e.1
  ranked e at = let key = among_has (IsKeyed kinds) e es keyed at in record { number = key.number; priority = key.priority }

  -- each claim is found at its spot
  own_claim : (e : Spot × Claim) → IsAmong e es → claim_at es e.0 ≡ Some e.1
  own_claim e at = by (claim_at es e.0) refl
    where
      by : (o : Option Claim) → claim_at es e.0 ≡ o → o ≡ Some e.1
      by None is = absurd (true≢false (sym (IsSome-at kinds es keyed apart last (λ _. true) (λ _. true) (λ _ _. refl) e at) ∙ ap is_some is))
      by (Some c) is =
          let d = found_entry (IsKeyed kinds) (λ x. is_eq (spot_cmp e.0 x)) c es keyed is in
          let same : d.0.1.number ≡ e.1.number =
          ap (λ (k : Claim). k.number) d.3 ∙ sym (ranked_at kinds es e.0 c keyed is).number ∙ (ranked e at).number in
          ap Some (sym d.3 ∙ ap (λ (k : Spot × Claim). k.1) (one_entry es apart d.0 e d.4 at same))

  -- what the test says of an entry
  tests : (e : Spot × Claim) → IsAmong e es → passes (shown_entry kinds e) ≡ true → (rank_cmp last e.0 ≡ Less) × (is_several es e.0 ≡ true)
  tests e at is =
      let two = both (is_later last e.1) (nat_le 2 e.1.boards) is in (
        sym (rank_of last e.0 e.1 (ranked e at)) ∙ is_lt-Less (rank_of_claim last e.1) two.0,
        ap (λ o. option_map_or (λ (c : Claim). nat_le 2 c.boards) o false) (own_claim e at) ∙ two.1,
      )

  several_shown : (o : Option Claim) → IsFirstSeveral es last o → o ≡ option_map (λ (x : Queued). x.claim) (find passes (shown_claims kinds es))
  several_shown None first =
      sym (ap (option_map (λ (x : Queued). x.claim)) (find_none queued_cmp queued_total passes (shown_claims kinds es) none))
    where
      none : (x : Queued) → IsAmong x (shown_claims kinds es) → passes x ≡ true → ⊥
      none x at is =
          let e = entry x at in
          let t = tests e.0 e.1 (ap passes e.2 ∙ is) in
          true≢false (sym t.1 ∙ first e.0.0 t.0)
  several_shown (Some c) first =
      sym (ap (option_map (λ (x : Queued). x.claim)) (find_first queued_cmp queued_total passes (shown_entry kinds e.0) (shown_claims kinds es)
      (sorted_put_all queued_cmp queued_total passes (map (shown_entry kinds) es))
      (shown_at kinds es keyed apart last (λ _. true) (λ _. true) (λ _ _. refl) e.0 e.4) passes_here least) ∙ ap Some e.3)
    where
      e : (d : Spot × Claim) × IsKeyed kinds d × (is_eq (spot_cmp first.0 d.0) ≡ true) × (d.1 ≡ c) × IsAmong d es
      e = found_entry (IsKeyed kinds) (λ x. is_eq (spot_cmp first.0 x)) c es keyed first.2

      stands : IsRanked first.0 e.0.1
      stands = subst (IsRanked first.0) (sym e.3) (ranked_at kinds es first.0 c keyed first.2)

      passes_here : passes (shown_entry kinds e.0) ≡ true
      passes_here = λ i. (ap is_lt (rank_of last first.0 e.0.1 stands) ∙ ap is_lt first.1) i && (ap (λ (d : Claim). nat_le 2 d.boards) e.3 ∙ first.3) i

      least : (x : Queued) → IsAmong x (shown_claims kinds es) → passes x ≡ true → queued_cmp x (shown_entry kinds e.0) ≡ Less → ⊥
      least x at is less =
          let d = entry x at in
          let t = tests d.0 d.1 (ap passes d.2 ∙ is) in
          first.4 d.0.0 t.0 t.1
          (sym (shown_rank d.0.0 first.0 d.0.1 e.0.1 (ranked d.0 d.1) stands)
          ∙ ap (λ (y : Queued). queued_cmp y (shown_entry kinds e.0)) d.2 ∙ less)

-- what a call of `first` finds, as callers see it
pub several_seen : (kinds : List (List ℕ)) (es : List (Spot × Claim)) (ps : List (ℕ × Place)) (rows : List IdleRow) → IsWell kinds es ps rows → (seen : QueueLists)
    → record { claims = shown_claims kinds es; boards = map (shown_idle kinds) rows } ≡ seen → (r last : Spot) → r ≡ last → (o : Option Claim) → IsFirstSeveral es r o
    → o ≡ option_map (λ (x : Queued). x.claim) (find (λ x. is_later last x.claim && nat_le 2 x.claim.boards) seen.claims)
several_seen kinds es ps rows well seen view r last is o first =
    several_shown kinds es well.queues.keyed well.queues.apart last o (subst (λ l. IsFirstSeveral es l o) is first)
    ∙ ap (λ (l : QueueLists). option_map (λ (x : Queued). x.claim) (find (λ x. is_later last x.claim && nat_le 2 x.claim.boards) l.claims)) view
