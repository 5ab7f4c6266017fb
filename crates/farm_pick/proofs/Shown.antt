-- The first claim of the queues, as callers see it.
use Rattle.std.proofs.Common.{[], ◌≡◌, ◌∙◌, ◌&&◌, ◌≤◌, ◌+◌, ℕ, List, ◌∷◌, length, map, Bool, true, Option, Some, None, IsSome, is_some, inl, inr, refl, sym, ap}
use Rattle.std.proofs.Common.{arith}
use mathlib.Core.Bool.{true≢false}
use Rattle.farm_pick.proofs.Names.{AllByRecursion, among_has, both, Claim, find, is_eq, is_lt, is_lt-Less, IsTotalOrder, Ordering}
use Rattle.std.specs.List.Sorted.{IsStrictlySortedBy}
use Rattle.std.specs.Option.{option_map}
use Rattle.std.specs.declared.cmp.Ordering.TheVariants.{Less}
use Rattle.farm_types.specs.Names.{EachTwo, IsAmong, put, put_all}
use Rattle.farm_types.proofs.Put.{put_sorted}
use Rattle.farm_pick.specs.Queued.{Queued}
use Rattle.farm_pick.specs.declared.idle.IdleRow.{IdleRow}
use Rattle.farm_pick.specs.Index.{spot_cmp, queued_cmp, kind_at, shown_entry, shown_claims, claim_at, IsKeyed, IsWell}
use Rattle.farm_pick.specs.Heads.{is_later, rank_cmp, rank_of_claim}
use Rattle.farm_pick.specs.declared.spot.Spot.{Spot}
use Rattle.farm_pick.specs.declared.spot.Place.{Place}
use Rattle.farm_pick.proofs.Entries.{all_put, all_among, among_map, entry_found, found_entry}
use Rattle.farm_pick.proofs.Keeping.{queued_total, shown_apart, tie, tied}
use Rattle.farm_pick.proofs.First.{IsFirst, IsRanked, ranked_at, shown_rank}

-- ---- the first of a list in strict order that passes

module _ {R : Type 0} (cmp : R → R → Ordering) (total : IsTotalOrder cmp) (test : R → Bool) where
  pub find_none : (xs : List R) → ((x : R) → IsAmong x xs → test x ≡ true → ⊥) → find test xs ≡ None
  find_none [] none = refl
  find_none (x ∷ xs) none = grind (arith, none x (inl refl), find_none xs (λ y at. none y (inr at)))

  pub find_first : (c : R) (xs : List R) → IsStrictlySortedBy cmp xs → IsAmong c xs → test c ≡ true → ((x : R) → IsAmong x xs → test x ≡ true → cmp x c ≡ Less → ⊥)
      → find test xs ≡ Some c
  unfolding IsStrictlySortedBy
  find_first c [] sorted at is least = absurd at
  find_first c (x ∷ xs) sorted at is least =
      grind (arith, among_has (λ y. cmp x y ≡ Less) c xs sorted.0, least x (inl refl), λ (later : IsAmong c xs). find_first c xs sorted.1 later is (λ y there. least y (inr there)))

  all_sorted : (rows ys : List R) → IsStrictlySortedBy cmp rows → IsStrictlySortedBy cmp (put_all cmp rows ys)
  all_sorted rows [] sorted = sorted
  all_sorted rows (y ∷ ys) sorted = all_sorted (put cmp rows y) ys (put_sorted cmp total y rows sorted)

  pub sorted_put_all : (ys : List R) → IsStrictlySortedBy cmp (put_all cmp [] ys)
  unfolding IsStrictlySortedBy
  sorted_put_all ys = all_sorted [] ys tt

-- whether a claim comes after a spot, and by its own spot
pub rank_of : (last s : Spot) (c : Claim) → IsRanked s c → rank_of_claim last c ≡ rank_cmp last s
rank_of last s c r = rw (r.priority, r.number) refl

module _ (kinds : List (List ℕ)) (es : List (Spot × Claim)) (keyed : AllByRecursion (IsKeyed kinds) es)
    (apart : EachTwo (λ a b. a.1.number ≡ b.1.number → ⊥) es) (last : Spot) (test : ℕ → Bool)
    (opens : Option (List ℕ) → Bool) (same_test : (q : ℕ) → q ≤ length kinds → test q ≡ opens (kind_at kinds q)) where
  abbrev passes : Queued → Bool
  passes x = is_later last x.claim && opens x.kind

  -- an entry of the map that is shown
  abbrev IsEntry : Queued → Type 0
  IsEntry x = (e : Spot × Claim) × IsAmong e es × (shown_entry kinds e ≡ x)

  entries_self : (ds : List (Spot × Claim)) → ((e : Spot × Claim) → IsAmong e ds → IsAmong e es) → AllByRecursion IsEntry (map (shown_entry kinds) ds)
  entries_self [] inside = tt
  entries_self (d ∷ ds) inside = ((d, inside d (inl refl), refl), entries_self ds (λ e at. inside e (inr at)))

  pub entry_of : (x : Queued) → IsAmong x (shown_claims kinds es) → IsEntry x
  entry_of x at = among_has IsEntry x (shown_claims kinds es) (all_put queued_cmp queued_total IsEntry (map (shown_entry kinds) es) [] tt (entries_self es (λ e at. at))) at

  pub shown_at : (e : Spot × Claim) → IsAmong e es → IsAmong (shown_entry kinds e) (shown_claims kinds es)
  shown_at e at = among_has (λ x. IsAmong x (shown_claims kinds es)) (shown_entry kinds e) (map (shown_entry kinds) es)
      (all_among queued_cmp queued_total (map (shown_entry kinds) es) (shown_apart kinds es apart)) (among_map (shown_entry kinds) e es at)

  keyed_at : (e : Spot × Claim) → IsAmong e es → IsKeyed kinds e
  keyed_at e at = among_has (IsKeyed kinds) e es keyed at

  -- what the test says of an entry
  tests : (e : Spot × Claim) → IsAmong e es → passes (shown_entry kinds e) ≡ true → (rank_cmp last e.0 ≡ Less) × (test e.0.queue ≡ true)
  tests e at is =
      let two = both (is_later last e.1) (opens (kind_at kinds e.0.queue)) is in
      let key = keyed_at e at in
      (sym (rank_of last e.0 e.1 (record { number = key.number; priority = key.priority })) ∙ is_lt-Less (rank_of_claim last e.1) two.0, same_test e.0.queue key.queue ∙ two.1)

  pub IsSome-at : (e : Spot × Claim) → IsAmong e es → IsSome (claim_at es e.0)
  IsSome-at e at = entry_found (λ x. is_eq (spot_cmp e.0 x)) e es at (tie e.0 e.0 (record { queue = refl; priority = refl; number = refl }))

  pub first_shown : (o : Option Claim) → IsFirst es test (length kinds + 1) last o → o ≡ option_map (λ (x : Queued). x.claim) (find passes (shown_claims kinds es))
  first_shown None first =
      sym (ap (option_map (λ (x : Queued). x.claim)) (find_none queued_cmp queued_total passes (shown_claims kinds es) none))
    where
      none : (x : Queued) → IsAmong x (shown_claims kinds es) → passes x ≡ true → ⊥
      none x at is =
          let e = entry_of x at in
          let t = tests e.0 e.1 (ap passes e.2 ∙ is) in
          true≢false (sym (IsSome-at e.0 e.1) ∙ ap is_some (first e.0.0 (let low = (keyed_at e.0 e.1).queue in omega arith) t.1 t.0))
  first_shown (Some c) first =
      sym (ap (option_map (λ (x : Queued). x.claim)) (find_first queued_cmp queued_total passes (shown_entry kinds e.0) (shown_claims kinds es)
      (sorted_put_all queued_cmp queued_total passes (map (shown_entry kinds) es)) (shown_at e.0 e.4) passes_here least) ∙ ap Some e.3)
    where
      e : (d : Spot × Claim) × IsKeyed kinds d × (is_eq (spot_cmp first.0 d.0) ≡ true) × (d.1 ≡ c) × IsAmong d es
      e = found_entry (IsKeyed kinds) (λ x. is_eq (spot_cmp first.0 x)) c es keyed first.4

      ranked : IsRanked first.0 e.0.1
      ranked = let r = ranked_at kinds es first.0 c keyed first.4 in
          record { number = r.number ∙ ap (λ (d : Claim). d.number) (sym e.3); priority = r.priority ∙ ap (λ (d : Claim). d.priority) (sym e.3) }

      passes_here : passes (shown_entry kinds e.0) ≡ true
      passes_here =
          ap (λ v. v && opens (kind_at kinds e.0.0.queue)) (ap is_lt (rank_of last first.0 e.0.1 ranked ∙ first.3))
          ∙ (sym (same_test e.0.0.queue e.1.queue) ∙ ap test (sym (tied first.0 e.0.0 e.2).queue) ∙ first.2)

      least : (x : Queued) → IsAmong x (shown_claims kinds es) → passes x ≡ true → queued_cmp x (shown_entry kinds e.0) ≡ Less → ⊥
      least x at is less =
          let d = entry_of x at in
          let key = keyed_at d.0 d.1 in
          let t = tests d.0 d.1 (ap passes d.2 ∙ is) in
          first.5 d.0.0 (let low = key.queue in omega arith) t.1 t.0 (IsSome-at d.0 d.1)
          (sym (shown_rank d.0.0 first.0 d.0.1 e.0.1 (record { number = key.number; priority = key.priority }) ranked)
          ∙ ap (λ (y : Queued). queued_cmp y (shown_entry kinds e.0)) d.2 ∙ less)

pub well_new : (ks : List (List ℕ)) (es : List (Spot × Claim)) (ps : List (ℕ × Place)) (rows : List IdleRow) → ks ≡ [] → es ≡ [] → ps ≡ [] → rows ≡ [] → IsWell ks es ps rows
unfolding IsStrictlySortedBy
well_new ks es ps rows no_ks no_es no_ps no_rows = grind arith
