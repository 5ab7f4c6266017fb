-- A walk over several queues lends the claims in the order of the whole queue.
use Rattle.std.proofs.Common.{[], ◌≡◌, ◌∙◌, ◌&&◌, ◌<◌, ◌≤◌, ◌+◌, ◌++◌, ◌==◌, ◌⊎◌, ℕ, zero, suc, List, ◌∷◌, length, map, get_or, slice_set, Bool, true, false}
use Rattle.std.proofs.Common.{cond, Option, Some, None, IsSome, is_some, inl, inr, refl, sym, ap, subst, arith}
use mathlib.Core.Bool.{true≢false}
use Rattle.farm_pick.proofs.Names.{all_true, AllByRecursion, among_has, both, Claim, false_from_ne_true, find, found_passes, get_or_default, is_eq, is_gt}
use Rattle.farm_pick.proofs.Names.{is_lt, is_lt-Less, IsTotalOrder, itself, length-set, nat_cmp, nat_cmp_total, nat_tests, on_total}
use Rattle.std.specs.List.Sorted.{IsStrictlySortedBy}
use Rattle.farm_pick.proofs.Names.{Ordering, ordering_reverse, ordering_then, same_number, same_Some, then_total}
use Rattle.std.specs.List.{filter}
use Rattle.std.specs.Option.{option_map}
use Rattle.std.specs.declared.cmp.Ordering.TheVariants.{Equal, Greater, Less}
use Rattle.std.proofs.lemmas.Cmp.{tied_itself}
use Rattle.std.proofs.lemmas.Option.{none-some}
use Rattle.std.proofs.lemmas.List.{get_or-set_same, get_or-set_other, get_or_append_left, get_or_push, length-append}
use Rattle.farm_types.specs.Names.{EachTwo, IsAmong, shown_cmp}
use Rattle.farm_sound.proofs.Clear.{none_of}
use Rattle.farm_pick.proofs.Apart.{same_open}
use Rattle.farm_pick.specs.Heads.{AreHeads, is_later, queue_open, rank_cmp, rank_of_claim}
use Rattle.farm_pick.specs.Index.{IsKeyed, claim_at, queued_cmp, shown_claims, shown_entry, shown_idle, spot_cmp}
use Rattle.farm_pick.specs.Queued.{Queued, is_open}
use Rattle.farm_pick.specs.declared.idle.IdleRow.{IdleRow}
use Rattle.farm_pick.specs.Walked.{AreCursors, IsCursorAt, IsCursor, IsLeastOf, IsWalk, StandsIn, StepsTo, entries_behind, earlier_place, walk_from}
use Rattle.farm_pick.specs.declared.spot.Spot.{Spot}
use Rattle.farm_pick.specs.declared.walk.Cursor.{Cursor}
use Rattle.farm_pick.proofs.Entries.{all_unmap, found_entry}
use Rattle.farm_pick.proofs.First.{IsFirst, IsRanked, below, one_entry, rank_total, ranked_at, same_queue, shown_rank}
use Rattle.farm_pick.proofs.Keeping.{queued_total, tie, tied}
use Rattle.farm_pick.proofs.Queued.{shown_total}
use Rattle.farm_pick.proofs.Shown.{first_shown, sorted_put_all}
use Rattle.farm_pick.proofs.Sieved.{filter_of_none, found_first, found_of_filter, found_there, none_of_filter, none_passes, sieve, sieve_on}

-- ---- the entries of a map in order

spot_total : IsTotalOrder spot_cmp
spot_total = then_total (on_total (λ (s : Spot). s.queue) nat_cmp_total) rank_total

abbrev entry_cmp : Spot × Claim → Spot × Claim → Ordering
entry_cmp a b = spot_cmp a.0 b.0

entry_total : IsTotalOrder entry_cmp
entry_total = on_total (λ (e : Spot × Claim). e.0) spot_total

entries_rise : (es : List (Spot × Claim)) → IsStrictlySortedBy spot_cmp (map (λ e. e.0) es) → IsStrictlySortedBy entry_cmp es
unfolding IsStrictlySortedBy
entries_rise [] sorted = tt
entries_rise (e ∷ es) sorted = (all_unmap (λ s. spot_cmp e.0 s ≡ Less) (λ (d : Spot × Claim). d.0) es sorted.0, entries_rise es sorted.1)

-- two spots that are tied are one
one_spot : (s t : Spot) → is_eq (spot_cmp s t) ≡ true → t ≡ s
one_spot s t is = let same = tied s t is in λ i. record { queue = sym same.queue i; priority = sym same.priority i; number = sym same.number i }

-- each entry is found at its spot
found_at : (es : List (Spot × Claim)) → IsStrictlySortedBy entry_cmp es → (e : Spot × Claim) → IsAmong e es → claim_at es e.0 ≡ Some e.1
unfolding IsStrictlySortedBy
found_at [] sorted e at = absurd at
found_at (d ∷ es) sorted e (inl same) =
    ap (λ o. cond (is_eq o) (Some d.1) (claim_at es e.0)) (ap (spot_cmp e.0) (sym (ap (λ (x : Spot × Claim). x.0) same)) ∙ tied_itself spot_total e.0)
    ∙ ap (λ (x : Spot × Claim). Some x.1) (sym same)
found_at (d ∷ es) sorted e (inr later) = grind (arith, found_at es sorted.1 e later, among_has (λ (x : Spot × Claim). entry_cmp d x ≡ Less) e es sorted.0 later)

-- ---- a queue's first claim behind a spot

entry_at : (es : List (Spot × Claim)) (t : Spot) → IsSome (claim_at es t) → (d : Spot × Claim) × IsAmong d es × (d.0 ≡ t)
entry_at es t some = grind (arith, found_entry, all_true es, one_spot t)

-- a spot behind another isn't in an earlier queue
queue_rises : (s t : Spot) → is_gt (spot_cmp s t) ≡ false → s.queue ≤ t.queue
queue_rises s t is = grind (arith, nat_tests)

module _ (es : List (Spot × Claim)) (sorted : IsStrictlySortedBy spot_cmp (map (λ e. e.0) es)) (s : Spot) where
  abbrev is_behind : Spot × Claim → Bool
  is_behind e = is_lt (spot_cmp s e.0) && true

  rises : IsStrictlySortedBy entry_cmp es
  rises = entries_rise es sorted

  behind_is : (e : Spot × Claim) → spot_cmp s e.0 ≡ Less → is_behind e ≡ true
  behind_is e less = ap (λ o. is_lt o && true) less

  -- the first that is left is the first behind the spot
  first_left : (e : Spot × Claim) (more : List (Spot × Claim)) → entries_behind es s ≡ e ∷ more → (t : Spot) → spot_cmp s t ≡ Less → IsSome (claim_at es t) → is_gt (spot_cmp e.0 t) ≡ false
  first_left e more is t less some =
      let d = entry_at es t some in
      subst (λ u. is_gt (spot_cmp e.0 u) ≡ false) d.2
      (found_first entry_cmp entry_total is_behind e es rises (found_of_filter is_behind es e more is) d.0 d.1
      (behind_is d.0 (ap (spot_cmp s) d.2 ∙ less)))

  after_left : (e : Spot × Claim) (more : List (Spot × Claim)) → entries_behind es s ≡ e ∷ more → spot_cmp s e.0 ≡ Less
  after_left e more is = is_lt-Less (spot_cmp s e.0) (both (is_lt (spot_cmp s e.0)) true (found_passes is_behind e es (found_of_filter is_behind es e more is))).0

  none_left : entries_behind es s ≡ [] → (t : Spot) → spot_cmp s t ≡ Less → claim_at es t ≡ None
  none_left is t less = none_of (claim_at es t) (false_from_ne_true (is_some (claim_at es t)) (λ some.
      let d = entry_at es t some in
      none_passes is_behind d.0 es (none_of_filter is_behind es is) d.1 (behind_is d.0 (ap (spot_cmp s) d.2 ∙ less))))

  -- one step on
  pub stands_in : (rest : List (Spot × Claim)) (o : Option Cursor) → rest ≡ entries_behind es s → StepsTo rest s.queue o → StandsIn es s o
  stands_in rest None is steps = λ t same less. by (entries_behind es s) refl t same less
    where
      by : (xs : List (Spot × Claim)) → entries_behind es s ≡ xs → (t : Spot) → t.queue ≡ s.queue → spot_cmp s t ≡ Less → claim_at es t ≡ None
      by [] left t same less = none_left left t less
      by (e ∷ more) left t same less = none_of (claim_at es t) (false_from_ne_true (is_some (claim_at es t)) (λ some.
          let low = queue_rises s e.0 (ap is_gt (after_left e more left)) in
          let high = queue_rises e.0 t (first_left e more left t less some) in
          steps e more (is ∙ left) (omega (arith, low, high, same))))
  stands_in rest (Some x) is steps =
      let left : entries_behind es s ≡ (steps.0, x.claim.now) ∷ x.rest = sym is ∙ steps.1 in
      record {
        spot = steps.0;
        queue = steps.2;
        after = after_left (steps.0, x.claim.now) x.rest left;
        claim = found_at es rises (steps.0, x.claim.now) (found_there is_behind (steps.0, x.claim.now) es (found_of_filter is_behind es (steps.0, x.claim.now) x.rest left));
        first = λ t same less some. first_left (steps.0, x.claim.now) x.rest left t less some;
        rest = sieve_on entry_cmp entry_total (λ e. is_lt (spot_cmp s e.0)) (λ e. true)
            (λ a b is less. ap is_lt (spot_total.trans s a.0 b.0 (is_lt-Less (spot_cmp s a.0) is) less)) (steps.0, x.claim.now) x.rest es rises left;
        sorted = sorted;
      }

-- ---- the places of a walk

-- a cursor more
pub cursor_more : (es : List (Spot × Claim)) (test : ℕ → Bool) (last : Spot) (n : ℕ) (cursors : List (Option Cursor)) (o : Option Cursor) → AreCursors es test last n cursors
    → IsCursor es test (record last { queue = n }) o → AreCursors es test last (n + 1) (cursors ++ (o ∷ []))
cursor_more es test last n cursors o are new = record {
  len = length-append cursors (o ∷ []) ∙ ap (λ m. m + 1) are.len;
  each = λ q low. by q low (below n q low);
}
  where
    by : (q : ℕ) → q < n + 1 → (q < n) ⊎ (q ≡ n) → IsCursor es test (record last { queue = q }) (get_or (cursors ++ (o ∷ [])) q None)
    by q low (inl less) = subst (IsCursor es test (record last { queue = q })) (sym (get_or_append_left cursors (o ∷ []) None q (let len = are.len in omega (arith, len)))) (are.each q less)
    by q low (inr same) =
        subst (λ m. IsCursor es test (record last { queue = m }) (get_or (cursors ++ (o ∷ [])) m None)) (sym same)
        (subst (IsCursor es test (record last { queue = n })) (sym (get_or_push cursors o None n are.len)) new)

-- one of an open queue, and one of a closed one
pub cursor_seen : (es : List (Spot × Claim)) (test : ℕ → Bool) (last : Spot) (o : Option Cursor) → test last.queue ≡ true → StandsIn es last o → IsCursor es test last o
cursor_seen es test last None is stands = λ _. stands
cursor_seen es test last (Some x) is stands = (is, stands)

pub cursor_unseen : (es : List (Spot × Claim)) (test : ℕ → Bool) (last : Spot) → test last.queue ≡ false → IsCursor es test last None
cursor_unseen es test last closed = λ is. absurd (true≢false (sym is ∙ closed))

same_rank : (s t : Spot) → rank_cmp s t ≡ Equal → s.number ≡ t.number
same_rank s t is = grind (arith, nat_tests)

-- ---- which claim goes first

-- one that isn't after another goes before what the other does
no_later : (s t u : Spot) → is_gt (rank_cmp s t) ≡ false → rank_cmp t u ≡ Less → rank_cmp s u ≡ Less
no_later s t u le less = grind (arith, rank_total.trans s t u, rank_total.congr s t u)

-- so far
abbrev pub LeastBelow : List (Option Cursor) → ℕ → Option (ℕ × Claim) → Type 0
LeastBelow cursors n None = (i : ℕ) → i < n → get_or cursors i None ≡ None
LeastBelow cursors n (Some first) =
    (x : Cursor) × (first.0 < n) × (get_or cursors first.0 None ≡ Some x) × (x.claim.now ≡ first.1)
    × ((i : ℕ) (y : Cursor) → i < n → get_or cursors i None ≡ Some y → is_lt (shown_cmp y.claim.now first.1) ≡ false)

not_itself : (c : Claim) → is_lt (shown_cmp c c) ≡ false
not_itself c = ap is_lt (tied_itself shown_total c)

-- what isn't before one isn't before an earlier one
not_before_less : (a b c : Claim) → is_lt (shown_cmp a c) ≡ false → is_lt (shown_cmp b c) ≡ true → is_lt (shown_cmp a b) ≡ false
not_before_less a b c above less = false_from_ne_true (is_lt (shown_cmp a b)) (λ is.
    true≢false (sym (ap is_lt (shown_total.trans a b c (is_lt-Less (shown_cmp a b) is) (is_lt-Less (shown_cmp b c) less))) ∙ above))

pub least_more : (cursors : List (Option Cursor)) (n : ℕ) (o : Option Cursor) (f : Option (ℕ × Claim)) → get_or cursors n None ≡ o → LeastBelow cursors n f
    → LeastBelow cursors (n + 1) (earlier_place f n o)
least_more cursors n None None is least = λ i low. elim (below n i low) [ inl less ↦ least i less | inr same ↦ ap (λ m. get_or cursors m None) same ∙ is ]
least_more cursors n None (Some f) is least = (
  least.0,
  (let low = least.1 in omega arith),
  least.2,
  least.3,
  λ i y low at. elim (below n i low) [ inl less ↦ least.4 i y less at | inr same ↦ absurd (none-some y (sym is ∙ ap (λ m. get_or cursors m None) (sym same) ∙ at)) ],
)
least_more cursors n (Some x) None is least = (
  x,
  omega arith,
  is,
  refl,
  λ i y low at. elim (below n i low) [
    | inl less ↦ absurd (none-some y (sym (least i less) ∙ at))
    | inr same ↦ ap (λ (z : Cursor). is_lt (shown_cmp z.claim.now x.claim.now)) (same_Some y x (sym at ∙ ap (λ m. get_or cursors m None) same ∙ is)) ∙ not_itself x.claim.now
  ],
)
least_more cursors n (Some x) (Some f) is least = by (is_lt (shown_cmp x.claim.now f.1)) refl
  where
    here_or : (d : Claim) → is_lt (shown_cmp x.claim.now d) ≡ false → ((i : ℕ) (y : Cursor) → i < n → get_or cursors i None ≡ Some y → is_lt (shown_cmp y.claim.now d) ≡ false)
        → (i : ℕ) (y : Cursor) → i < n + 1 → get_or cursors i None ≡ Some y → is_lt (shown_cmp y.claim.now d) ≡ false
    here_or d here_no old i y low at = elim (below n i low) [
      | inl less ↦ old i y less at
      | inr same ↦ ap (λ (z : Cursor). is_lt (shown_cmp z.claim.now d)) (same_Some y x (sym at ∙ ap (λ m. get_or cursors m None) same ∙ is)) ∙ here_no
    ]

    by : (v : Bool) → is_lt (shown_cmp x.claim.now f.1) ≡ v → LeastBelow cursors (n + 1) (cond v (Some (n, x.claim.now)) (Some f))
    by true less = (x, omega arith, is, refl, here_or x.claim.now (not_itself x.claim.now) (λ i y low at. not_before_less y.claim.now x.claim.now f.1 (least.4 i y low at) less))
    by false above = (least.0, (let low = least.1 in omega arith), least.2, least.3, here_or f.1 above least.4)

module _ (kinds : List (List ℕ)) (es : List (Spot × Claim)) (keyed : AllByRecursion (IsKeyed kinds) es) (test : ℕ → Bool) (last : Spot) (n : ℕ)
    (cursors : List (Option Cursor)) (are : AreCursors es test last n cursors) where
  pub first_none : ((i : ℕ) → i < length cursors → get_or cursors i None ≡ None) → IsFirst es test n last None
  first_none none = λ t low is less.
      let cursor = subst (IsCursor es test (record last { queue = t.queue })) (none t.queue (let len = are.len in omega (arith, len))) (are.each t.queue low) in
      cursor is t refl (same_queue (record last { queue = t.queue }) t refl ∙ less)

  module _ (place : ℕ) (x : Cursor) (low : place < length cursors) (here : get_or cursors place None ≡ Some x)
      (least : (i : ℕ) (y : Cursor) → i < length cursors → get_or cursors i None ≡ Some y → is_lt (shown_cmp y.claim.now x.claim.now) ≡ false) where
    pub in_range : place < n
    in_range = let len = are.len in omega (arith, len)

    pub stands : (test place ≡ true) × IsCursorAt es (record last { queue = place }) x
    stands = subst (IsCursor es test (record last { queue = place })) here (are.each place in_range)

    abbrev pub at : IsCursorAt es (record last { queue = place }) x
    at = stands.1

    pub ranked_x : IsRanked at.spot x.claim.now
    ranked_x = ranked_at kinds es at.spot x.claim.now keyed at.claim

    after_x : rank_cmp last at.spot ≡ Less
    after_x = sym (same_queue (record last { queue = place }) at.spot (sym at.queue)) ∙ at.after

    -- no claim of another cursor goes before it
    not_before : (i : ℕ) (y : Cursor) → i < length cursors → get_or cursors i None ≡ Some y → (s : Spot) → claim_at es s ≡ Some y.claim.now → rank_cmp s at.spot ≡ Less → ⊥
    not_before i y below is s found less =
        true≢false (sym (ap is_lt (shown_rank s at.spot y.claim.now x.claim.now (ranked_at kinds es s y.claim.now keyed found) ranked_x ∙ less)) ∙ least i y below is)

    nothing_before : (t : Spot) → t.queue < n → test t.queue ≡ true → rank_cmp last t ≡ Less → IsSome (claim_at es t) → rank_cmp t at.spot ≡ Less → ⊥
    nothing_before t below is after some less = by (get_or cursors t.queue None) refl (are.each t.queue below)
      where
        here_less : spot_cmp (record last { queue = t.queue }) t ≡ Less
        here_less = same_queue (record last { queue = t.queue }) t refl ∙ after

        by : (o : Option Cursor) → get_or cursors t.queue None ≡ o → IsCursor es test (record last { queue = t.queue }) o → ⊥
        by None so cursor = true≢false (sym some ∙ ap is_some (cursor is t refl here_less))
        by (Some y) so cursor =
            let other = cursor.1 in
            let le = other.first t refl here_less some in
            not_before t.queue y (let len = are.len in omega (arith, len)) so other.spot other.claim
            (no_later other.spot t at.spot (sym (ap is_gt (same_queue other.spot t other.queue)) ∙ le) less)

    pub first_some : IsFirst es test n last (Some x.claim.now)
    first_some = (at.spot, ap_low, ap test at.queue ∙ stands.0, after_x, at.claim, nothing_before)
      where
        ap_low : at.spot.queue < n
        ap_low = let same = at.queue in let low = in_range in omega (arith, same, low)

    -- ---- and the walk goes on

    module _ (apart : EachTwo (λ a b. a.1.number ≡ b.1.number → ⊥) es) (l : Spot) (priority : l.priority ≡ at.spot.priority) (number : l.number ≡ at.spot.number) where
      same_ranks : (t : Spot) → rank_cmp l t ≡ rank_cmp at.spot t
      same_ranks t = λ i. ordering_then (nat_cmp t.priority (priority i)) (nat_cmp (number i) t.number)

      later_too : (t : Spot) → rank_cmp l t ≡ Less → rank_cmp last t ≡ Less
      later_too t less = rank_total.trans last at.spot t after_x (sym (same_ranks t) ∙ less)

      -- a claim of another queue isn't that which was lent
      differs : (s : Spot) (c : Claim) → claim_at es s ≡ Some c → (s.queue ≡ at.spot.queue → ⊥) → rank_cmp at.spot s ≡ Equal → ⊥
      differs s c found other tie =
          let e = found_entry (IsKeyed kinds) (λ t. is_eq (spot_cmp s t)) c es keyed found in
          let d = found_entry (IsKeyed kinds) (λ t. is_eq (spot_cmp at.spot t)) x.claim.now es keyed at.claim in
          let es_number = sym e.1.number ∙ sym (tied s e.0.0 e.2).number in
          let ds_number = sym d.1.number ∙ sym (tied at.spot d.0.0 d.2).number in
          let one = one_entry es apart e.0 d.0 e.4 d.4 (es_number ∙ sym (same_rank at.spot s tie) ∙ sym ds_number) in
          other ((tied s e.0.0 e.2).queue ∙ ap (λ (y : Spot × Claim). y.0.queue) one ∙ sym (tied at.spot d.0.0 d.2).queue)

      stays : (q : ℕ) → q < n → (q ≡ place → ⊥) → (o : Option Cursor) → get_or cursors q None ≡ o → IsCursor es test (record last { queue = q }) o
          → IsCursor es test (record l { queue = q }) o
      stays q below_n other None is cursor = λ opens t same less.
          cursor opens t same (same_queue (record last { queue = q }) t (sym same) ∙ later_too t (sym (same_queue (record l { queue = q }) t (sym same)) ∙ less))
      stays q below_n other (Some y) is cursor = (
        cursor.0,
        record {
          spot = cursor.1.spot;
          queue = cursor.1.queue;
          after = same_queue (record l { queue = q }) cursor.1.spot (sym cursor.1.queue) ∙ same_ranks cursor.1.spot ∙ by (rank_cmp at.spot cursor.1.spot) refl;
          claim = cursor.1.claim;
          first = λ t same less some.
              cursor.1.first t same (same_queue (record last { queue = q }) t (sym same) ∙ later_too t (sym (same_queue (record l { queue = q }) t (sym same)) ∙ less)) some;
          rest = cursor.1.rest;
          sorted = cursor.1.sorted;
        },
      )
        where
          by : (o : Ordering) → rank_cmp at.spot cursor.1.spot ≡ o → o ≡ Less
          by Less so = refl
          by Equal so = absurd (differs cursor.1.spot y.claim.now cursor.1.claim (λ same. other (sym cursor.1.queue ∙ same ∙ at.queue)) so)
          by Greater so =
              absurd (not_before q y (let len = are.len in omega (arith, len)) is cursor.1.spot cursor.1.claim
              (rank_total.antisymm cursor.1.spot at.spot ∙ ap ordering_reverse so))

      moved : (o : Option Cursor) → StepsTo x.rest place o → IsCursor es test (record l { queue = place }) o
      moved o steps =
          let here_is : at.spot ≡ record l { queue = place } = λ i. record { queue = at.queue i; priority = sym priority i; number = sym number i } in
          cursor_seen es test (record l { queue = place }) o stands.0
          (subst (λ s. StandsIn es s o) here_is
          (stands_in es at.sorted at.spot x.rest o at.rest (subst (λ q. StepsTo x.rest q o) (sym at.queue) steps)))

      pub cursors_on : (o : Option Cursor) → StepsTo x.rest place o → AreCursors es test l n (slice_set cursors place o)
      cursors_on o steps = record {
        len = length-set cursors place o ∙ are.len;
        each = λ q below_n. by q below_n (q == place) refl;
      }
        where
          by : (q : ℕ) → q < n → (v : Bool) → (q == place) ≡ v → IsCursor es test (record l { queue = q }) (get_or (slice_set cursors place o) q None)
          by q below_n true is =
              let same = same_number q place is in
              subst (λ m. IsCursor es test (record l { queue = m }) (get_or (slice_set cursors place o) m None)) (sym same)
              (subst (IsCursor es test (record l { queue = place })) (sym (get_or-set_same cursors place o None low)) (moved o steps))
          by q below_n false is =
              let other : q ≡ place → ⊥ = λ same. true≢false (sym (ap (λ m. m == place) same ∙ itself place) ∙ is) in
              subst (IsCursor es test (record l { queue = q })) (sym (get_or-set_other cursors place q o None other))
              (stays q below_n other (get_or cursors q None) refl (are.each q below_n))

-- ---- what the walk shows

-- what is behind one that is after a spot is so too
rank_up : (last : Spot) (x y : Queued) → is_later last x.claim ≡ true → queued_cmp x y ≡ Less → is_later last y.claim ≡ true
rank_up last x y is less =
    ap is_lt (rank_total.trans last (record { queue = 0; priority = x.claim.priority; number = x.claim.number }) (record { queue = 0; priority = y.claim.priority; number = y.claim.number })
    (is_lt-Less (rank_of_claim last x.claim) is) less)

module _ (kinds : List (List ℕ)) (es : List (Spot × Claim)) (rows : List IdleRow) (are : AreHeads kinds es rows) (last : Spot) where
  abbrev opens : Option (List ℕ) → Bool
  opens k = is_open (map (shown_idle kinds) rows) k

  abbrev shows : Queued → Bool
  shows x = is_later last x.claim && opens x.kind

  abbrev shown : List Queued
  shown = shown_claims kinds es

  found : (o : Option Claim) → IsFirst es (queue_open rows) (length kinds + 1) last o → o ≡ option_map (λ (x : Queued). x.claim) (find shows shown)
  found o first =
      first_shown kinds es are.keyed are.apart last (queue_open rows) opens
      (same_open kinds are.idle.apart rows are.idle.each) o first

  pub walk_end : IsFirst es (queue_open rows) (length kinds + 1) last None → walk_from kinds es rows last ≡ []
  walk_end first = by (find shows shown) refl (found None first)
    where
      by : (o : Option Queued) → find shows shown ≡ o → None ≡ option_map (λ (x : Queued). x.claim) o → walk_from kinds es rows last ≡ []
      by None is none = ap (map (λ (x : Queued). x.claim)) (filter_of_none shows shown is)
      by (Some x) is none = cc

  pub walk_on : (c : Claim) (l : Spot) → l.priority ≡ c.priority → l.number ≡ c.number → IsFirst es (queue_open rows) (length kinds + 1) last (Some c)
      → walk_from kinds es rows last ≡ c ∷ walk_from kinds es rows l
  walk_on c l priority number first = by (find shows shown) refl (found (Some c) first)
    where
      by : (o : Option Queued) → find shows shown ≡ o → Some c ≡ option_map (λ (x : Queued). x.claim) o → walk_from kinds es rows last ≡ c ∷ walk_from kinds es rows l
      by None is some = cc
      by (Some x) is some =
          let same : c ≡ x.claim = cc in
          let low : x.claim.priority ≡ l.priority = sym (priority ∙ ap (λ (d : Claim). d.priority) same) in
          let num : x.claim.number ≡ l.number = sym (number ∙ ap (λ (d : Claim). d.number) same) in
          ap (map (λ (y : Queued). y.claim))
          (sieve queued_cmp queued_total (λ y. is_later last y.claim) (λ y. opens y.kind) (λ y z so less. rank_up last y z so less) x shown (sorted_put_all queued_cmp queued_total shows (map (shown_entry kinds) es)) is)
          ∙ (λ i. sym same i ∷ map (λ (y : Queued). y.claim)
          (filter (λ y. is_lt (ordering_then (nat_cmp y.claim.priority (low i)) (nat_cmp (num i) y.claim.number)) && opens y.kind) shown))

-- ---- a turn of the walk

pub walk_none : (kinds : List (List ℕ)) (es : List (Spot × Claim)) (rows : List IdleRow) (last : Spot) (cursors cs : List (Option Cursor)) → cs ≡ cursors
    → IsWalk kinds es rows last cursors → IsLeastOf cs None → walk_from kinds es rows last ≡ []
walk_none kinds es rows last cursors cs same walk none =
    walk_end kinds es rows walk.heads last
    (first_none kinds es walk.heads.keyed (queue_open rows) last (length kinds + 1) cursors walk.cursors_at (subst (λ xs. IsLeastOf xs None) same none))

-- the cursor that is taken is there
pub taken_there : (cursors cs : List (Option Cursor)) (place : ℕ) → cs ≡ cursors → IsLeastOf cs (Some place) → (o : Option Cursor) → o ≡ get_or cursors place o → o ≡ get_or cursors place None
taken_there cursors cs place same least o is =
    is ∙ get_or_default cursors place o None (let low = least.1 in let len : length cs ≡ length cursors = ap length same in omega (arith, low, len))

pub not_none : (cursors cs : List (Option Cursor)) (place : ℕ) → cs ≡ cursors → IsLeastOf cs (Some place) → None ≡ get_or cursors place None → ⊥
not_none cursors cs place same least none =
    let two : ◌≡◌ {A = Option Cursor} None (Some least.0) = none ∙ ap (λ xs. get_or xs place None) (sym same) ∙ least.2 in
    cc

set_twice : (xs : List (Option Cursor)) (i : ℕ) (a b : Option Cursor) → slice_set (slice_set xs i a) i b ≡ slice_set xs i b
set_twice [] i a b = refl
set_twice (x ∷ xs) zero a b = refl
set_twice (x ∷ xs) (suc i) a b = ap (λ ys. x ∷ ys) (set_twice xs i a b)

module _ (kinds : List (List ℕ)) (es : List (Spot × Claim)) (rows : List IdleRow) (last : Spot) (cursors cs : List (Option Cursor)) (same : cs ≡ cursors)
    (walk : IsWalk kinds es rows last cursors) (place : ℕ) (least : IsLeastOf cs (Some place)) (x : Cursor) (taken : Some x ≡ get_or cursors place None) where
  abbrev opens_at : ℕ → Bool
  opens_at q = queue_open rows q

  least_here : IsLeastOf cursors (Some place)
  least_here = subst (λ xs. IsLeastOf xs (Some place)) same least

  is_x : least_here.0 ≡ x
  is_x = same_Some least_here.0 x (sym least_here.2 ∙ sym taken)

  least_x : (i : ℕ) (y : Cursor) → i < length cursors → get_or cursors i None ≡ Some y → is_lt (shown_cmp y.claim.now x.claim.now) ≡ false
  least_x i y low at = ap (λ (z : Cursor). is_lt (shown_cmp y.claim.now z.claim.now)) (sym is_x) ∙ least_here.3 i y low at

  pub lends_on : (l : Spot) → l.priority ≡ x.claim.now.priority → l.number ≡ x.claim.now.number → walk_from kinds es rows last ≡ x.claim.now ∷ walk_from kinds es rows l
  lends_on l priority number =
      walk_on kinds es rows walk.heads last x.claim.now l priority number
      (first_some kinds es walk.heads.keyed opens_at last (length kinds + 1) cursors walk.cursors_at place x least_here.1 (sym taken) least_x)

  pub walks_on : (l : Spot) → l.priority ≡ x.claim.now.priority → l.number ≡ x.claim.now.number → (a o : Option Cursor) → StepsTo x.rest place o
      → IsWalk kinds es rows l (slice_set (slice_set cursors place a) place o)
  walks_on l priority number a o steps =
      let ranked = ranked_x kinds es walk.heads.keyed opens_at last (length kinds + 1) cursors walk.cursors_at place x least_here.1 (sym taken) least_x in
      record {
        heads = walk.heads;
        cursors_at = subst (AreCursors es opens_at l (length kinds + 1)) (sym (set_twice cursors place a o))
            (cursors_on kinds es walk.heads.keyed opens_at last (length kinds + 1) cursors walk.cursors_at place x least_here.1 (sym taken) least_x walk.heads.apart l
            (priority ∙ sym ranked.priority) (number ∙ sym ranked.number) o steps);
      }
