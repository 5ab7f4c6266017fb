-- The heads of the queues, one after the other, as callers see them.
use Rattle.std.proofs.Common.{◌≡◌, ◌∙◌, ◌&&◌, ◌||◌, ◌==◌, ◌≤◌, ◌<◌, ◌+◌, ◌-◌, ℕ, zero, suc, List, [], ◌∷◌, length, map, Bool, true, false, Option, Some, None}
use Rattle.std.proofs.Common.{inl, inr, refl, sym, ap, subst, arith, ◌++◌}
use Rattle.farm_pick.proofs.Names.{AllByRecursion, AllByRecursion-map, append-nil, both, cases_Bool, Claim, differs_more, eqb-false, is_lt, IsPermutation}
use Rattle.farm_pick.proofs.Names.{IsPermutation-sym, IsSortedBy, itself, list_any, map-map, same_number}
use Rattle.std.specs.List.{cons_option, filter_map, range_with_len}
use Rattle.std.proofs.lemmas.Bool.{or_left, or_right}
use Rattle.farm_types.specs.Names.{EachTwo, shown_cmp}
use Rattle.farm_pick.specs.Queued.{AreKindsOf, QueueLists, Queued, head_of, is_open, same_kind}
use Rattle.farm_pick.specs.Index.{IsKeyed, IsWell, kind_at, queued_cmp, shown_claims, shown_entry, shown_idle}
use Rattle.farm_pick.specs.Heads.{AreHeads, IsFirstBehind, head_in, heads_from, is_later, queue_open}
use Rattle.std.specs.Option.{option_map}
use Rattle.farm_pick.specs.Walked.{IsCursor}
use Rattle.farm_pick.specs.declared.idle.IdleRow.{IdleRow}
use Rattle.farm_pick.specs.declared.walk.Cursor.{Cursor}
use Rattle.farm_pick.specs.declared.spot.Place.{Place}
use Rattle.farm_pick.specs.declared.spot.Spot.{Spot}
use Rattle.farm_pick.proofs.Apart.{same_kinds, same_open}
use Rattle.farm_pick.proofs.Entries.{all_put, none_before, sorted_seen}
use Rattle.farm_pick.proofs.First.{first_alone, none_alone}
use Rattle.farm_pick.proofs.Keeping.{queued_total, shown_apart}
use Rattle.farm_pick.proofs.Shown.{first_shown, sorted_put_all}
use Rattle.std.proofs.lemmas.List.Sorted.{IsPermutation-map, IsPermutation-trans}
use Rattle.farm_sound.proofs.Queue.{put_all_permutes}
use Rattle.farm_pick.proofs.Ordered.{sorted_is_one}
use Rattle.farm_pick.proofs.Queued.{shown_total}

-- ---- the claims of the map, once they are sorted, are those that callers see

abbrev claims_of : List Queued → List Claim
claims_of xs = map (λ (x : Queued). x.claim) xs

module _ (kinds : List (List ℕ)) (es : List (Spot × Claim)) (apart : EachTwo (λ a b. a.1.number ≡ b.1.number → ⊥) es) where
  permuted : IsPermutation (map (λ (e : Spot × Claim). e.1) es) (claims_of (shown_claims kinds es))
  permuted =
      subst (λ xs. IsPermutation xs (claims_of (shown_claims kinds es)))
      (ap claims_of (append-nil (map (shown_entry kinds) es)) ∙ map-map (λ (x : Queued). x.claim) (shown_entry kinds) es)
      (IsPermutation-map (λ (x : Queued). x.claim) (map (shown_entry kinds) es ++ []) (shown_claims kinds es)
      (put_all_permutes queued_cmp queued_total (map (shown_entry kinds) es) [] (shown_apart kinds es apart) (none_before queued_cmp queued_total (map (shown_entry kinds) es))))

  sorted_claims : (sorted : List Claim) → IsPermutation (map (λ (e : Spot × Claim). e.1) es) sorted → IsSortedBy (λ a b. is_lt (shown_cmp a b)) sorted
      → sorted ≡ claims_of (shown_claims kinds es)
  sorted_claims sorted permutes in_order =
      sorted_is_one shown_cmp shown_total (claims_of (shown_claims kinds es)) sorted
      (sorted_seen queued_cmp shown_cmp (λ x. x.claim) (λ a b less. less) (shown_claims kinds es) (sorted_put_all queued_cmp queued_total (λ x. true) (map (shown_entry kinds) es)))
      (IsPermutation-trans (claims_of (shown_claims kinds es)) (map (λ (e : Spot × Claim). e.1) es) sorted
      (IsPermutation-sym (map (λ (e : Spot × Claim). e.1) es) (claims_of (shown_claims kinds es)) permuted) permutes) in_order

-- as callers see them
pub claims_seen : (kinds : List (List ℕ)) (es : List (Spot × Claim)) (ps : List (ℕ × Place)) (rows : List IdleRow) → IsWell kinds es ps rows → (seen : QueueLists)
    → record { claims = shown_claims kinds es; boards = map (shown_idle kinds) rows } ≡ seen → (sorted : List Claim) → IsPermutation (map (λ (e : Spot × Claim). e.1) es) sorted
    → IsSortedBy (λ a b. is_lt (shown_cmp a b)) sorted → sorted ≡ map (λ (x : Queued). x.claim) seen.claims
claims_seen kinds es ps rows well seen view sorted permutes in_order =
    sorted_claims kinds es well.queues.apart sorted permutes in_order ∙ ap (λ (l : QueueLists). claims_of l.claims) view

-- ---- the head of one queue

module _ (kinds : List (List ℕ)) (es : List (Spot × Claim)) (rows : List IdleRow) (are : AreHeads kinds es rows) (all : Bool) (last : Spot)
    (low : last.queue ≤ length kinds) where
  abbrev looked_at : ℕ → Bool
  looked_at q = (all || queue_open rows q) && (q == last.queue)

  abbrev opens : Option (List ℕ) → Bool
  opens k = (all || is_open (map (shown_idle kinds) rows) k) && same_kind (kind_at kinds last.queue) k

  same_test : (q : ℕ) → q ≤ length kinds → looked_at q ≡ opens (kind_at kinds q)
  same_test q here =
      ap (λ v. (all || v) && (q == last.queue)) (same_open kinds are.idle.apart rows are.idle.each q here)
      ∙ ap (λ v. (all || is_open (map (shown_idle kinds) rows) (kind_at kinds q)) && v) (same_kinds kinds are.idle.apart last.queue q low here)

  alone : (q : ℕ) → looked_at q ≡ true → q ≡ last.queue
  alone q is = same_number q last.queue (both (all || queue_open rows q) (q == last.queue) is).1

  pub head_seen : (o : Option Claim) → (all || queue_open rows last.queue) ≡ true → IsFirstBehind es last o → o ≡ head_in kinds es rows all last
  head_seen o is head =
      first_shown kinds es are.keyed are.apart last looked_at opens same_test o
      (first_alone kinds es are.keyed looked_at last last.queue (length kinds + 1) (omega arith) alone o
      (ap (λ v. v && (last.queue == last.queue)) is ∙ itself last.queue) head)

  pub head_unseen : (all || queue_open rows last.queue) ≡ false → None ≡ head_in kinds es rows all last
  head_unseen is =
      first_shown kinds es are.keyed are.apart last looked_at opens same_test None
      (none_alone kinds es are.keyed looked_at last last.queue (length kinds + 1) (omega arith) alone
      (ap (λ v. v && (last.queue == last.queue)) is))

  -- and where a walk begins in it
  pub head_of_cursor : (o : Option Cursor) → IsCursor es (λ q. all || queue_open rows q) last o → option_map (λ x. x.claim.now) o ≡ head_in kinds es rows all last
  head_of_cursor None none = elim (cases_Bool (all || queue_open rows last.queue)) [
    | inl is ↦ head_seen None is (none is)
    | inr is ↦ head_unseen is
  ]
  head_of_cursor (Some x) at = head_seen (Some x.claim.now) at.0 (at.1.spot, at.1.queue, at.1.after, at.1.claim, at.1.first)

-- ---- one queue after the other

module _ (kinds : List (List ℕ)) (es : List (Spot × Claim)) (rows : List IdleRow) (all : Bool) (last : Spot) where
  abbrev head_at : ℕ → Option Claim
  head_at q = head_in kinds es rows all (record last { queue = q })

  pub heads_on : (queue : ℕ) → queue ≤ length kinds → heads_from kinds es rows all last queue ≡ cons_option (head_at queue) (heads_from kinds es rows all last (queue + 1))
  heads_on queue low =
      let one : length kinds + 1 - queue ≡ suc (length kinds + 1 - (queue + 1)) = omega arith in
      ap (λ n. filter_map head_at (range_with_len queue n)) one

-- ---- and by their types

filter_map_map : {A B C : Type 0} (f : B → Option C) (g : A → B) (xs : List A) → filter_map (λ x. f (g x)) xs ≡ filter_map f (map g xs)
filter_map_map f g [] = refl
filter_map_map f g (x ∷ xs) = ap (cons_option (f (g x))) (filter_map_map f g xs)

module _ (kinds : List (List ℕ)) (es : List (Spot × Claim)) (rows : List IdleRow) (are : AreHeads kinds es rows) where
  abbrev kinds_from : ℕ → ℕ → List (Option (List ℕ))
  kinds_from a n = map (kind_at kinds) (range_with_len a n)

  others : (a b n : ℕ) → a < b → b + n ≤ length kinds + 1 → AllByRecursion (λ k. same_kind (kind_at kinds a) k ≡ false) (kinds_from b n)
  others a b zero less low = tt
  others a b (suc n) less low =
      (sym (same_kinds kinds are.idle.apart a b (omega arith) (omega arith)) ∙ differs_more b a less, others a (b + 1) n (omega arith) (omega arith))

  each_apart : (a n : ℕ) → a + n ≤ length kinds + 1 → EachTwo (λ j k. same_kind j k ≡ false) (kinds_from a n)
  each_apart a zero low = tt
  each_apart a (suc n) low = (others a (a + 1) n (omega arith) (omega arith), each_apart (a + 1) n (omega arith))

  is_there : (q a n : ℕ) → a ≤ q → q < a + n → a + n ≤ length kinds + 1 → list_any (λ k. same_kind k (kind_at kinds q)) (kinds_from a n) ≡ true
  is_there q a zero from below low = absurd (omega arith)
  is_there q a (suc n) from below low = elim (cases_Bool (q == a)) [
    | inl is ↦ or_left (same_kind (kind_at kinds a) (kind_at kinds q)) _ (sym (same_kinds kinds are.idle.apart a q (omega arith) (omega arith)) ∙ is)
    | inr is ↦ let other = eqb-false q a is in or_right (same_kind (kind_at kinds a) (kind_at kinds q)) _ (is_there q (a + 1) n (omega arith) (omega arith) (omega arith))
  ]

  pub are_kinds : AreKindsOf (shown_claims kinds es) (kinds_from 0 (length kinds + 1))
  are_kinds = record {
    apart = each_apart 0 (length kinds + 1) (omega arith);
    each = all_put queued_cmp queued_total IsThere (map (shown_entry kinds) es) [] tt
        (AllByRecursion-map (IsKeyed kinds) IsThere (shown_entry kinds)
        (λ e k. is_there e.0.queue 0 (length kinds + 1) (omega arith) (let low = k.queue in omega (arith, low)) (omega arith)) es are.keyed);
  }
    where
      IsThere : Queued → Type 0
      IsThere x = list_any (λ k. same_kind k x.kind) (kinds_from 0 (length kinds + 1)) ≡ true

pub heads_of_well : (kinds : List (List ℕ)) (es : List (Spot × Claim)) (ps : List (ℕ × Place)) (rows : List IdleRow) → IsWell kinds es ps rows → AreHeads kinds es rows
heads_of_well kinds es ps rows well = record { keyed = well.queues.keyed; apart = well.queues.apart; idle = well.free }

-- what the heads of queues show, as callers see it
abbrev ShowsHeads : QueueLists → Bool → Spot → List Claim → Type 0
ShowsHeads seen all last heads =
    (kinds : List (Option (List ℕ))) × AreKindsOf seen.claims kinds
    × (heads ≡ filter_map (head_of (is_later last) (λ k. all || is_open seen.boards k) seen.claims) kinds)

pub heads_seen : (kinds : List (List ℕ)) (es : List (Spot × Claim)) (ps : List (ℕ × Place)) (rows : List IdleRow) → IsWell kinds es ps rows → (all : Bool) (seen : QueueLists)
    → record { claims = shown_claims kinds es; boards = map (shown_idle kinds) rows } ≡ seen → (r last : Spot) → r ≡ last
    → ShowsHeads seen all last (heads_from kinds es rows all r 0)
heads_seen kinds es ps rows well all seen view r last is =
    subst (λ s. ShowsHeads s all last (heads_from kinds es rows all r 0)) view (
      map (kind_at kinds) (range_with_len 0 (length kinds + 1)),
      are_kinds kinds es rows (heads_of_well kinds es ps rows well),
      ap (λ l. heads_from kinds es rows all l 0) is
          ∙ ap (λ n. filter_map (λ q. head_in kinds es rows all (record last { queue = q })) (range_with_len 0 n)) whole
          ∙ filter_map_map (head_of (is_later last) (λ k. all || is_open (map (shown_idle kinds) rows) k) (shown_claims kinds es)) (kind_at kinds) (range_with_len 0 (length kinds + 1)),
    )
  where
    whole : length kinds + 1 - 0 ≡ length kinds + 1
    whole = omega arith
