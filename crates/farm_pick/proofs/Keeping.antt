-- What a put and a take keep of the queues.
use Rattle.std.proofs.Common.{◌≡◌, ◌∙◌, ◌&&◌, ◌==◌, ◌≤◌, ◌++◌, ℕ, zero, suc, List, [], ◌∷◌, length, map, Bool, true, false, cond, not, Option, Some, None}
use Rattle.std.proofs.Common.{is_some, refl, sym, ap, subst, arith}
use mathlib.Core.Bool.{true≢false, false≢true}
use Rattle.farm_pick.proofs.Names.{AllByRecursion, AllByRecursion-both, AllByRecursion-map, AllByRecursion-weaker, among_has, Claim, insert_entry, is_eq}
use Rattle.farm_pick.proofs.Names.{IsTotalOrder, itself, nat_cmp, nat_tests, ne_eqb, on_total, option_map_or, ranked, remove_entry}
use Rattle.std.specs.List.{filter}
use Rattle.std.specs.declared.cmp.Ordering.TheVariants.{Equal}
use Rattle.std.proofs.lemmas.Bool.{not_from_false}
use Rattle.farm_types.specs.Names.{EachTwo, IsAmong, put, put_all, shown_cmp}
use Rattle.farm_sound.proofs.Clear.{none_of}
use Rattle.farm_sound.proofs.Lists.{each_map}
use Rattle.farm_pick.proofs.Queued.{shown_total}
use Rattle.farm_pick.specs.Queued.{Queued}
use Rattle.farm_pick.specs.Index.{spot_cmp, queued_cmp, kind_at, shown_entry, shown_claims, IsKeyed, claim_at, place_at, is_placed, AreQueues}
use Rattle.farm_pick.specs.declared.spot.Spot.{Spot}
use Rattle.farm_pick.specs.declared.spot.Place.{Place}
use Rattle.farm_pick.proofs.Entries.{IsApart, all_pass, all_unmap, among_itself, entry_found, found_entry, all_insert, each_insert, all_remove, each_remove}
use Rattle.farm_pick.proofs.Entries.{all_put, all_unput, shown_insert, shown_remove, filter_put}

pub queued_total : IsTotalOrder queued_cmp
queued_total = on_total (λ (x : Queued). x.claim) shown_total

-- ---- ties

abbrev OtherNumber : Spot × Claim → Spot × Claim → Type 0
OtherNumber a b = a.1.number ≡ b.1.number → ⊥

ties_number : (a b : Claim) → shown_cmp a b ≡ Equal → a.number ≡ b.number
ties_number a b ties = grind (arith, ranked a.number b.number)

pub other_apart : (kinds : List (List ℕ)) (a b : Spot × Claim) → OtherNumber a b → IsApart queued_cmp (shown_entry kinds a) (shown_entry kinds b)
other_apart kinds a b other ties = other (ties_number a.1 b.1 ties)

pub shown_apart : (kinds : List (List ℕ)) (es : List (Spot × Claim)) → EachTwo OtherNumber es → EachTwo (IsApart queued_cmp) (map (shown_entry kinds) es)
shown_apart kinds es each = each_map OtherNumber (IsApart queued_cmp) (shown_entry kinds) (λ a b other. other_apart kinds a b other) es each

-- two spots are one, or differ
pub record AreTied (a b : Spot) : Type 0 where
  pub queue : a.queue ≡ b.queue
  pub priority : a.priority ≡ b.priority
  pub number : a.number ≡ b.number

pub tied : (a b : Spot) → is_eq (spot_cmp a b) ≡ true → AreTied a b
tied a b is = record { queue = grind (arith, nat_tests); priority = grind (arith, nat_tests); number = grind (arith, nat_tests) }

pub tie : (a b : Spot) → AreTied a b → is_eq (spot_cmp a b) ≡ true
tie a b t = grind (arith, nat_tests)

-- ---- look-ups

some_is : {X : Type 0} (o : Option X) → is_some o ≡ true → (x : X) × (o ≡ Some x)
some_is None is = absurd (false≢true is)
some_is (Some x) is = (x, refl)

-- ---- more types

pub kind_more : (kinds more : List (List ℕ)) (q : ℕ) → q ≤ length kinds → kind_at (kinds ++ more) q ≡ kind_at kinds q
kind_more kinds more zero low = refl
kind_more [] more (suc q) low = absurd (omega arith)
kind_more (k ∷ kinds) more (suc zero) low = refl
kind_more (k ∷ kinds) more (suc (suc q)) low = kind_more kinds more (suc q) (omega arith)

shown_more_map : (kinds more : List (List ℕ)) (es : List (Spot × Claim)) → AllByRecursion (IsKeyed kinds) es → map (shown_entry (kinds ++ more)) es ≡ map (shown_entry kinds) es
shown_more_map kinds more [] all = refl
shown_more_map kinds more (e ∷ es) all = rw (kind_more kinds more e.0.queue all.0.queue) (ap (λ xs. shown_entry kinds e ∷ xs) (shown_more_map kinds more es all.1))

pub shown_more : (kinds more : List (List ℕ)) (es : List (Spot × Claim)) → AllByRecursion (IsKeyed kinds) es → shown_claims (kinds ++ more) es ≡ shown_claims kinds es
shown_more kinds more es all = ap (put_all queued_cmp []) (shown_more_map kinds more es all)

pub long : (kinds more : List (List ℕ)) → length kinds ≤ length (kinds ++ more)
long [] more = omega arith
long (k ∷ kinds) more = let rest = long kinds more in omega (arith, rest)

pub are_more : (kinds more : List (List ℕ)) (es : List (Spot × Claim)) (ps : List (ℕ × Place)) → AreQueues kinds es ps → AreQueues (kinds ++ more) es ps
are_more kinds more es ps are = record {
  keyed = AllByRecursion-weaker (λ e k. record { number = k.number; priority = k.priority; queue = (let l = long kinds more in omega (arith, l, k.queue)) }) es are.keyed;
  apart = are.apart;
  placed = are.placed;
}

module _ (kinds : List (List ℕ)) (es : List (Spot × Claim)) (ps : List (ℕ × Place)) (are : AreQueues kinds es ps) where
  -- what is said of all claims that are shown is said of the entries
  pub all_entries : (P : Queued → Type 0) → AllByRecursion P (shown_claims kinds es) → AllByRecursion (λ e. P (shown_entry kinds e)) es
  all_entries P all = all_unmap P (shown_entry kinds) es (all_unput queued_cmp queued_total P (map (shown_entry kinds) es) (shown_apart kinds es are.apart) all)

  -- where a number is placed its claim stands
  pub placed_some : (n : ℕ) (p : Place) → place_at ps n ≡ Some p → (v : Claim) × (claim_at es (record { queue = p.queue; priority = p.priority; number = n }) ≡ Some v)
  placed_some n p is =
      let s : Spot = record { queue = p.queue; priority = p.priority; number = n } in
      some_is (claim_at es s) (
      are.placed s
      ∙ ap (λ o. option_map_or (λ (r : Place). (r.queue == p.queue) && (r.priority == p.priority)) o false) is
      ∙ ap (λ v. v && (p.priority == p.priority)) (itself p.queue) ∙ itself p.priority
      )

  -- and a claim's number is placed
  pub entry_placed : (e : Spot × Claim) → IsAmong e es → place_at ps e.0.number ≡ None → ⊥
  entry_placed e at none =
      let here = entry_found (λ x. is_eq (spot_cmp e.0 x)) e es at (tie e.0 e.0 (record { queue = refl; priority = refl; number = refl })) in
      true≢false (sym here ∙ are.placed e.0 ∙ ap (λ o. option_map_or (λ (r : Place). (r.queue == e.0.queue) && (r.priority == e.0.priority)) o false) none)

  module _ (spot : Spot) (claim : Claim) (number : spot.number ≡ claim.number) (priority : spot.priority ≡ claim.priority) (queue : spot.queue ≤ length kinds)
      (absent : AllByRecursion (λ (x : Queued). x.claim.number ≡ claim.number → ⊥) (shown_claims kinds es)) where
    absent_entries : AllByRecursion (λ (e : Spot × Claim). e.1.number ≡ claim.number → ⊥) es
    absent_entries = all_entries (λ x. x.claim.number ≡ claim.number → ⊥) absent

    pub no_place : place_at ps spot.number ≡ None
    no_place = by (place_at ps spot.number) refl
      where
        by : (o : Option Place) → place_at ps spot.number ≡ o → o ≡ None
        by None is = refl
        by (Some p) is =
            let s : Spot = record { queue = p.queue; priority = p.priority; number = spot.number } in
            let v = placed_some spot.number p is in
            let e = found_entry (λ (e : Spot × Claim). IsKeyed kinds e × (e.1.number ≡ claim.number → ⊥)) (λ x. is_eq (spot_cmp s x)) v.0 es
            (AllByRecursion-both (IsKeyed kinds) (λ (e : Spot × Claim). e.1.number ≡ claim.number → ⊥) es are.keyed absent_entries) v.1 in
            absurd (e.1.1 (sym e.1.0.number ∙ sym (tied s e.0.0 e.2).number ∙ number))

    pub no_claim : claim_at es spot ≡ None
    no_claim = none_of (claim_at es spot)
        (are.placed spot ∙ ap (λ o. option_map_or (λ (r : Place). (r.queue == spot.queue) && (r.priority == spot.priority)) o false) no_place)

    pub shown_put : (fs : List (Spot × Claim)) → fs ≡ insert_entry spot_cmp es spot claim → shown_claims kinds fs ≡ put queued_cmp (shown_claims kinds es) (shown_entry kinds (spot, claim))
    shown_put fs added =
        ap (λ xs. put_all queued_cmp [] (map (shown_entry kinds) xs)) added
        ∙ shown_insert queued_cmp queued_total (shown_entry kinds) spot_cmp spot claim es []
        (AllByRecursion-weaker (λ e other. other_apart kinds (spot, claim) e (λ same. other (sym same))) es absent_entries) no_claim

    module _ (fs : List (Spot × Claim)) (qs : List (ℕ × Place)) (added : fs ≡ insert_entry spot_cmp es spot claim)
        (claims : (s : Spot) → claim_at fs s ≡ cond (is_eq (spot_cmp spot s)) (Some claim) (claim_at es s))
        (places : (n : ℕ) → place_at qs n ≡ cond (is_eq (nat_cmp spot.number n)) (Some (record { queue = spot.queue; priority = spot.priority })) (place_at ps n)) where
      placed_after : (s : Spot) → is_some (claim_at fs s) ≡ is_placed qs s
      placed_after s = rw (claims s, places s.number) (grind (arith, nat_tests, are.placed s, no_place))

      pub after_put : AreQueues kinds fs qs
      after_put = record {
        keyed = subst (AllByRecursion (IsKeyed kinds)) (sym added)
            (all_insert spot_cmp (IsKeyed kinds) spot claim es (record { number = number; priority = priority; queue = queue }) are.keyed no_claim);
        apart = subst (EachTwo OtherNumber) (sym added)
            (each_insert spot_cmp OtherNumber (λ a b other same. other (sym same)) spot claim es (AllByRecursion-weaker (λ e other same. other (sym same)) es absent_entries) are.apart no_claim);
        placed = placed_after;
      }

  -- ---- one is taken

  abbrev is_other : ℕ → Queued → Bool
  is_other n x = not (x.claim.number == n)

  all_shown : (P : Queued → Type 0) (ds : List (Spot × Claim)) → AllByRecursion (λ e. P (shown_entry kinds e)) ds → AllByRecursion P (shown_claims kinds ds)
  all_shown P ds all = all_put queued_cmp queued_total P (map (shown_entry kinds) ds) [] tt (AllByRecursion-map (λ e. P (shown_entry kinds e)) P (shown_entry kinds) (λ e one. one) ds all)

  -- a number that isn't placed is no claim's
  pub none_taken : (n : ℕ) → place_at ps n ≡ None → shown_claims kinds es ≡ filter (is_other n) (shown_claims kinds es)
  none_taken n none = sym (all_pass (is_other n) (shown_claims kinds es) (all_shown (λ x. is_other n x ≡ true) es
      (AllByRecursion-weaker (λ e two. not_from_false (e.1.number == n) (ne_eqb e.1.number n (λ same. entry_placed e two.0 (ap (place_at ps) (two.1.number ∙ same) ∙ none)))) es
      (AllByRecursion-both (λ d. IsAmong d es) (IsKeyed kinds) es (among_itself es) are.keyed))))

  module _ (n : ℕ) (p : Place) (there : place_at ps n ≡ Some p) (fs : List (Spot × Claim)) (qs : List (ℕ × Place)) where
    abbrev spot_of : Spot
    spot_of = record { queue = p.queue; priority = p.priority; number = n }

    module _ (removed : fs ≡ remove_entry (λ x. is_eq (spot_cmp spot_of x)) es)
        (claims : (s : Spot) → claim_at fs s ≡ cond (is_eq (spot_cmp spot_of s)) None (claim_at es s))
        (places : (m : ℕ) → place_at qs m ≡ cond (is_eq (nat_cmp n m)) None (place_at ps m)) where
      gone_after : (s : Spot) → is_some (claim_at fs s) ≡ is_placed qs s
      gone_after s = rw (claims s, places s.number) (grind (arith, nat_tests, are.placed s, there))

      pub after_take : AreQueues kinds fs qs
      after_take = record {
        keyed = subst (AllByRecursion (IsKeyed kinds)) (sym removed) (all_remove (λ x. is_eq (spot_cmp spot_of x)) (IsKeyed kinds) es are.keyed);
        apart = subst (EachTwo OtherNumber) (sym removed) (each_remove (λ x. is_eq (spot_cmp spot_of x)) OtherNumber es are.apart);
        placed = gone_after;
      }

      pub shown_take : shown_claims kinds fs ≡ filter (is_other n) (shown_claims kinds es)
      shown_take =
          let v = placed_some n p there in
          let one = shown_remove queued_cmp queued_total (shown_entry kinds) OtherNumber (λ a b other same. other (sym same)) (λ a b other. other_apart kinds a b other)
          (λ x. is_eq (spot_cmp spot_of x)) v.0 es [] are.apart v.1 in
          let number : n ≡ one.entry.1.number = (tied spot_of one.entry.0 one.passes).number ∙ (among_has (IsKeyed kinds) one.entry es are.keyed one.among).number in
          ap (shown_claims kinds) removed
          ∙ sym (ap (filter (is_other n)) one.shows
          ∙ filter_put queued_cmp (is_other n) (shown_entry kinds one.entry) (shown_claims kinds (remove_entry (λ x. is_eq (spot_cmp spot_of x)) es))
          (ap (λ v. not v) (ap (λ m. m == n) (sym number) ∙ itself n))
          (all_shown (λ r. queued_cmp (shown_entry kinds one.entry) r ≡ Equal → ⊥) (remove_entry (λ x. is_eq (spot_cmp spot_of x)) es)
          (AllByRecursion-weaker (λ e other. other_apart kinds one.entry e other) (remove_entry (λ x. is_eq (spot_cmp spot_of x)) es) one.others))
          (all_shown (λ r. is_other n r ≡ true) (remove_entry (λ x. is_eq (spot_cmp spot_of x)) es)
          (AllByRecursion-weaker (λ e other. not_from_false (e.1.number == n) (ne_eqb e.1.number n (λ same. other (sym number ∙ sym same)))) (remove_entry (λ x. is_eq (spot_cmp spot_of x)) es) one.others)))
