-- The queues after a call of put or take, as callers see them.
use Rattle.std.proofs.Common.{◌≡◌, ◌∙◌, ◌==◌, ◌≤◌, ◌++◌, ℕ, List, [], ◌∷◌, length, map, arith, cond, not, Option, Some, None, Result, Ok, Err, refl, sym, ap}
use Rattle.std.proofs.Common.{subst, Bool, false, ◌<◌, zero, suc, get_or}
use Rattle.std.specs.Prelude.{OnOk, OnErr, unwrap_or}
use Rattle.farm_pick.proofs.Names.{AllByRecursion, AllByRecursion-weaker, bytes_eq, bytes_eq-Decides, Claim, filter_all, find, found_passes, insert_entry}
use Rattle.farm_pick.proofs.Names.{is_eq, IsTotalOrder, nat_cmp, nat_list_cmp_total, nat_list_eq_equiv, on_total, same_names, text_itself}
use Rattle.std.specs.List.Sorted.{IsStrictlySortedBy}
use Rattle.std.specs.List.{filter, remove}
use Rattle.farm_types.specs.Names.{put}
use Rattle.farm_pick.specs.Queued.{Queued, QueueLists}
use Rattle.farm_pick.specs.Index.{spot_cmp, queued_cmp, kind_at, shown_claims, claim_at, place_at, AreQueues, AreKinds, AreIdle, IsIdle, IsWell, shown_idle}
use Rattle.farm_pick.specs.Index.{TakesOrStays, idle_cmp, named_cmp}
use Rattle.farm_pick.specs.declared.spot.Spot.{Spot}
use Rattle.farm_pick.specs.declared.spot.Place.{Place}
use Rattle.farm_pick.specs.declared.idle.IdleRow.{IdleRow}
use Rattle.farm_types.proofs.Put.{AllByRecursion-put, put_sorted}
use Rattle.std.proofs.lemmas.List.Kept.{IsStrictlySortedBy-filter}
use Rattle.std.proofs.lemmas.Result.{on_err_weaker, on_ok_weaker}
use Rattle.farm_sound.proofs.Lists.{all_fail}
use Rattle.std.specs.declared.cmp.Ordering.TheVariants.{Less}
use Rattle.farm_pick.proofs.Entries.{filter_seen, put_seen, all_pass}
use Rattle.farm_pick.proofs.Keeping.{are_more, kind_more, long, shown_more, no_place, no_claim, after_put, shown_put, none_taken, after_take, shown_take}
use Rattle.std.proofs.lemmas.Bool.{not_from_false}
use Rattle.std.proofs.lemmas.Map.Keys.{Less-from_sorted}

-- ---- the free boards without one of them

module _ (name : List ℕ) where
  abbrev is_other : IdleRow → Bool
  is_other r = not (bytes_eq r.name name)

  -- a row below another has another name
  other_name : (a b : IdleRow) → idle_cmp a b ≡ Less → bytes_eq a.name b.name ≡ false
  other_name a b less = same_names a.name b.name ∙ ap is_eq less

  taken_from : (rows : List IdleRow) (i : ℕ) → IsStrictlySortedBy idle_cmp rows → i < length rows → ((d : IdleRow) → (get_or rows i d).name ≡ name)
      → filter is_other rows ≡ remove rows i
  unfolding IsStrictlySortedBy
  taken_from [] i sorted low here = absurd (omega arith)
  taken_from (r ∷ rows) zero sorted low here = rw (here r, text_itself name) (all_pass is_other rows (AllByRecursion-weaker
      (λ y less. not_from_false (bytes_eq y.name name) (ap (bytes_eq y.name) (sym (here r)) ∙ nat_list_eq_equiv.symm y.name r.name ∙ other_name r y less)) rows sorted.0))
  taken_from (r ∷ rows) (suc i) sorted low here =
      let less : idle_cmp r (get_or rows i r) ≡ Less = Less-from_sorted idle_cmp (r ∷ rows) 0 (suc i) r sorted (omega arith) low in
      let other : bytes_eq r.name name ≡ false = ap (bytes_eq r.name) (sym (here r)) ∙ other_name r (get_or rows i r) less in
      rw other (ap (λ rs. r ∷ rs) (taken_from rows i sorted.1 (omega arith) here))

  -- the row that is found is the only one of its name
  pub taken_at : (rows : List IdleRow) (i : ℕ) → IsStrictlySortedBy idle_cmp rows → i < length rows
      → ((d : IdleRow) → find (λ r. bytes_eq r.name name) rows ≡ Some (get_or rows i d)) → remove rows i ≡ filter is_other rows
  taken_at rows i sorted low found =
      sym (taken_from rows i sorted low (λ d. (bytes_eq-Decides (get_or rows i d).name name).0 (found_passes (λ r. bytes_eq r.name name) (get_or rows i d) rows (found d))))

  -- and where none is found all have other names
  pub none_at : (rows : List IdleRow) → find (λ r. bytes_eq r.name name) rows ≡ None → rows ≡ filter is_other rows
  none_at rows none = sym (all_pass is_other rows (AllByRecursion-weaker (λ r differs. not_from_false (bytes_eq r.name name) differs) rows (all_fail (λ r. bytes_eq r.name name) rows none)))

abbrev shows : List (List ℕ) → List (Spot × Claim) → List IdleRow → QueueLists
shows kinds es rows = record { claims = shown_claims kinds es; boards = map (shown_idle kinds) rows }

idle_total : IsTotalOrder idle_cmp
idle_total = on_total (λ (r : IdleRow). r.name) nat_list_cmp_total

-- the free boards, with some types more
idle_more : (kinds more : List (List ℕ)) (rows : List IdleRow) → AllByRecursion (IsIdle kinds) rows → map (shown_idle (kinds ++ more)) rows ≡ map (shown_idle kinds) rows
idle_more kinds more [] all = refl
idle_more kinds more (r ∷ rows) all = rw (kind_more kinds more r.queue all.0.high) (ap (λ xs. shown_idle kinds r ∷ xs) (idle_more kinds more rows all.1))

each_more : (kinds more : List (List ℕ)) (rows : List IdleRow) → AllByRecursion (IsIdle kinds) rows → AllByRecursion (IsIdle (kinds ++ more)) rows
each_more kinds more rows all = AllByRecursion-weaker (λ r i. record { low = i.low; high = (let l = long kinds more in omega (arith, l, i.high)) }) rows all

module _ (kinds : List (List ℕ)) (es : List (Spot × Claim)) (ps : List (ℕ × Place)) (rows : List IdleRow) (well : IsWell kinds es ps rows) where
  are : AreQueues kinds es ps
  are = well.queues

  pub took : (n : ℕ) (fs : List (Spot × Claim)) (qs : List (ℕ × Place)) → TakesOrStays es fs ps qs n (place_at ps n)
      → IsWell kinds fs qs rows × (shows kinds fs rows ≡ record { claims = filter (λ x. not (x.claim.number == n)) (shown_claims kinds es); boards = map (shown_idle kinds) rows })
  took n fs qs takes = by (place_at ps n) refl takes
    where
      by : (o : Option Place) → place_at ps n ≡ o → TakesOrStays es fs ps qs n o
          → IsWell kinds fs qs rows × (shows kinds fs rows ≡ record { claims = filter (λ x. not (x.claim.number == n)) (shown_claims kinds es); boards = map (shown_idle kinds) rows })
      by None none stays = (
        record { queues = subst (λ q. AreQueues kinds fs q) (sym stays.1) (subst (λ f. AreQueues kinds f ps) (sym stays.0) are); free = well.free },
        ap (λ cs. record { claims = cs; boards = map (shown_idle kinds) rows }) (ap (shown_claims kinds) stays.0 ∙ none_taken kinds es ps are n none),
      )
      by (Some p) is takes = (
        record { queues = after_take kinds es ps are n p is fs qs takes.removed takes.claims takes.places; free = well.free },
        ap (λ cs. record { claims = cs; boards = map (shown_idle kinds) rows }) (shown_take kinds es ps are n p is fs qs takes.removed takes.claims takes.places),
      )

  -- a board is taken
  module _ (name : List ℕ) (news : List IdleRow) (is : news ≡ filter (λ r. not (bytes_eq r.name name)) rows) where
    pub taken_well : IsWell kinds es ps news
    taken_well = record {
      queues = well.queues;
      free = subst (AreIdle kinds) (sym is) (record {
        apart = well.free.apart;
        each = AllByRecursion-weaker (λ r two. two.0) (filter (λ r. not (bytes_eq r.name name)) rows) (filter_all (IsIdle kinds) (λ r. not (bytes_eq r.name name)) rows well.free.each);
        sorted = IsStrictlySortedBy-filter idle_cmp (λ r. not (bytes_eq r.name name)) rows well.free.sorted;
      });
    }

    pub taken_shown : (seen : QueueLists) → shows kinds es rows ≡ seen → shows kinds es news ≡ record { claims = seen.claims; boards = filter (λ b. not (bytes_eq b.name name)) seen.boards }
    taken_shown seen view =
        ap (shows kinds es) is ∙ ap (λ bs. record { claims = shown_claims kinds es; boards = bs }) (filter_seen (shown_idle kinds) (λ b. not (bytes_eq b.name name)) rows)
        ∙ ap (λ (l : QueueLists). record { claims = l.claims; boards = filter (λ b. not (bytes_eq b.name name)) l.boards }) view

  -- some types more
  module _ (more_kinds : List (List ℕ)) (grows : (more : List (List ℕ)) × (more_kinds ≡ kinds ++ more)) (apart : AreKinds kinds → AreKinds more_kinds) where
    idle_grown : AreIdle more_kinds rows
    idle_grown = record { apart = apart well.free.apart; each = subst (λ ks. AllByRecursion (IsIdle ks) rows) (sym grows.1) (each_more kinds grows.0 rows well.free.each); sorted = well.free.sorted }

    boards_grown : map (shown_idle more_kinds) rows ≡ map (shown_idle kinds) rows
    boards_grown = ap (λ ks. map (shown_idle ks) rows) grows.1 ∙ idle_more kinds grows.0 rows well.free.each

    grown : AreQueues more_kinds es ps
    grown = subst (λ ks. AreQueues ks es ps) (sym grows.1) (are_more kinds grows.0 es ps are)

    shown_grown : shown_claims more_kinds es ≡ shown_claims kinds es
    shown_grown = ap (λ ks. shown_claims ks es) grows.1 ∙ shown_more kinds grows.0 es are.keyed

    both_grown : shows more_kinds es rows ≡ shows kinds es rows
    both_grown = ap (λ cs. record { claims = cs; boards = map (shown_idle more_kinds) rows }) shown_grown ∙ ap (λ bs. record { claims = shown_claims kinds es; boards = bs }) boards_grown

    pub refused_kind : {A E : Type 0} (r : Result A E) (seen : QueueLists) → shows kinds es rows ≡ seen → OnErr r (shows more_kinds es rows ≡ seen)
    refused_kind (Ok x) seen is = tt
    refused_kind (Err e) seen is = both_grown ∙ is

    module _ (row : IdleRow) (kind : List ℕ) (low : 1 ≤ row.queue) (queue : (row.queue ≤ length more_kinds) × (kind_at more_kinds row.queue ≡ Some kind))
        {A E : Type 0} (r : Result A E) (news : List IdleRow) (added : OnOk r (news ≡ put idle_cmp rows row))
        (stay : OnErr r (news ≡ rows)) where
      pub board_well : IsWell more_kinds es ps news
      board_well = record { queues = grown; free = by r added stay }
        where
          by : (o : Result A E) → OnOk o (news ≡ put idle_cmp rows row) → OnErr o (news ≡ rows) → AreIdle more_kinds news
          by (Ok x) is stays = record {
            apart = idle_grown.apart;
            each = subst (AllByRecursion (IsIdle more_kinds)) (sym is) (AllByRecursion-put idle_cmp idle_total row (IsIdle more_kinds) (record { low = low; high = queue.0 }) rows idle_grown.each);
            sorted = subst (IsStrictlySortedBy idle_cmp) (sym is) (put_sorted idle_cmp idle_total row rows well.free.sorted);
          }
          by (Err x) is stays = subst (AreIdle more_kinds) (sym stays) idle_grown

      pub board_ok : (seen : QueueLists) → shows kinds es rows ≡ seen → OnOk r (shows more_kinds es news ≡ record { claims = seen.claims; boards = put named_cmp seen.boards (record { name = row.name; kind = kind }) })
      board_ok seen view = on_ok_weaker r (λ is.
          ap (shows more_kinds es) is
          ∙ ap (λ bs. record { claims = shown_claims more_kinds es; boards = bs }) (put_seen (shown_idle more_kinds) idle_cmp named_cmp (λ a b. refl) rows row
          ∙ ap (λ k. put named_cmp (map (shown_idle more_kinds) rows) (record { name = row.name; kind = unwrap_or k [] })) queue.1)
          ∙ ap (λ (l : QueueLists). record { claims = l.claims; boards = put named_cmp l.boards (record { name = row.name; kind = kind }) }) (both_grown ∙ view)) added

      pub board_err : (seen : QueueLists) → shows kinds es rows ≡ seen → OnErr r (shows more_kinds es news ≡ seen)
      board_err seen view = on_err_weaker r (λ is. ap (shows more_kinds es) is ∙ both_grown ∙ view) stay

    module _ (spot : Spot) (claim : Claim) (seen : QueueLists) (view : shows kinds es rows ≡ seen) (number : spot.number ≡ claim.number) (priority : spot.priority ≡ claim.priority)
        (kind : Option (List ℕ)) (queue : (spot.queue ≤ length more_kinds) × (kind_at more_kinds spot.queue ≡ kind))
        (absent : AllByRecursion (λ (x : Queued). x.claim.number ≡ claim.number → ⊥) seen.claims) where
      absent_grown : AllByRecursion (λ (x : Queued). x.claim.number ≡ claim.number → ⊥) (shown_claims more_kinds es)
      absent_grown = subst (AllByRecursion (λ (x : Queued). x.claim.number ≡ claim.number → ⊥)) (sym (shown_grown ∙ ap (λ (l : QueueLists). l.claims) view)) absent

      pub no_claim_there : claim_at es spot ≡ None
      no_claim_there = no_claim more_kinds es ps grown spot claim number priority (queue.0) absent_grown

      pub no_place_there : place_at ps spot.number ≡ None
      no_place_there = no_place more_kinds es ps grown spot claim number priority (queue.0) absent_grown

      module _ {A E : Type 0} (r : Result A E) (fs : List (Spot × Claim)) (qs : List (ℕ × Place))
          (added : OnOk r (fs ≡ insert_entry spot_cmp es spot claim))
          (claims : OnOk r ((s : Spot) → claim_at fs s ≡ cond (is_eq (spot_cmp spot s)) (Some claim) (claim_at es s)))
          (places : OnOk r ((n : ℕ) → place_at qs n ≡ cond (is_eq (nat_cmp spot.number n)) (Some (record { queue = spot.queue; priority = spot.priority })) (place_at ps n)))
          (stay : OnErr r (fs ≡ es)) (stays : OnErr r (qs ≡ ps)) where
        pub after_either : IsWell more_kinds fs qs rows
        after_either = record { queues = by r added claims places stay stays; free = idle_grown }
          where
            by : (o : Result A E) → OnOk o (fs ≡ insert_entry spot_cmp es spot claim)
                → OnOk o ((s : Spot) → claim_at fs s ≡ cond (is_eq (spot_cmp spot s)) (Some claim) (claim_at es s))
                → OnOk o ((n : ℕ) → place_at qs n ≡ cond (is_eq (nat_cmp spot.number n)) (Some (record { queue = spot.queue; priority = spot.priority })) (place_at ps n))
                → OnErr o (fs ≡ es) → OnErr o (qs ≡ ps) → AreQueues more_kinds fs qs
            by (Ok x) a b c d e = after_put more_kinds es ps grown spot claim number priority (queue.0) absent_grown fs qs a b c
            by (Err x) a b c d e = subst (λ q. AreQueues more_kinds fs q) (sym e) (subst (λ f. AreQueues more_kinds f ps) (sym d) grown)

        pub put_ok : OnOk r (shows more_kinds fs rows ≡ record { claims = put queued_cmp seen.claims (record { claim = claim; kind = kind }); boards = seen.boards })
        put_ok = on_ok_weaker r (λ is.
            ap (λ cs. record { claims = cs; boards = map (shown_idle more_kinds) rows }) (shown_put more_kinds es ps grown spot claim number priority (queue.0) absent_grown fs is
            ∙ ap (λ xs. put queued_cmp xs (record { claim = claim; kind = kind_at more_kinds spot.queue })) shown_grown
            ∙ ap (λ k. put queued_cmp (shown_claims kinds es) (record { claim = claim; kind = k })) (queue.1))
            ∙ ap (λ bs. record { claims = put queued_cmp (shown_claims kinds es) (record { claim = claim; kind = kind }); boards = bs }) boards_grown
            ∙ ap (λ (l : QueueLists). record { claims = put queued_cmp l.claims (record { claim = claim; kind = kind }); boards = l.boards }) view) added

        pub put_err : OnErr r (shows more_kinds fs rows ≡ seen)
        put_err = on_err_weaker r (λ is. ap (λ f. shows more_kinds f rows) is ∙ both_grown ∙ view) stay
