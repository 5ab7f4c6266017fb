-- Trying alone the claims that may change the farm serves just what trying all of them serves.
use Rattle.std.proofs.Common.{[], ◌&&◌, ◌+◌, ◌==◌, ◌<◌, ◌≤◌, ◌∙◌, ◌∷◌, ◌≡◌, Bool, List, None, Option, Some, ap, arith, cond, false, inl, inr, length, nat_le, not}
use Rattle.std.proofs.Common.{refl, subst, suc, sym, true, zero, ℕ}
use mathlib.Core.Bool.{true≢false}
use Rattle.farm_pick.proofs.Names.{all_true, AllByRecursion, AllByRecursion-both, AllByRecursion-weaker, among_has, and-false, BoardRow, both, by_cases}
use Rattle.farm_pick.proofs.Names.{bytes_eq, cases_Bool, filter_all, find, fold, found_passes, Holder, IsClaim, itself, JobRow, JobState}
use Rattle.std.specs.List.Sorted.{IsStrictlySortedBy}
use Rattle.farm_pick.proofs.Names.{length-map, nat_tests, none_pass, option_map_or, queue_claims, queue_sorted, same_number, State, Want}
use Rattle.std.specs.List.{filter, zip}
use Rattle.std.proofs.lemmas.Bool.{not-true}
use Rattle.std.proofs.lemmas.List.{nil_from_length}
use Rattle.std.proofs.lemmas.List.Sums.{fold-append}
use Rattle.farm_types.specs.Names.{board_cmp, change_where, Claimed, collect, EachTwo, Farm, give, give_group, give_member, give_res, held_board, is_free}
use Rattle.farm_types.specs.Names.{is_group, IsAmong, IsSound, least, may_collect, members, pass_over, queue, serve, serve_all, Served}
use Rattle.farm_sound.proofs.Claims.{IsOpen, claim_of_open, open_of_claim}
use Rattle.farm_sound.proofs.Lists.{filter_back, length_filter}
use Rattle.farm_sound.proofs.Queue.{among_queue}
use Rattle.farm_sound.proofs.Serve.{IsOpen-give, IsSound-give, give_clock, over}
use Rattle.farm_sound.proofs.Tests.{both_false}
use Rattle.farm_sound.proofs.Unmet.{IsUnmet, IsUnmet-give}
use Rattle.farm_sound.proofs.Where.{sorted_map}
use Rattle.farm_pick.specs.Follow.{queue_without}
use Rattle.farm_pick.specs.Merged.{comes_after, first_tried, may_act, merged_pass, next_lent, next_tried, rest}
use Rattle.farm_pick.proofs.Closed.{closed_is_unmet}
use Rattle.farm_pick.proofs.Collects.{collecting_follows}
use Rattle.farm_pick.proofs.Filling.{numbers_differ, one_claim}
use Rattle.farm_pick.proofs.Giving.{giving_follows}
use Rattle.farm_pick.proofs.Sieved.{found_there}
use Rattle.farm_pick.proofs.Later.{Continues, after_itself, after_more, among_later, later, later_none, leads_nowhere, leads_on, less_from}

-- ---- a claim has a want

some_pass : (test other : JobRow → Bool) (j : JobRow) (jobs : List JobRow) → find other jobs ≡ Some j → test j ≡ true → 1 ≤ length (filter test jobs)
some_pass test other j [] found is = cc
some_pass test other j (k ∷ jobs) found is = grind (arith, some_pass test other j jobs)

pub some_want : (F : Farm) (c : Claimed) → IsClaim F c → 1 ≤ length c.wants
some_want F c (inl (r, is)) = let one : length c.wants ≡ 1 = ap (λ (d : Claimed). length d.wants) is.2 in omega (arith, one)
some_want F c (inr (j, is)) =
    let same : length c.wants ≡ length (members F j.group) = ap (λ (d : Claimed). length d.wants) is.2 ∙ length-map (members F j.group) (λ m. m.want) in
    let some = some_pass (λ m. m.group == j.group) (λ m. m.number == j.number) j F.jobs is.0 (itself j.group) in
    omega (arith, same, some)

-- ---- what trying a claim leaves

-- no claim but those of a number fails the test
filter_without : (p : Claimed → Bool) (n : ℕ) (cs : List Claimed) → AllByRecursion (λ d. d.number ≡ n → p d ≡ false) cs → filter p (queue_without n cs) ≡ filter p cs
filter_without p n [] all = refl
filter_without p n (d ∷ cs) all = grind (arith, nat_tests, filter_without p n cs all.1, all.0)

pub record Leaves (t : ℕ) (s : Served) (c : Claimed) (u : Served) : Type 0 where
  pub low : t ≤ u.farm.clock
  pub sound : IsSound u.farm
  -- the claims that are open stay so, but the one that was tried
  pub opens : (d : Claimed) → (c ≡ d → ⊥) → IsOpen s.farm d → IsOpen u.farm d
  -- of the queue it leaves those that pass a test which it fails
  pub keeps : (p : Claimed → Bool) → p c ≡ false → filter p (queue u.farm) ≡ filter p (queue s.farm)

pub leaves : (t : ℕ) (s : Served) (c : Claimed) → t ≤ s.farm.clock → IsSound s.farm → IsOpen s.farm c → Leaves t s c (serve t s c)
leaves t s c low sound is = by (least s.farm.boards (is_free s.farm.types) c.wants) refl
  where
    claim : IsClaim s.farm c
    claim = claim_of_open s.farm c is

    among : IsAmong c (queue s.farm)
    among = among_queue s.farm sound.steady c claim

    fails : (p : Claimed → Bool) → p c ≡ false → AllByRecursion (λ d. d.number ≡ c.number → p d ≡ false) (queue s.farm)
    fails p none = AllByRecursion-weaker (λ d has same. ap p (one_claim s.farm sound.steady d c has claim same) ∙ none) (queue s.farm)
        (queue_claims s.farm sound.steady)

    by : (o : Option (List BoardRow)) → least s.farm.boards (is_free s.farm.types) c.wants ≡ o
        → Leaves t s c (option_map_or (λ bs. record { farm = give s.farm c bs t; claims = s.claims + 1 }) o (record { farm = pass_over s.farm c; claims = s.claims }))
    by None met =
        let passed = over s.farm c is sound in
        record {
          low = (let same = passed.clock in omega (arith, low, same));
          sound = passed.sound;
          opens = passed.opens;
          keeps = λ p none. ap (filter p) (collecting_follows s.farm sound c among);
        }
    by (Some bs) met = record {
      low = omega (arith, low, give_clock s.farm c bs t);
      sound = IsSound-give s.farm c bs t is met low sound;
      opens = λ d apart has. IsOpen-give s.farm c d bs t is has apart met sound;
      keeps = λ p none. ap (filter p) (giving_follows s.farm c bs t sound low among met).0 ∙ filter_without p c.number (queue s.farm) (fails p none);
    }

-- one claim that is served is one less in the queue
length_without : (c : Claimed) (cs : List Claimed) → IsAmong c cs → 1 + length (queue_without c.number cs) ≤ length cs
length_without c [] at = absurd at
length_without c (d ∷ cs) at = grind (arith, nat_tests, length_without c cs, length_filter (λ (e : Claimed). not (e.number == c.number)) cs)

pub served_few : (t : ℕ) (s : Served) (c : Claimed) → IsSound s.farm → t ≤ s.farm.clock → IsAmong c (queue s.farm)
    → (serve t s c).claims + length (queue (serve t s c).farm) ≤ s.claims + length (queue s.farm)
served_few t s c sound low at = grind (arith, collecting_follows s.farm sound c at, giving_follows s.farm c, length_without c (queue s.farm) at)

-- ---- claims that are passed over

pub unserved : (t : ℕ) (s : Served) (c : Claimed) → least s.farm.boards (is_free s.farm.types) c.wants ≡ None → may_collect s.farm c ≡ false → serve t s c ≡ s
unserved t s c none out = rw (none, out) refl

-- the claim of a group is passed over, as it went first
abbrev pub serve_but : ℕ → ℕ → Served → Claimed → Served
serve_but former t s c = cond (is_group former c) s (serve t s c)

skips : (former t : ℕ) (s : Served) → IsSound s.farm
    → AllByRecursion (λ d. (not (is_group former d) && may_act s.farm d) ≡ false → serve_but former t s d ≡ s) (queue s.farm)
skips former t s sound = grind (arith, AllByRecursion-weaker, queue_claims s.farm sound.steady, both_false, unserved t s, closed_is_unmet s.farm sound.steady.boards_sorted, some_want s.farm)

-- all claims but that of a group
fold_but : (former t : ℕ) (last : Option Claimed) (s : Served) (cs : List Claimed)
    → fold (serve_but former t) s (later last cs) ≡ fold (serve t) s (filter (λ c. comes_after last c && not (is_group former c)) cs)
fold_but former t last s [] = refl
fold_but former t last s (c ∷ cs) = elim (cases_Bool (comes_after last c)) [
  | inl after ↦ elim (cases_Bool (is_group former c)) [
    | inl mine ↦ rw (after, mine) (ap (λ v. fold (serve_but former t) (cond v s (serve t s c)) (later last cs)) mine ∙ fold_but former t last s cs)
    | inr other ↦ rw (after, other) (ap (λ v. fold (serve_but former t) (cond v s (serve t s c)) (later last cs)) other ∙ fold_but former t last (serve t s c) cs)
  ]
  | inr not_after ↦ rw not_after (fold_but former t last s cs)
]

-- ---- all claims in turn

-- the claims that are left may be given boards
pub record IsTrying (former t : ℕ) (s : Served) (last : Option Claimed) : Type 0 where
  pub low : t ≤ s.farm.clock
  pub sound : IsSound s.farm
  pub coming : AllByRecursion (IsOpen s.farm) (rest former last s.farm)

-- a claim of the group, or of another, is behind
pub record Goes (former t : ℕ) (s u : Served) (last : Option Claimed) (c : Claimed) : Type 0 where
  pub on : IsTrying former t u (Some c)
  pub folds : fold (serve t) s (rest former last s.farm) ≡ fold (serve t) u (rest former (Some c) u.farm)
  pub fewer : length (later (Some c) (queue u.farm)) < length (later last (queue s.farm))

-- those behind a claim that is left are left
rest_behind : (former : ℕ) (F : Farm) (last : Option Claimed) (c : Claimed) → comes_after last c ≡ true → AllByRecursion (IsOpen F) (rest former last F)
    → AllByRecursion (IsOpen F) (rest former (Some c) F)
rest_behind former F last c after all = grind (arith, AllByRecursion-weaker, both, filter_all (λ d. (comes_after last d && not (is_group former d)) ≡ true → IsOpen F d) (λ d. comes_after (Some c) d && not (is_group former d)) (queue F) (filter_back (IsOpen F) (λ d. comes_after last d && not (is_group former d)) (queue F) all), filter_back (IsOpen F) (λ d. comes_after last d && not (is_group former d)) (queue F) all, after_more last c, less_from c)

-- what is found stands in the list
pub found_among : (p : Claimed → Bool) (c : Claimed) (cs : List Claimed) → find p cs ≡ Some c → IsAmong c cs
found_among p c cs is = found_there p c cs is

-- claims that fail a test are passed over
abbrev pub Skips : ℕ → ℕ → Served → (Claimed → Bool) → Type 0
Skips former t s test = AllByRecursion (λ d. (not (is_group former d) && test d) ≡ false → serve_but former t s d ≡ s) (queue s.farm)

module _ (former t : ℕ) (s : Served) (last : Option Claimed) (c : Claimed) (trying : IsTrying former t s last) (test : Claimed → Bool) (skip : Skips former t s test) where
  abbrev is_left : Claimed → Bool
  is_left d = comes_after (Some c) d && not (is_group former d)

  -- one claim more is tried
  pub tried_by : find (λ d. comes_after last d && (not (is_group former d) && test d)) (queue s.farm) ≡ Some c → IsOpen s.farm c × Goes former t s (serve t s c) last c
  tried_by next = (
    open_claim,
    record {
      on = record { low = after.low; sound = after.sound; coming = subst (AllByRecursion (IsOpen (serve t s c).farm)) (sym same) coming };
      folds = sym (fold_but former t last s (queue s.farm)) ∙ on.folds
          ∙ ap (λ v. fold (serve_but former t) (cond v s (serve t s c)) (later (Some c) (queue s.farm))) other
          ∙ fold_but former t (Some c) (serve t s c) (queue s.farm) ∙ ap (fold (serve t) (serve t s c)) (sym same);
      fewer = (let l : length (later (Some c) (queue (serve t s c).farm)) ≡ length (later (Some c) (queue s.farm)) =
          ap length (after.keeps (comes_after (Some c)) (after_itself c)) in omega (arith, l, on.fewer));
    },
  )
    where
      passes : (comes_after last c ≡ true) × ((not (is_group former c) && test c) ≡ true)
      passes = both (comes_after last c) (not (is_group former c) && test c)
          (found_passes (λ d. comes_after last d && (not (is_group former d) && test d)) c (queue s.farm) next)

      differs : not (is_group former c) ≡ true
      differs = (both (not (is_group former c)) (test c) passes.1).0

      other : is_group former c ≡ false
      other = not-true (is_group former c) differs

      open_claim : IsOpen s.farm c
      open_claim = among_has (IsOpen s.farm) c (rest former last s.farm) trying.coming
          (among_later (λ d. comes_after last d && not (is_group former d)) c (queue s.farm)
          (found_among (λ d. comes_after last d && (not (is_group former d) && test d)) c (queue s.farm) next) (λ i. passes.0 i && differs i))

      after : Leaves t s c (serve t s c)
      after = leaves t s c trying.low trying.sound open_claim

      on : Continues (serve_but former t) s (λ d. not (is_group former d) && test d) last c (queue s.farm)
      on = leads_on (serve_but former t) s (λ d. not (is_group former d) && test d) last c (queue s.farm) (queue_sorted s.farm) skip next

      same : rest former (Some c) (serve t s c).farm ≡ rest former (Some c) s.farm
      same = after.keeps is_left (ap (λ v. v && not (is_group former c)) (after_itself c))

      coming : AllByRecursion (IsOpen (serve t s c).farm) (rest former (Some c) s.farm)
      coming = AllByRecursion-weaker (λ d two. after.opens d (differ d two.1.1) two.0) (rest former (Some c) s.farm)
          (AllByRecursion-both (IsOpen s.farm) (λ d. Unit {0} × (is_left d ≡ true)) (rest former (Some c) s.farm)
          (rest_behind former s.farm last c passes.0 trying.coming) (filter_all (λ _. Unit {0}) is_left (queue s.farm) (all_true (queue s.farm))))
        where
          differ : (d : Claimed) → is_left d ≡ true → c ≡ d → ⊥
          differ d left is = true≢false (sym left ∙ ap is_left (sym is) ∙ ap (λ v. v && not (is_group former c)) (after_itself c))

  -- the claim of the group that went first is passed over
  pub passed_by : find (λ d. comes_after last d && test d) (queue s.farm) ≡ Some c → is_group former c ≡ true → Goes former t s s last c
  passed_by next is = record {
    on = record {
      low = trying.low;
      sound = trying.sound;
      coming = rest_behind former s.farm last c
          (both (comes_after last c) (test c) (found_passes (λ d. comes_after last d && test d) c (queue s.farm) next)).0 trying.coming;
    };
    folds = sym (fold_but former t last s (queue s.farm)) ∙ on.folds
        ∙ ap (λ v. fold (serve_but former t) (cond v s (serve t s c)) (later (Some c) (queue s.farm))) is
        ∙ fold_but former t (Some c) s (queue s.farm);
    fewer = on.fewer;
  }
    where
      on : Continues (serve_but former t) s test last c (queue s.farm)
      on = leads_on (serve_but former t) s test last c (queue s.farm) (queue_sorted s.farm)
          (AllByRecursion-weaker (λ d skips out. skips (ap (λ v. not (is_group former d) && v) out ∙ and-false (not (is_group former d)))) (queue s.farm) skip) next

-- none is left to try
pub none_by : (former t : ℕ) (s : Served) (last : Option Claimed) (test : Claimed → Bool) → Skips former t s test
    → find (λ d. comes_after last d && (not (is_group former d) && test d)) (queue s.farm) ≡ None → fold (serve t) s (rest former last s.farm) ≡ s
none_by former t s last test skip none =
    sym (fold_but former t last s (queue s.farm)) ∙ leads_nowhere (serve_but former t) s (λ d. not (is_group former d) && test d) last (queue s.farm) skip none

-- of the claims that may change the farm
module _ (former t : ℕ) (s : Served) (last : Option Claimed) (c : Claimed) (trying : IsTrying former t s last) where
  pub tried : next_tried former s.farm last ≡ Some c → IsOpen s.farm c × Goes former t s (serve t s c) last c
  tried = tried_by former t s last c trying (may_act s.farm) (skips former t s trying.sound)

  pub passed : next_lent s.farm last ≡ Some c → is_group former c ≡ true → Goes former t s s last c
  passed = passed_by former t s last c trying (may_act s.farm) (skips former t s trying.sound)

pub none_tried : (former t : ℕ) (s : Served) (last : Option Claimed) → IsSound s.farm → next_tried former s.farm last ≡ None
    → fold (serve t) s (rest former last s.farm) ≡ s
none_tried former t s last sound = none_by former t s last (may_act s.farm) (skips former t s sound)

-- ---- the first part of a pass

-- a group has one claim at most
pub one_group : (g : ℕ) (cs : List Claimed) → EachTwo (λ a b. a.number ≡ b.number → ⊥) cs
    → filter (is_group g) cs ≡ option_map_or (λ c. c ∷ []) (find (is_group g) cs) []
one_group g [] apart = refl
one_group g (d ∷ cs) apart = grind (arith, one_group g cs apart.1, none_pass (is_group g) cs, AllByRecursion-weaker)

module _ (F : Farm) (group t : ℕ) (sound : IsSound F) (none : F.collector ≡ 0) (low : t ≤ F.clock) where
  abbrev start : Served
  start = record { farm = F; claims = 0 }

  -- the pass goes on from here with the claims that are left
  pub record Begins (s : Served) : Type 0 where
    pub on : IsTrying group t s None
    pub folds : serve_all F group t ≡ fold (serve t) s (rest group None s.farm)
    pub few : s.claims + length (queue s.farm) ≤ length (queue F)

  are_open : AllByRecursion (IsOpen F) (queue F)
  are_open = AllByRecursion-weaker (open_of_claim F none sound.collecting) (queue F) (queue_claims F sound.steady)

  begin : (o : Option Claimed) → find (is_group group) (queue F) ≡ o
      → serve_all F group t ≡ fold (serve t) (fold (serve t) start (option_map_or (λ c. c ∷ []) o [])) (rest group None F)
  begin o found =
      fold-append (serve t) start (filter (is_group group) (queue F)) (filter (λ c. not (is_group group c)) (queue F))
      ∙ ap (λ cs. fold (serve t) (fold (serve t) start cs) (rest group None F))
      (one_group group (queue F) (numbers_differ F sound) ∙ ap (λ o. option_map_or (λ c. c ∷ []) o []) found)

  -- where it is no claim
  pub begins_without : find (is_group group) (queue F) ≡ None → Begins start
  begins_without found = record {
    on = record {
      low = low;
      sound = sound;
      coming = AllByRecursion-weaker (λ d two. two.0) (rest group None F) (filter_all (IsOpen F) (λ d. not (is_group group d)) (queue F) are_open);
    };
    folds = begin None found;
    few = omega arith;
  }

  -- and where it is one
  pub begins_with : (c : Claimed) → find (is_group group) (queue F) ≡ Some c → IsAmong c (queue F) × Begins (serve t start c)
  begins_with c found = (
    among,
    record {
      on = record {
        low = after.low;
        sound = after.sound;
        coming = subst (AllByRecursion (IsOpen (serve t start c).farm)) (sym same)
            (AllByRecursion-weaker (λ d two. after.opens d (λ at. true≢false (sym two.1 ∙ ap others (sym at) ∙ own)) two.0) (rest group None F)
            (filter_all (IsOpen F) others (queue F) are_open));
      };
      folds = begin (Some c) found ∙ ap (fold (serve t) (serve t start c)) (sym same);
      few = (let few = served_few t start c sound low among in omega (arith, few));
    },
  )
    where
      others : Claimed → Bool
      others d = not (is_group group d)

      own : others c ≡ false
      own = ap not (found_passes (is_group group) c (queue F) found)

      among : IsAmong c (queue F)
      among = found_among (is_group group) c (queue F) found

      after : Leaves t start c (serve t start c)
      after = leaves t start c low sound (among_has (IsOpen F) c (queue F) are_open among)

      same : rest group None (serve t start c).farm ≡ rest group None F
      same = after.keeps others own

-- ---- a pass that tries them alone

merged_on : (n former t : ℕ) (s : Served) (last : Option Claimed) → IsTrying former t s last → length (later last (queue s.farm)) ≤ n
    → merged_pass former n t s last ≡ fold (serve t) s (rest former last s.farm)
merged_on zero former t s last trying few =
    sym (ap (fold (serve_but former t) s) (nil_from_length (later last (queue s.farm)) (omega arith))) ∙ fold_but former t last s (queue s.farm)
merged_on (suc n) former t s last trying few = grind (arith, merged_on n former t, none_tried former t s last trying.sound, tried former t s last)

pub merging_serves : (F : Farm) (group t n : ℕ) → IsSound F → F.collector ≡ 0 → t ≤ F.clock → length (queue F) ≤ n
    → merged_pass group n t (first_tried group t (record { farm = F; claims = 0 })) None ≡ serve_all F group t
merging_serves F group t n sound none low few = by (find (is_group group) (queue F)) refl
  where
    on : (s : Served) → Begins F group t sound none low s → merged_pass group n t s None ≡ serve_all F group t
    on s begins =
        merged_on n group t s None begins.on
        (let same : length (later None (queue s.farm)) ≡ length (queue s.farm) = ap length (later_none (queue s.farm)) in omega (arith, same, begins.few, few))
        ∙ sym begins.folds

    by : (o : Option Claimed) → find (is_group group) (queue F) ≡ o
        → merged_pass group n t (option_map_or (λ c. serve t (record { farm = F; claims = 0 }) c) o (record { farm = F; claims = 0 })) None ≡ serve_all F group t
    by None found = on (record { farm = F; claims = 0 }) (begins_without F group t sound none low found)
    by (Some c) found = on (serve t (record { farm = F; claims = 0 }) c) (begins_with F group t sound none low c found).1

-- ---- wants that were found unmet

held_sorted : (h : Holder) (name : List ℕ) (bs : List BoardRow) → IsStrictlySortedBy board_cmp bs
    → IsStrictlySortedBy board_cmp (change_where (λ b. bytes_eq b.name name) (held_board h State.Reserved) bs)
held_sorted h name bs sorted = sorted_map board_cmp (λ b. cond (bytes_eq b.name name) (held_board h State.Reserved b) b) (λ a b. grind arith) bs sorted

members_sorted : (ps : List (JobRow × BoardRow)) (F : Farm) → IsStrictlySortedBy board_cmp F.boards
    → IsStrictlySortedBy board_cmp (fold (give_member JobState.Scheduled) F ps).boards
members_sorted [] F sorted = sorted
members_sorted (p ∷ ps) F sorted =
    members_sorted ps (give_member JobState.Scheduled F (p.0, p.1)) (held_sorted (Holder.Job p.0.number) p.1.name F.boards sorted)

res_sorted : (F : Farm) (n : ℕ) (bs : List BoardRow) (t : ℕ) → IsStrictlySortedBy board_cmp F.boards → IsStrictlySortedBy board_cmp (give_res F n bs t).boards
res_sorted F n [] t sorted = sorted
res_sorted F n (b ∷ bs) t sorted = held_sorted (Holder.Res n) b.name F.boards sorted

give_sorted : (F : Farm) (c : Claimed) (bs : List BoardRow) (t : ℕ) → IsStrictlySortedBy board_cmp F.boards → IsStrictlySortedBy board_cmp (give F c bs t).boards
give_sorted F c bs t sorted = by_cases (λ (G : Farm). IsStrictlySortedBy board_cmp G.boards) c.reservation (give_res F c.number bs t) (give_group F c.number bs)
    (λ _. res_sorted F c.number bs t sorted) (λ _. members_sorted (zip (members F c.number) bs) F sorted)

pub unmet_stays : (t : ℕ) (s : Served) (c : Claimed) (wants : List Want) → IsSound s.farm → t ≤ s.farm.clock → IsAmong c (queue s.farm)
    → least s.farm.boards (is_free s.farm.types) wants ≡ None → least (serve t s c).farm.boards (is_free (serve t s c).farm.types) wants ≡ None
unmet_stays t s c wants sound low at none = by (least s.farm.boards (is_free s.farm.types) c.wants) refl
  where
    claim : IsClaim s.farm c
    claim = among_has (IsClaim s.farm) c (queue s.farm) (queue_claims s.farm sound.steady) at

    -- while none collects each claim is open
    when : may_collect s.farm c ≡ true → IsUnmet (collect s.farm c.number) wants
    when may =
        let nobody = (both (s.farm.collector == 0) (not c.reservation) (both ((s.farm.collector == 0) && not c.reservation) (nat_le 2 (length c.wants)) may).0).0 in
        rw may at ((over s.farm c (open_of_claim s.farm (same_number s.farm.collector 0 nobody) sound.collecting c claim) sound).unmet wants none)

    by : (o : Option (List BoardRow)) → least s.farm.boards (is_free s.farm.types) c.wants ≡ o
        → IsUnmet (option_map_or {U = Served} (λ bs. record { farm = give s.farm c bs t; claims = s.claims + 1 }) o (record { farm = pass_over s.farm c; claims = s.claims })).farm wants
    by None met = by_cases (λ (G : Farm). IsUnmet G wants) (may_collect s.farm c) (collect s.farm c.number) s.farm when (λ _. none)
    by (Some bs) met = IsUnmet-give s.farm c bs t wants (give_sorted s.farm c bs t sound.steady.boards_sorted) none
