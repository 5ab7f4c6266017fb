-- The group that collects isn't met by the free boards and its own together, from when it began to the end of the pass.
use native.Mathlib.Omega.{arith}
use Rattle.std.proofs.Common.{[], ◌&&◌, ◌==◌, ◌∙◌, ◌∷◌, ◌≡◌, ◌≤◌, Bool, List, None, Option, Some, ap, cond, false, inl, inr, length, map, refl, subst, sym, true}
use Rattle.std.proofs.Common.{zip, ℕ}
use Rattle.farm_sound.proofs.Names.{AllByRecursion, AllByRecursion-weaker, BoardRow, bytes_eq, bytes_eq-Decides, Farm, filter, fold, found_has, Holder}
use Rattle.farm_sound.proofs.Names.{job_of, JobRow, JobState, members, option_map, option_map_or, State, TypeRow}
use Rattle.std.specs.List.Sorted.{IsStrictlySortedBy}
use Rattle.farm_types.specs.Names.{change_where, Claimed, collect, collect_member, first_free, freed_board, give, give_group, give_member, give_res}
use Rattle.farm_types.specs.Names.{giving_back, held_board, hold, is_free, is_job_so, is_nobody, IsHeldBy, IsHeldByKeys, IsSound, IsSteady, job_cmp}
use Rattle.farm_types.specs.Names.{job_gives, job_hold, leads_claim, least, may_collect, pass_over, same_job_state, shown_hold}
use Rattle.farm_sound.specs.Served.{IsCollectorUnmet}
use Rattle.farm_sound.proofs.Claims.{IsOpen, IsOpenGroup}
use Rattle.farm_sound.proofs.Collect.{Part, collect_shrinks, first_is_free, job_after, map_same, members_after, pairs_for, parts as parts_collected}
use Rattle.farm_sound.proofs.Collect.{ready as ready_collected, rest_ready}
use Rattle.farm_sound.proofs.Free.{free_boards}
use Rattle.farm_sound.proofs.Give.{IsFreeBoard, IsHeldByKeys-give_member, IsSteady-give_member}
use Rattle.farm_sound.proofs.Group.{Ready, as_scheduling, collector_kept, filter_sorted, given, given_group, given_number, given_same, jobs_given, pairs_ready}
use Rattle.farm_sound.proofs.Group.{parts}
use Rattle.farm_sound.proofs.Jobs.{IsSound-back}
use Rattle.farm_sound.proofs.Lists.{filter_back}
use Rattle.farm_sound.proofs.Own.{only_board}
use Rattle.farm_sound.proofs.Rows.{hold_nothing}
use Rattle.farm_sound.proofs.Serve.{as_many, filter_given, group_collects, res_collects_not}
use Rattle.farm_sound.proofs.Tests.{same_number}
use Rattle.farm_sound.proofs.Unmet.{IsUnmet, Shrinks, fold_shrinks, unmet_shrinks}
use Rattle.farm_sound.proofs.Where.{AllByRecursion-both, by_cases, find_map}

-- ---- boards that are given back

-- whether the holder is a member of the collector that has a board
abbrev collects : ℕ → JobRow → Bool
collects collector j = (j.group == collector) && same_job_state j.state JobState.Scheduling

abbrev owned : Farm → Holder → Bool
owned F = is_job_so F (collects F.collector)

-- these boards, without such holders
abbrev freed : (Holder → Bool) → List BoardRow → List BoardRow
freed own bs = change_where (λ b. own b.holder) freed_board bs

freed_same : (f g : Holder → Bool) → ((h : Holder) → f h ≡ g h) → (bs : List BoardRow) → freed f bs ≡ freed g bs
freed_same f g same [] = refl
freed_same f g same (b ∷ bs) = λ i. cond (same b.holder i) (freed_board b) b ∷ freed_same f g same bs i

freed_none : (own : Holder → Bool) (bs : List BoardRow) → AllByRecursion (λ b. own b.holder ≡ false) bs → freed own bs ≡ bs
freed_none own [] none = refl
freed_none own (b ∷ bs) none = λ i. cond (none.0 i) (freed_board b) b ∷ freed_none own bs none.1 i

-- a board is given to one that isn't such a holder
given_freed : (types : List TypeRow) (own : Holder → Bool) (h : Holder) (name : List ℕ) → is_nobody h ≡ false → own h ≡ false → (bs : List BoardRow)
    → Shrinks types (freed own bs) (freed own (change_where (λ c. bytes_eq c.name name) (held_board h State.Reserved) bs))
given_freed types own h name taken other [] b at free = at
given_freed types own h name taken other (c ∷ bs) b (inr at) free = inr (given_freed types own h name taken other bs b at free)
given_freed types own h name taken other (c ∷ bs) b (inl same) free = grind arith

fold_freed : (state : JobState) (own : Holder → Bool) (ps : List (JobRow × BoardRow)) (F : Farm) → AllByRecursion (λ p. own (Holder.Job p.0.number) ≡ false) ps
    → Shrinks F.types (freed own F.boards) (freed own (fold (give_member state) F ps).boards)
fold_freed state own [] F none b at free = at
fold_freed state own (p ∷ ps) F none b at free =
    given_freed F.types own (Holder.Job p.0.number) p.1.name refl none.0 F.boards b (fold_freed state own ps (give_member state F (p.0, p.1)) none.1 b at free) free

-- a free board is given to whomever, and given back it is as it was
abbrev WasIdle : BoardRow → BoardRow → Type 0
WasIdle b c = bytes_eq c.name b.name ≡ true → (c.holder ≡ Holder.Nobody) × (c.state ≡ State.Idle)

taken_freed : (types : List TypeRow) (own : Holder → Bool) (h : Holder) (b : BoardRow) → is_nobody h ≡ false → own Holder.Nobody ≡ false → (bs : List BoardRow)
    → AllByRecursion (WasIdle b) bs → Shrinks types (freed own bs) (freed own (change_where (λ c. bytes_eq c.name b.name) (held_board h State.Reserved) bs))
taken_freed types own h b taken nobody [] idles d at free = at
taken_freed types own h b taken nobody (c ∷ bs) idles d (inr at) free = inr (taken_freed types own h b taken nobody bs idles.1 d at free)
taken_freed types own h b taken nobody (c ∷ bs) idles d (inl same) free = grind arith

was_idle : (F : Farm) (b : BoardRow) → IsFreeBoard F b → IsSteady F → IsHeldByKeys F → AllByRecursion (WasIdle b) F.boards
was_idle F b free steady holds = AllByRecursion-weaker
    (λ c two so.
    let same : c ≡ b = two.0 ((bytes_eq-Decides c.name b.name).0 so) in
    let nobody : c.holder ≡ Holder.Nobody = ap (λ (x : BoardRow). x.holder) same ∙ free.nobody in
    (nobody, subst (IsHeldBy F c) nobody two.1)) F.boards
    (AllByRecursion-both (λ c. c.name ≡ b.name → c ≡ b) (λ c. IsHeldBy F c c.holder) F.boards (only_board F steady b free.there) holds.boards)

-- ---- a step of the pass

short_step : (F G : Farm) → IsSound G → G.types ≡ F.types → G.collector ≡ F.collector
    → (1 ≤ F.collector → map (λ m. m.want) (members G F.collector) ≡ map (λ m. m.want) (members F F.collector))
    → Shrinks F.types (giving_back F).boards (giving_back G).boards → IsCollectorUnmet F → IsCollectorUnmet G
short_step F G sound types collector wants shrinks short low =
    let low_too : 1 ≤ F.collector = subst (λ n. 1 ≤ n) collector low in
    let ws = ap (λ n. map (λ m. m.want) (members G n)) collector ∙ wants low_too in
    (λ i. least (giving_back G).boards (is_free (types i)) (ws i))
    ∙ unmet_shrinks F.types (giving_back F).boards (giving_back G).boards (map (λ m. m.want) (members F F.collector)) (IsSound-back G sound).steady.boards_sorted shrinks (short low_too)

-- a reservation is served
pub IsCollectorUnmet-give_res : (F : Farm) (n : ℕ) (bs : List BoardRow) (t : ℕ) → IsSound (give_res F n bs t) → IsCollectorUnmet F → IsCollectorUnmet (give_res F n bs t)
IsCollectorUnmet-give_res F n [] t sound short = short
IsCollectorUnmet-give_res F n (b ∷ bs) t sound short =
    short_step F (give_res F n (b ∷ bs) t) sound refl refl (λ _. refl) (given_freed F.types (owned F) (Holder.Res n) b.name refl refl F.boards) short

and_false : (v : Bool) → (v && false) ≡ false
and_false true = refl
and_false false = refl

-- a Submitted job has no board
ready_unowned : (F : Farm) (m : JobRow) → Ready F m → owned F (Holder.Job m.number) ≡ false
ready_unowned F m ready =
    ap (λ o. option_map_or (collects F.collector) o false) ready.0
    ∙ (λ i. (m.group == F.collector) && same_job_state (ready.1 i) JobState.Scheduling) ∙ and_false (m.group == F.collector)

owned_by : (f : JobRow → JobRow) (test next : JobRow → Bool) (o : Option JobRow) → ((m : JobRow) → o ≡ Some m → next (f m) ≡ test m)
    → option_map_or next (option_map f o) false ≡ option_map_or test o false
owned_by f test next None same = refl
owned_by f test next (Some m) same = same m refl

-- a group is served
module _ (F : Farm) (c : Claimed) (j : JobRow) (bs : List BoardRow) (is : IsOpenGroup F c j) (found : least F.boards (is_free F.types) c.wants ≡ Some bs) (sound : IsSound F) where
  abbrev ps : List (JobRow × BoardRow)
  ps = zip (members F j.group) bs

  abbrev G : Farm
  G = give_group F j.group bs

  abbrev after : JobRow → JobRow
  after = given JobState.Scheduled ps

  pub record Share (m : JobRow) : Type 0 where
    pub mine : m.group ≡ j.group → (after m).state ≡ JobState.Scheduled
    pub other : (m.group == j.group) ≡ false → after m ≡ m
    pub was : (m.group == j.group) ≡ true → m.state ≡ JobState.Submitted

  shares : AllByRecursion Share F.jobs
  shares =
      let free = free_boards F c.wants bs sound.steady found in
      AllByRecursion-weaker (λ m two. record { mine = two.0.0; other = two.0.1; was = two.1 }) F.jobs
      (AllByRecursion-both (λ m. (m.group ≡ j.group → (after m).state ≡ JobState.Scheduled) × ((m.group == j.group) ≡ false → after m ≡ m))
      (λ m. (m.group == j.group) ≡ true → m.state ≡ JobState.Submitted) F.jobs
      (parts F j.group bs sound is.submitted free.0 free.1 (as_many F c j bs is free.2) is.other)
      (filter_back (λ m. m.state ≡ JobState.Submitted) (λ r. r.group == j.group) F.jobs is.submitted))

  none_gives : AllByRecursion (λ p. owned F (Holder.Job p.0.number) ≡ false) ps
  none_gives =
      let free = free_boards F c.wants bs sound.steady found in
      AllByRecursion-weaker (λ p two. ready_unowned F p.0 two.0) ps
      (pairs_ready F j.group bs sound is.submitted free.0 free.1 (as_many F c j bs is free.2) is.other)

  -- a job collects as it did
  collects_still : (m : JobRow) → Share m → collects G.collector (after m) ≡ collects F.collector m
  collects_still m share = grind (arith, collector_kept JobState.Scheduled ps F, given_group JobState.Scheduled ps m, share.mine, same_number m.group j.group, share.was, share.other)

  owned_still : (h : Holder) → owned G h ≡ owned F h
  owned_still Holder.Nobody = refl
  owned_still (Holder.Res n) = refl
  owned_still (Holder.Job n) =
      let jobs : job_of G n ≡ option_map after (job_of F n) =
      ap (Rattle.std.specs.List.find (λ (r : JobRow). r.number == n)) (jobs_given JobState.Scheduled ps F)
      ∙ find_map (λ (r : JobRow). r.number == n) after (λ m. ap (λ k. k == n) (given_number JobState.Scheduled ps m)) F.jobs in
      ap (λ o. option_map_or (collects G.collector) o false) jobs
      ∙ owned_by after (collects F.collector) (collects G.collector) (job_of F n)
      (λ m there. collects_still m (found_has Share (λ r. r.number == n) m F.jobs shares there))

  pub IsShort-give_group : IsSound G → IsCollectorUnmet F → IsCollectorUnmet G
  IsShort-give_group after_sound short =
      short_step F G after_sound (fold_shrinks JobState.Scheduled ps F).0 (collector_kept JobState.Scheduled ps F)
      (λ low. ap (map (λ (m : JobRow). m.want))
      (ap (filter (λ (r : JobRow). r.group == F.collector)) (jobs_given JobState.Scheduled ps F)
      ∙ filter_given ps j.group F.collector F.jobs (apart low (F.collector == j.group) refl) (AllByRecursion-weaker (λ m share. share.other) F.jobs shares)))
      (subst (Shrinks F.types (giving_back F).boards) (sym (freed_same (owned G) (owned F) owned_still G.boards)) (fold_freed JobState.Scheduled (owned F) ps F none_gives))
      short
    where
      apart : 1 ≤ F.collector → (v : Bool) → (F.collector == j.group) ≡ v → (F.collector == j.group) ≡ false
      apart low false other = other
      apart low true same = absurd (is.other low (same_number F.collector j.group same))

pub IsCollectorUnmet-give : (F : Farm) (c : Claimed) (bs : List BoardRow) (t : ℕ) → IsOpen F c → least F.boards (is_free F.types) c.wants ≡ Some bs → IsSound F
    → IsSound (give F c bs t) → IsCollectorUnmet F → IsCollectorUnmet (give F c bs t)
IsCollectorUnmet-give F c bs t (inl (r, is)) found sound after short =
    subst (λ e. IsCollectorUnmet (give F e bs t)) (sym is.2) (IsCollectorUnmet-give_res F r.number bs t (subst (λ e. IsSound (give F e bs t)) is.2 after) short)
IsCollectorUnmet-give F c bs t (inr (j, is)) found sound after short =
    subst (λ e. IsCollectorUnmet (give F e bs t)) (sym is.claim.2)
    (IsShort-give_group F c j bs is found sound (subst (λ e. IsSound (give F e bs t)) is.claim.2 after) short)

-- ---- a group collects

abbrev S : JobState
S = JobState.Scheduling

collect_freed : (own : Holder → Bool) → own Holder.Nobody ≡ false → (ms : List JobRow) (F : Farm) → AllByRecursion (Ready F) ms → IsStrictlySortedBy job_cmp ms
    → IsSteady F → IsHeldByKeys F → Shrinks F.types (freed own F.boards) (freed own (fold collect_member F ms).boards)
unfolding IsStrictlySortedBy
collect_freed own nobody [] F all sorted steady holds = λ b at free. at
collect_freed own nobody (m ∷ ms) F all sorted steady holds =
    by (first_free F m.want) refl (collect_freed own nobody ms F all.1 sorted.1 steady holds)
    (λ b free_b d at free.
    taken_freed F.types own (Holder.Job m.number) b refl nobody F.boards (was_idle F b free_b steady holds) d
    (collect_freed own nobody ms (give_member S F (m, b)) (rest_ready F m b ms all.0 free_b sorted.0 all.1) sorted.1
    (IsSteady-give_member S as_scheduling F m b all.0.0 all.0.1 free_b steady)
    (IsHeldByKeys-give_member S as_scheduling F m b all.0.0 all.0.1 free_b holds) d at free) free)
  where
    by : (o : Option BoardRow) → first_free F m.want ≡ o → Shrinks F.types (freed own F.boards) (freed own (fold collect_member F ms).boards)
        → ((b : BoardRow) → IsFreeBoard F b → Shrinks F.types (freed own F.boards) (freed own (fold collect_member (give_member S F (m, b)) ms).boards))
        → Shrinks F.types (freed own F.boards) (freed own (fold collect_member (option_map_or (λ b. give_member S F (m, b)) o F) ms).boards)
    by None is none some = none
    by (Some b) is none some = some b (first_is_free F m.want b steady is)

module _ (F : Farm) (j : JobRow) (sound : IsSound F) (none : F.collector ≡ 0) (there : job_of F j.number ≡ Some j) (lead : leads_claim F j ≡ true)
    (submitted : AllByRecursion (λ m. m.state ≡ JobState.Submitted) (members F j.group)) (several : 2 ≤ length (members F j.group)) where
  abbrev H : Farm
  H = collect F j.group

  abbrev then : JobRow → JobRow
  then = given S (pairs_for F (members F j.group))

  -- nobody who held a board collects
  unowned : (b : BoardRow) (h : Holder) → IsHeldBy F b h → owned H h ≡ false
  unowned b Holder.Nobody is = refl
  unowned b (Holder.Res n) is = refl
  unowned b (Holder.Job n) is =
      ap (λ o. option_map_or (collects j.group) o false) (job_after F j sound none there lead submitted several n) ∙ by (job_of F n) refl is
    where
      by : (o : Option JobRow) → job_of F n ≡ o → option_map_or job_hold o None ≡ Some (shown_hold b) → option_map_or (collects j.group) (option_map then o) false ≡ false
      by None at holds = refl
      by (Some m) at holds = at_group (m.group == j.group) refl
        where
          part : Part F j sound none there lead submitted several m
          part = found_has (Part F j sound none there lead submitted several) (λ r. r.number == n) m F.jobs (parts_collected F j sound none there lead submitted several) at

          at_group : (v : Bool) → (m.group == j.group) ≡ v → collects j.group (then m) ≡ false
          at_group true so =
              let s : m.state ≡ JobState.Submitted = part.mine (same_number m.group j.group so) in
              let nothing : None ≡ Some (shown_hold b) = sym (hold_nothing (Holder.Job m.number) m.board) ∙ ap (λ x. hold (Holder.Job m.number) m.board (job_gives x)) (sym s) ∙ holds in
              cc
          at_group false so = ap (collects j.group) (part.other so) ∙ ap (λ v. v && same_job_state m.state S) so

  freed_boards : Shrinks F.types F.boards (giving_back H).boards
  freed_boards = subst (λ bs. Shrinks F.types bs (giving_back H).boards)
      (freed_none (owned H) F.boards (AllByRecursion-weaker (λ b is. unowned b b.holder is) F.boards sound.held.boards))
      (collect_freed (owned H) refl (members F j.group) F (ready_collected F j sound none there lead submitted several)
      (filter_sorted (λ r. r.group == j.group) F.jobs sound.steady.jobs_sorted) sound.steady sound.held)

  pub IsShort-collect : IsSound H → IsUnmet F (map (λ m. m.want) (members F j.group)) → IsCollectorUnmet H
  IsShort-collect after unmet low =
      let types = (collect_shrinks F j sound none there lead submitted several).0 in
      let ws = ap (map (λ (m : JobRow). m.want)) (members_after F j sound none there lead submitted several j.group)
      ∙ map_same then (λ m. m.want) (λ m. (given_same S (pairs_for F (members F j.group)) m).2) (members F j.group) in
      (λ i. least (giving_back H).boards (is_free (types i)) (ws i))
      ∙ unmet_shrinks F.types F.boards (giving_back H).boards (map (λ m. m.want) (members F j.group)) (IsSound-back H after).steady.boards_sorted freed_boards unmet

collected : (F : Farm) (c : Claimed) → IsOpen F c → IsSound F → may_collect F c ≡ true → IsUnmet F c.wants → IsSound (collect F c.number) → IsCollectorUnmet (collect F c.number)
collected F c (inl (r, is)) sound may unmet = absurd (res_collects_not F c r is may)
collected F c (inr (j, is)) sound may unmet =
    let two = group_collects F c j is may in
    subst (λ n. IsSound (collect F n) → IsCollectorUnmet (collect F n)) (ap (λ (d : Claimed). d.number) (sym is.claim.2))
    (λ after. IsShort-collect F j sound two.0 is.claim.0 is.claim.1 is.submitted two.1 after
    (subst (IsUnmet F) (ap (λ (d : Claimed). d.wants) is.claim.2) unmet))

-- a claim that isn't met is passed over
pub IsCollectorUnmet-pass_over : (F : Farm) (c : Claimed) → IsOpen F c → IsSound F → IsUnmet F c.wants → IsSound (pass_over F c) → IsCollectorUnmet F → IsCollectorUnmet (pass_over F c)
IsCollectorUnmet-pass_over F c has sound unmet after short =
    by_cases (λ G. IsSound G → IsCollectorUnmet G) (may_collect F c) (collect F c.number) F (λ may. collected F c has sound may unmet) (λ _ _. short) after
