-- A group that can't be served collects: each member in turn takes the first free board that fits it.
use Rattle.std.proofs.Common.{[], ◌&&◌, ◌==◌, ◌∙◌, ◌∷◌, ◌≡◌, ◌≤◌, ◌⊎◌, Bool, List, None, Option, Some, ap, arith, false, inl, inr, length, map, refl, subst, sym}
use Rattle.std.proofs.Common.{true, ℕ}
use Rattle.farm_sound.proofs.Names.{AllByRecursion, AllByRecursion-weaker, BoardRow, bytes_eq, false≢true, Farm, filter, find, fold, found_has, found_passes}
use Rattle.farm_sound.proofs.Names.{job_of, JobRow, JobState, Less, list_all, members, option_map, option_map_or, ranked, ResRow, Want}
use Rattle.std.specs.List.Sorted.{IsStrictlySortedBy}
use Rattle.farm_types.specs.Names.{Claimed, collect, collect_member, first_free, fits, give_member, group_claim, is_free, is_nobody, IsCollecting, IsHeldByKeys}
use Rattle.farm_types.specs.Names.{IsJobRow, IsSound, IsSteady, job_cmp, leads_claim, phase, serves, waits}
use Rattle.farm_sound.proofs.Claims.{IsClaim, IsGroupClaim, IsOpen, leads}
use Rattle.farm_sound.proofs.Collecting.{IsHeldByKeys-collector, IsSteady-collector, none_scheduling}
use Rattle.farm_sound.proofs.Free.{serves_kept}
use Rattle.farm_sound.proofs.Give.{IsFreeBoard, IsHeldByKeys-give_member, IsSteady-give_member, other_job}
use Rattle.farm_sound.proofs.Group.{Ready, as_scheduling, filter_sorted, given, given_group, given_elsewhere, given_number, given_rest, given_same, given_state}
use Rattle.farm_sound.proofs.Group.{jobs_given, own_members, ready_members}
use Rattle.farm_sound.proofs.Lists.{filter_all, filter_back}
use Rattle.farm_sound.proofs.Own.{differs_more, itself, own_board, own_job}
use Rattle.farm_sound.proofs.Tests.{both, nobody_from, same_number}
use Rattle.farm_sound.proofs.Unmet.{IsUnmet, IsUnmet-shrinks, Shrinks, fold_shrinks}
use Rattle.farm_sound.proofs.Where.{AllByRecursion-both, AllByRecursion-map, count_map, filter_same, find_map}
use Rattle.farm_sound.proofs.Whole.{Alike, AreGroupsInPhase-map_by}

-- ---- the boards that are taken

abbrev S : JobState
S = JobState.Scheduling

-- each member that finds a board, with this board
abbrev pub pairs_for : Farm → List JobRow → List (JobRow × BoardRow)
pairs_for F [] = []
pairs_for F (m ∷ ms) = option_map_or (λ b. (m, b) ∷ pairs_for (give_member S F (m, b)) ms) (first_free F m.want) (pairs_for F ms)

pub collect_is : (ms : List JobRow) (F : Farm) → fold collect_member F ms ≡ fold (give_member S) F (pairs_for F ms)
collect_is [] F = refl
collect_is (m ∷ ms) F = grind (arith, collect_is ms F, collect_is ms)

-- each is one of the members
pub pairs_of : (P : JobRow → Type 0) (ms : List JobRow) (F : Farm) → AllByRecursion P ms → AllByRecursion (λ p. P p.0) (pairs_for F ms)
pairs_of P [] F all = tt
pairs_of P (m ∷ ms) F all = grind (arith, pairs_of P ms F all.1, pairs_of P ms)

pub first_is_free : (F : Farm) (want : Want) (b : BoardRow) → IsSteady F → first_free F want ≡ Some b → IsFreeBoard F b
first_is_free F want b steady found =
    let two = both (is_free F.types b) (fits b want) (found_passes (λ c. is_free F.types c && fits c want) b F.boards found) in
    let inner = both (serves F.types b) (is_nobody b.holder) two.0 in
    record {
      there = found_has (λ c. find (λ r. bytes_eq r.name c.name) F.boards ≡ Some c) (λ c. is_free F.types c && fits c want) b F.boards (own_board F steady) found;
      nobody = nobody_from b.holder inner.1;
      kept = serves_kept F.types b inner.0;
    }

pub rest_ready : (F : Farm) (m : JobRow) (b : BoardRow) (ms : List JobRow) → Ready F m → IsFreeBoard F b → AllByRecursion (λ k. job_cmp m k ≡ Less) ms
    → AllByRecursion (Ready F) ms → AllByRecursion (Ready (give_member S F (m, b))) ms
rest_ready F m b ms is free later all = AllByRecursion-weaker
    (λ k two. (other_job S as_scheduling F m b is.0 is.1 free k (differs_more k.number m.number (ranked m.number k.number Less (sym two.0))) two.1.0, two.1.1)) ms
    (AllByRecursion-both (λ k. job_cmp m k ≡ Less) (Ready F) ms later all)

pub collect_all : (ms : List JobRow) (F : Farm) → AllByRecursion (Ready F) ms → IsStrictlySortedBy job_cmp ms → IsSteady F → IsHeldByKeys F
    → IsSteady (fold collect_member F ms) × IsHeldByKeys (fold collect_member F ms)
unfolding IsStrictlySortedBy
collect_all [] F all sorted steady held = (steady, held)
collect_all (m ∷ ms) F all sorted steady held =
    by (first_free F m.want) refl (collect_all ms F all.1 sorted.1 steady held)
    (λ b free. collect_all ms (give_member S F (m, b)) (rest_ready F m b ms all.0 free sorted.0 all.1) sorted.1
    (IsSteady-give_member S as_scheduling F m b all.0.0 all.0.1 free steady)
    (IsHeldByKeys-give_member S as_scheduling F m b all.0.0 all.0.1 free held))
  where
    by : (o : Option BoardRow) → first_free F m.want ≡ o
        → IsSteady (fold collect_member F ms) × IsHeldByKeys (fold collect_member F ms)
        → ((b : BoardRow) → IsFreeBoard F b
        → IsSteady (fold collect_member (give_member S F (m, b)) ms) × IsHeldByKeys (fold collect_member (give_member S F (m, b)) ms))
        → IsSteady (fold collect_member (option_map_or (λ b. give_member S F (m, b)) o F) ms)
        × IsHeldByKeys (fold collect_member (option_map_or (λ b. give_member S F (m, b)) o F) ms)
    by None is none some = none
    by (Some b) is none some = some b (first_is_free F m.want b steady is)

pub map_same : {A : Type 0} (f : JobRow → JobRow) (g : JobRow → A) → ((j : JobRow) → g (f j) ≡ g j) → (ms : List JobRow) → map g (map f ms) ≡ map g ms
map_same f g same [] = refl
map_same f g same (m ∷ ms) = λ i. same m i ∷ map_same f g same ms i

all_back : (f : JobRow → JobRow) (ms : List JobRow) → AllByRecursion (λ m. waits (f m) ≡ true → waits m ≡ true) ms
    → list_all waits (map f ms) ≡ true → list_all waits ms ≡ true
all_back f [] back is = refl
all_back f (m ∷ ms) back is =
    let two = both (waits (f m)) (list_all waits (map f ms)) is in
    (λ i. back.0 two.0 i && all_back f ms back.1 two.1 i)

-- ---- the group

module _ (F : Farm) (j : JobRow) (sound : IsSound F) (none : F.collector ≡ 0) (there : job_of F j.number ≡ Some j) (lead : leads_claim F j ≡ true)
    (submitted : AllByRecursion (λ m. m.state ≡ JobState.Submitted) (members F j.group)) (several : 2 ≤ length (members F j.group)) where
  abbrev group : ℕ
  group = j.group

  abbrev ps : List (JobRow × BoardRow)
  ps = pairs_for F (members F group)

  abbrev after : JobRow → JobRow
  after = given S ps

  pub ready : AllByRecursion (Ready F) (members F group)
  ready = ready_members F group sound.steady submitted

  pub jobs_collected : (collect F group).jobs ≡ map after F.jobs
  jobs_collected = ap (λ (G : Farm). G.jobs) (collect_is (members F group) F) ∙ jobs_given S ps F

  -- each job's part in it: another group's stays, a member was Submitted
  pub record Part (m : JobRow) : Type 0 where
    pub other : (m.group == group) ≡ false → after m ≡ m
    pub mine : m.group ≡ group → m.state ≡ JobState.Submitted
    pub idle : m.state ≡ JobState.Scheduling → ⊥

  pub parts : AllByRecursion Part F.jobs
  parts = AllByRecursion-weaker
      (λ m three. record {
        other = given_elsewhere F group S ps
            (pairs_of (λ k. (job_of F k.number ≡ Some k) × ((k.group == group) ≡ true)) (members F group) F (own_members F group sound.steady)) m three.0.0;
        mine = λ same. three.0.1 (ap (λ g. g == group) same ∙ itself group);
        idle = three.1;
      }) F.jobs
      (AllByRecursion-both (λ m. (job_of F m.number ≡ Some m) × ((m.group == group) ≡ true → m.state ≡ JobState.Submitted))
      (λ m. m.state ≡ JobState.Scheduling → ⊥) F.jobs
      (AllByRecursion-both (λ m. job_of F m.number ≡ Some m) (λ m. (m.group == group) ≡ true → m.state ≡ JobState.Submitted) F.jobs (own_job F sound.steady)
      (filter_back (λ m. m.state ≡ JobState.Submitted) (λ r. r.group == group) F.jobs submitted))
      (none_scheduling F.collector F.jobs none sound.collecting))

  -- no job leaves its phase
  phase_stays : (m : JobRow) → Part m → phase (after m).state ≡ phase m.state
  phase_stays m p = by (m.group == group) refl
    where
      by : (v : Bool) → (m.group == group) ≡ v → phase (after m).state ≡ phase m.state
      by true at = state (given_state S ps m)
        where
          state : ((after m).state ≡ m.state) ⊎ ((after m).state ≡ S) → phase (after m).state ≡ phase m.state
          state (inl is) = ap phase is
          state (inr is) = ap phase is ∙ sym (ap phase (p.mine (same_number m.group group at)))
      by false at = ap (λ (k : JobRow). phase k.state) (p.other at)

  alike_after : (k m : JobRow) → Part k → Part m → Alike k m → Alike (after k) (after m)
  alike_after k m pk pm alike same =
      phase_stays m pm ∙ alike (sym (given_group S ps m) ∙ same ∙ given_group S ps k) ∙ sym (phase_stays k pk)

  lead_low : 1 ≤ group
  lead_low =
      let row : IsJobRow F j = found_has (IsJobRow F) (λ r. r.number == j.number) j F.jobs sound.steady.jobs there in
      let same : j.number ≡ group = (leads F j lead).0 in
      let low = row.number.0 in
      omega arith

  collecting_after : IsCollecting group (map after F.jobs)
  collecting_after = record {
    only = AllByRecursion-map Part (λ k. k.state ≡ JobState.Scheduling → (1 ≤ group) × (k.group ≡ group)) after
        (λ m p is. (lead_low, given_group S ps m ∙ by m p is (m.group == group) refl)) F.jobs parts;
    several = λ low. subst (λ n. 2 ≤ n) (sym (count_map (λ (r : JobRow). r.group == group) after (λ r. ap (λ g. g == group) (given_group S ps r)) F.jobs)) several;
    waits = λ low. AllByRecursion-map Part (λ k. k.group ≡ group → phase k.state ≡ 0) after
        (λ m p same. phase_stays m p ∙ ap phase (p.mine (sym (given_group S ps m) ∙ same))) F.jobs parts;
  }
    where
      by : (m : JobRow) → Part m → (after m).state ≡ JobState.Scheduling → (v : Bool) → (m.group == group) ≡ v → m.group ≡ group
      by m p is true at = same_number m.group group at
      by m p is false at = absurd (p.idle (sym (ap (λ (k : JobRow). k.state) (p.other at)) ∙ is))

  pub IsSound-collect : IsSound (collect F group)
  IsSound-collect =
      let both_held = collect_all (members F group) F ready (filter_sorted (λ r. r.group == group) F.jobs sound.steady.jobs_sorted) sound.steady sound.held in
      record {
        steady = IsSteady-collector (fold collect_member F (members F group)) group both_held.0;
        held = IsHeldByKeys-collector (fold collect_member F (members F group)) group both_held.1;
        whole = subst (λ l. AllByRecursion (λ j. AllByRecursion (Alike j) l) l) (sym jobs_collected) (AreGroupsInPhase-map_by F Part after parts alike_after sound.whole);
        collecting = subst (IsCollecting group) (sym jobs_collected) collecting_after;
      }

  pub reservations_kept : (collect F group).reservations ≡ F.reservations
  reservations_kept = ap (λ (G : Farm). G.reservations) (collect_is (members F group) F) ∙ ap (λ (G : Farm). G.reservations) (given_rest S ps F)

  pub collect_shrinks : ((collect F group).types ≡ F.types) × Shrinks F.types F.boards (collect F group).boards
  collect_shrinks = subst (λ (G : Farm). (G.types ≡ F.types) × Shrinks F.types F.boards G.boards) (sym (collect_is (members F group) F)) (fold_shrinks S ps F)

  pub IsUnmet-collect : (wants : List Want) → IsUnmet F wants → IsUnmet (collect F group) wants
  IsUnmet-collect wants = IsUnmet-shrinks F (collect F group) wants IsSound-collect.steady.boards_sorted collect_shrinks

  -- ---- the claims afterwards

  pub members_after : (n : ℕ) → members (collect F group) n ≡ map after (members F n)
  members_after n = ap (filter (λ (r : JobRow). r.group == n)) jobs_collected ∙ filter_same (λ (r : JobRow). r.group == n) after (λ r. ap (λ g. g == n) (given_group S ps r)) F.jobs

  pub job_after : (n : ℕ) → job_of (collect F group) n ≡ option_map after (job_of F n)
  job_after n = ap (find (λ (r : JobRow). r.number == n)) jobs_collected
      ∙ find_map (λ (r : JobRow). r.number == n) after (λ m. ap (λ k. k == n) (given_number S ps m)) F.jobs

  claim_after : (k : JobRow) → group_claim (collect F group) (after k) ≡ group_claim F k
  claim_after k =
      let same = given_same S ps k in
      let wants_are : map (λ m. m.want) (members (collect F group) (after k).group) ≡ map (λ m. m.want) (members F k.group) =
      ap (λ n. map (λ (m : JobRow). m.want) (members (collect F group) n)) (given_group S ps k)
      ∙ ap (map (λ (m : JobRow). m.want)) (members_after k.group) ∙ map_same after (λ m. m.want) (λ m. (given_same S ps m).2) (members F k.group) in
      (λ i. record { reservation = false; number = given_group S ps k i; owner = same.0 i; priority = same.1 i; wants = wants_are i })

  -- each was a claim before
  pub claim_was : (d : Claimed) → IsClaim (collect F group) d → IsClaim F d
  claim_was d (inl (r, is)) = inl (r, (ap (find (λ (q : ResRow). q.number == r.number)) (sym reservations_kept) ∙ is.0, is.1, is.2))
  claim_was d (inr (k, is)) = by (job_of F k.number) refl (sym (job_after k.number) ∙ is.0)
    where
      waited : (m : JobRow) → Part m → waits (after m) ≡ true → waits m ≡ true
      waited m p is = at (m.group == group) refl
        where
          at : (v : Bool) → (m.group == group) ≡ v → waits m ≡ true
          at true so = ap (λ s. waits (record m { state = s })) (p.mine (same_number m.group group so))
          at false so = sym (ap waits (p.other so)) ∙ is

      by : (o : Option JobRow) → job_of F k.number ≡ o → option_map after o ≡ Some k → IsClaim F d
      by None at same = cc
      by (Some m) at same =
          let e : after m ≡ k = cc in
          let number : m.number ≡ k.number = sym (given_number S ps m) ∙ ap (λ (x : JobRow). x.number) e in
          let led : leads_claim (collect F group) (after m) ≡ true = ap (leads_claim (collect F group)) e ∙ is.1 in
          let two = both ((after m).number == (after m).group) (list_all waits (members (collect F group) (after m).group)) led in
          let first : (m.number == m.group) ≡ true = (λ i. sym (given_number S ps m) i == sym (given_group S ps m) i) ∙ two.0 in
          let rest : list_all waits (map after (members F m.group)) ≡ true =
          ap (list_all waits) (sym (members_after m.group)) ∙ ap (λ n. list_all waits (members (collect F group) n)) (sym (given_group S ps m)) ∙ two.1 in
          let old = all_back after (members F m.group)
          (AllByRecursion-weaker (λ x two. waited x two.0) (members F m.group) (filter_all Part (λ r. r.group == m.group) F.jobs parts)) rest in
          inr (
            m,
            (
              ap (job_of F) number ∙ at,
              (λ i. first i && old i),
              is.2 ∙ ap (group_claim (collect F group)) (sym e) ∙ claim_after m,
            ),
          )

  -- and the others that were open are so
  pub open_after : (c d : Claimed) → IsGroupClaim F c j → (c ≡ d → ⊥) → IsOpen F d → IsOpen (collect F group) d
  open_after c d is apart (inl (r, has)) = inl (r, (ap (find (λ (q : ResRow). q.number == r.number)) reservations_kept ∙ has.0, has.1, has.2))
  open_after c d is apart (inr (k, has)) = by (k.group == group) refl
    where
      by : (v : Bool) → (k.group == group) ≡ v → IsOpen (collect F group) d
      by true at =
          let number : k.number ≡ j.number = (leads F k has.claim.1).0 ∙ same_number k.group group at ∙ sym (leads F j lead).0 in
          let two : Some k ≡ Some j = sym has.claim.0 ∙ ap (job_of F) number ∙ there in
          let one : k ≡ j = cc in
          absurd (apart (is.2 ∙ ap (group_claim F) (sym one) ∙ sym has.claim.2))
      by false at =
          let stays = λ (m : JobRow) (p : Part m) (same : (m.group == k.group) ≡ true).
          p.other (ap (λ g. g == group) (same_number m.group k.group same) ∙ at) in
          let members_same : members (collect F group) k.group ≡ members F k.group =
          members_after k.group ∙ map_stays (members F k.group)
          (AllByRecursion-weaker (λ m two. stays m two.0 two.1) (members F k.group) (filter_all Part (λ r. r.group == k.group) F.jobs parts)) in
          let k_same : after k ≡ k = (found_has Part (λ r. r.number == k.number) k F.jobs parts has.claim.0).other at in
          inr (
            k,
            record {
              claim = (
                job_after k.number ∙ ap (option_map after) has.claim.0 ∙ ap Some k_same,
                ap (λ ms. (k.number == k.group) && list_all waits ms) members_same ∙ has.claim.1,
                has.claim.2 ∙ sym (ap (λ ms. record { reservation = false; number = k.group; owner = k.owner; priority = k.priority; wants = map (λ (m : JobRow). m.want) ms }) members_same),
              );
              submitted = subst (AllByRecursion (λ m. m.state ≡ JobState.Submitted)) (sym members_same) has.submitted;
              other = λ low same. false≢true (sym at ∙ ap (λ g. g == group) (sym same) ∙ itself group);
            },
          )
        where
          map_stays : (ms : List JobRow) → AllByRecursion (λ m. after m ≡ m) ms → map after ms ≡ ms
          map_stays [] all = refl
          map_stays (m ∷ ms) all = λ i. all.0 i ∷ map_stays ms all.1 i
