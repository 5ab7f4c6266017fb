-- The claims are served in turn.
use Rattle.std.proofs.Common.{[], ◌&&◌, ◌++◌, ◌==◌, ◌∙◌, ◌∷◌, ◌≡◌, ◌≤◌, Bool, List, Some, ap, arith, cond, false, inl, inr, length, map, nat_le, not, refl, subst}
use Rattle.std.proofs.Common.{sym, true, ℕ}
use Rattle.farm_sound.proofs.Names.{AllByRecursion, AllByRecursion-weaker, BoardRow, Equal, Farm, filter, find, fold, found_has, job_of}
use Rattle.std.specs.List.Sorted.{IsStrictlySortedBy}
use Rattle.farm_sound.proofs.Names.{JobRow, JobState, length-map, Less, list_all, members, nat_tests, option_map, res_of, ResRow, tied_itself, true≢false, Want}
use Rattle.farm_sound.proofs.Names.{zip}
use Rattle.farm_types.specs.Names.{allocated_reservation, claim_cmp, Claimed, claims_taken, collect, EachTwo, give, give_group, give_member, give_res}
use Rattle.farm_types.specs.Names.{group_claim, is_free, is_group, is_waiting, IsSound, least, may_collect, pass_over, queue, res_claim, waits}
use Rattle.farm_sound.proofs.Claims.{IsClaim, IsOpen, IsOpenGroup, IsResClaim, claim_total, leads, open_of_claim, queue_claims, queue_sorted}
use Rattle.farm_sound.proofs.Collect.{IsSound-collect, IsUnmet-collect, claim_was, collect_is, open_after, pairs_for}
use Rattle.farm_sound.proofs.Free.{free_boards}
use Rattle.farm_sound.proofs.Give.{IsFreeBoard, IsSound-give_res, res_at}
use Rattle.farm_sound.proofs.Group.{IsSound-give_group, collector_kept, given, given_group, given_number, given_rest, jobs_given, parts}
use Rattle.farm_sound.proofs.Lists.{all_join, each_append, each_sorted, each_weaker, filter_all}
use Rattle.farm_sound.proofs.Tests.{both, same_number, waiting_from}
use Rattle.farm_sound.proofs.Unmet.{IsUnmet}
use Rattle.farm_sound.proofs.Where.{all_true, by_cases, find_map}

-- ---- one claim is served

-- the group has as many members as boards
pub as_many : (F : Farm) (c : Claimed) (j : JobRow) (bs : List BoardRow) → IsOpenGroup F c j → length bs ≡ length c.wants → length bs ≡ length (members F j.group)
as_many F c j bs is long = long ∙ ap (λ (d : Claimed). length d.wants) is.claim.2 ∙ length-map (members F j.group) (λ m. m.want)

-- a reservation's claim, with the list that was found
give_one_res : (F : Farm) (r : ResRow) (bs : List BoardRow) (t : ℕ) → res_of F r.number ≡ Some r → is_waiting r ≡ true
    → AllByRecursion (IsFreeBoard F) bs → t ≤ F.clock → IsSound F → IsSound (give_res F r.number bs t)
give_one_res F r [] t there waits free low sound = sound
give_one_res F r (b ∷ bs) t there waits free low sound = IsSound-give_res F r.number r b bs t there (waiting_from r.state waits) free.0 low sound

pub IsSound-give : (F : Farm) (c : Claimed) (bs : List BoardRow) (t : ℕ) → IsOpen F c → least F.boards (is_free F.types) c.wants ≡ Some bs
    → t ≤ F.clock → IsSound F → IsSound (give F c bs t)
IsSound-give F c bs t (inl (r, is)) found low sound =
    subst (λ d. IsSound (give F d bs t)) (sym is.2) (give_one_res F r bs t is.0 is.1 (free_boards F c.wants bs sound.steady found).0 low sound)
IsSound-give F c bs t (inr (j, is)) found low sound =
    let free = free_boards F c.wants bs sound.steady found in
    subst (λ d. IsSound (give F d bs t)) (sym is.claim.2)
    (IsSound-give_group F j.group bs sound is.submitted free.0 free.1 (as_many F c j bs is free.2) is.other)

-- ---- the other claims stay claims

pub res_kept : (ps : List (JobRow × BoardRow)) (F : Farm) → (fold (give_member JobState.Scheduled) F ps).reservations ≡ F.reservations
res_kept ps F = ap (λ (G : Farm). G.reservations) (given_rest JobState.Scheduled ps F)

pub clock_kept : (state : JobState) (ps : List (JobRow × BoardRow)) (F : Farm) → (fold (give_member state) F ps).clock ≡ F.clock
clock_kept state ps F = ap (λ (G : Farm). G.clock) (given_rest state ps F)

-- a claim that is served changes jobs, boards and reservations alone
pub give_rest : (F : Farm) (c : Claimed) (bs : List BoardRow) (t : ℕ)
    → record (give F c bs t) { jobs = F.jobs; boards = F.boards; reservations = F.reservations } ≡ F
give_rest F c bs t = grind (arith, by_cases (λ (G : Farm). record G { jobs = F.jobs; boards = F.boards; reservations = F.reservations } ≡ F) c.reservation (give_res F c.number bs t) (give_group F c.number bs), given_rest JobState.Scheduled (zip (members F c.number) bs) F)

pub give_clock : (F : Farm) (c : Claimed) (bs : List BoardRow) (t : ℕ) → (give F c bs t).clock ≡ F.clock
give_clock F c bs t = ap (λ (G : Farm). G.clock) (give_rest F c bs t)

-- a reservation was served
after_res_res : (F : Farm) (r q : ResRow) (bs : List BoardRow) (t : ℕ) (d : Claimed) → res_of F r.number ≡ Some r → is_waiting r ≡ true
    → AllByRecursion (IsFreeBoard F) bs → (q.number == r.number) ≡ false → IsResClaim F d q → IsOpen (give_res F r.number bs t) d
after_res_res F r q [] t d there waits free other is = inl (q, is)
after_res_res F r q (b ∷ bs) t d there waits free other is =
    inl (
      q,
      (
        res_at F r.number r b bs t there (waiting_from r.state waits) free.0 q.number
            ∙ ap (option_map (λ k. cond (k.number == r.number) (allocated_reservation b.name t k) k)) is.0
            ∙ ap (λ v. Some (cond v (allocated_reservation b.name t q) q)) other,
        is.1,
        is.2,
      ),
    )

after_res_group : (F : Farm) (n : ℕ) (j : JobRow) (bs : List BoardRow) (t : ℕ) (d : Claimed) → IsOpenGroup F d j → IsOpen (give_res F n bs t) d
after_res_group F n j [] t d is = inr (j, is)
after_res_group F n j (b ∷ bs) t d is = inr (j, record { claim = is.claim; submitted = is.submitted; other = is.other })

-- a group was served
pub filter_given : (ps : List (JobRow × BoardRow)) (group other : ℕ) (jobs : List JobRow) → (other == group) ≡ false
    → AllByRecursion (λ m. (m.group == group) ≡ false → given JobState.Scheduled ps m ≡ m) jobs
    → filter (λ r. r.group == other) (map (given JobState.Scheduled ps) jobs) ≡ filter (λ r. r.group == other) jobs
filter_given ps group other [] apart all = refl
filter_given ps group other (m ∷ jobs) apart all = grind (arith, filter_given ps group other jobs apart all.1, given_group JobState.Scheduled ps m, same_number m.group other, all.0, nat_tests)

module _ (F : Farm) (group : ℕ) (bs : List BoardRow)
    (parted : AllByRecursion (λ m. (m.group == group) ≡ false → given JobState.Scheduled (zip (members F group) bs) m ≡ m) F.jobs) where
  abbrev ps : List (JobRow × BoardRow)
  ps = zip (members F group) bs

  after_group_res : (q : ResRow) (d : Claimed) → IsResClaim F d q → IsOpen (give_group F group bs) d
  after_group_res q d is = inl (q, (ap (find (λ (r : ResRow). r.number == q.number)) (res_kept ps F) ∙ is.0, is.1, is.2))

  after_group_group : (j : JobRow) (d : Claimed) → (j.group == group) ≡ false → IsOpenGroup F d j → IsOpen (give_group F group bs) d
  after_group_group j d other is =
      let same : members (give_group F group bs) j.group ≡ members F j.group =
      ap (filter (λ (r : JobRow). r.group == j.group)) (jobs_given JobState.Scheduled ps F) ∙ filter_given ps group j.group F.jobs other parted in
      let stays : given JobState.Scheduled ps j ≡ j =
      found_has (λ m. (m.group == group) ≡ false → given JobState.Scheduled ps m ≡ m) (λ r. r.number == j.number) j F.jobs parted is.claim.0 other in
      inr (
        j,
        record {
          claim = (
            ap (find (λ (r : JobRow). r.number == j.number)) (jobs_given JobState.Scheduled ps F)
                ∙ find_map (λ (r : JobRow). r.number == j.number) (given JobState.Scheduled ps)
                (λ m. ap (λ n. n == j.number) (given_number JobState.Scheduled ps m)) F.jobs
                ∙ ap (option_map (given JobState.Scheduled ps)) is.claim.0 ∙ ap Some stays,
            ap (λ ms. (j.number == j.group) && list_all waits ms) same ∙ is.claim.1,
            is.claim.2 ∙ sym (ap (λ ms. record { reservation = false; number = j.group; owner = j.owner; priority = j.priority; wants = map (λ m. m.want) ms }) same),
          );
          submitted = subst (AllByRecursion (λ m. m.state ≡ JobState.Submitted)) (sym same) is.submitted;
          other = λ low at. is.other (subst (λ n. 1 ≤ n) kept low) (sym kept ∙ at);
        },
      )
    where
      kept : (give_group F group bs).collector ≡ F.collector
      kept = collector_kept JobState.Scheduled ps F

-- what the group's boards leave of the other jobs
parted_by : (F : Farm) (c : Claimed) (j : JobRow) (bs : List BoardRow) → IsOpenGroup F c j → least F.boards (is_free F.types) c.wants ≡ Some bs → IsSound F
    → AllByRecursion (λ m. (m.group == j.group) ≡ false → given JobState.Scheduled (zip (members F j.group) bs) m ≡ m) F.jobs
parted_by F c j bs is found sound =
    let free = free_boards F c.wants bs sound.steady found in
    AllByRecursion-weaker (λ m two. two.1) F.jobs
    (parts F j.group bs sound is.submitted free.0 free.1 (as_many F c j bs is free.2) is.other)

pub IsOpen-give : (F : Farm) (c d : Claimed) (bs : List BoardRow) (t : ℕ) → IsOpen F c → IsOpen F d → (c ≡ d → ⊥)
    → least F.boards (is_free F.types) c.wants ≡ Some bs → IsSound F → IsOpen (give F c bs t) d
IsOpen-give F c d bs t (inl (r, is)) (inl (q, has)) apart found sound =
    subst (λ e. IsOpen (give F e bs t) d) (sym is.2)
    (after_res_res F r q bs t d is.0 is.1 (free_boards F c.wants bs sound.steady found).0 (differ (q.number == r.number) refl) has)
  where
    differ : (v : Bool) → (q.number == r.number) ≡ v → (q.number == r.number) ≡ false
    differ false other = other
    differ true same =
        let two : Some q ≡ Some r = sym has.0 ∙ ap (res_of F) (same_number q.number r.number same) ∙ is.0 in
        let one : q ≡ r = cc in
        absurd (apart (is.2 ∙ ap res_claim (sym one) ∙ sym has.2))
IsOpen-give F c d bs t (inl (r, is)) (inr (j, has)) apart found sound =
    subst (λ e. IsOpen (give F e bs t) d) (sym is.2) (after_res_group F r.number j bs t d has)
IsOpen-give F c d bs t (inr (j, is)) (inl (q, has)) apart found sound =
    subst (λ e. IsOpen (give F e bs t) d) (sym is.claim.2) (after_group_res F j.group bs (parted_by F c j bs is found sound) q d has)
IsOpen-give F c d bs t (inr (j, is)) (inr (k, has)) apart found sound =
    subst (λ e. IsOpen (give F e bs t) d) (sym is.claim.2)
    (after_group_group F j.group bs (parted_by F c j bs is found sound) k d (differ (k.group == j.group) refl) has)
  where
    differ : (v : Bool) → (k.group == j.group) ≡ v → (k.group == j.group) ≡ false
    differ false other = other
    differ true same =
        let number : k.number ≡ j.number = (leads F k has.claim.1).0 ∙ same_number k.group j.group same ∙ sym (leads F j is.claim.1).0 in
        let two : Some k ≡ Some j = sym has.claim.0 ∙ ap (job_of F) number ∙ is.claim.0 in
        let one : k ≡ j = cc in
        absurd (apart (is.claim.2 ∙ ap (group_claim F) (sym one) ∙ sym has.claim.2))

-- ---- one claim is passed over

-- what a claim that isn't met leaves
pub record IsOver (F G : Farm) (c : Claimed) : Type 0 where
  pub sound : IsSound G
  pub clock : G.clock ≡ F.clock
  pub was : (d : Claimed) → IsClaim G d → IsClaim F d
  pub opens : (d : Claimed) → (c ≡ d → ⊥) → IsOpen F d → IsOpen G d
  pub unmet : (wants : List Want) → IsUnmet F wants → IsUnmet G wants

collect_clock : (F : Farm) (group : ℕ) → (collect F group).clock ≡ F.clock
collect_clock F group = ap (λ (G : Farm). G.clock) (collect_is (members F group) F) ∙ clock_kept JobState.Scheduling (pairs_for F (members F group)) F

-- no reservation collects, and a group does where none did and it has two members or more
pub res_collects_not : (F : Farm) (c : Claimed) (r : ResRow) → IsResClaim F c r → may_collect F c ≡ true → ⊥
res_collects_not F c r is may =
    let two = both ((F.collector == 0) && not c.reservation) (nat_le 2 (length c.wants)) may in
    true≢false (sym (both (F.collector == 0) (not c.reservation) two.0).1 ∙ ap (λ (e : Claimed). not e.reservation) is.2)

pub group_collects : (F : Farm) (c : Claimed) (j : JobRow) → IsOpenGroup F c j → may_collect F c ≡ true → (F.collector ≡ 0) × (2 ≤ length (members F j.group))
group_collects F c j is may =
    let two = both ((F.collector == 0) && not c.reservation) (nat_le 2 (length c.wants)) may in
    let long : length c.wants ≡ length (members F j.group) =
    ap (λ (d : Claimed). length d.wants) is.claim.2 ∙ length-map (members F j.group) (λ m. m.want) in
    let several : 2 ≤ length (members F j.group) = (let e = two.1 in let l = long in grind (arith, nat_tests)) in
    (same_number F.collector 0 (both (F.collector == 0) (not c.reservation) two.0).0, several)

over_collect : (F : Farm) (c : Claimed) → IsOpen F c → IsSound F → may_collect F c ≡ true → IsOver F (collect F c.number) c
over_collect F c (inl (r, is)) sound may = absurd (res_collects_not F c r is may)
over_collect F c (inr (j, is)) sound may =
    let two = group_collects F c j is may in
    subst (λ e. IsOver F (collect F e) c) (ap (λ (d : Claimed). d.number) (sym is.claim.2))
    (record {
      sound = IsSound-collect F j sound two.0 is.claim.0 is.claim.1 is.submitted two.1;
      clock = collect_clock F j.group;
      was = claim_was F j sound two.0 is.claim.0 is.claim.1 is.submitted two.1;
      opens = λ d apart has. open_after F j sound two.0 is.claim.0 is.claim.1 is.submitted two.1 c d is.claim apart has;
      unmet = IsUnmet-collect F j sound two.0 is.claim.0 is.claim.1 is.submitted two.1;
    })

pub over : (F : Farm) (c : Claimed) → IsOpen F c → IsSound F → IsOver F (pass_over F c) c
over F c has sound =
    by_cases (λ G. IsOver F G c) (may_collect F c) (collect F c.number) F (over_collect F c has sound)
    (λ _. record { sound = sound; clock = refl; was = λ d is. is; opens = λ d _ is. is; unmet = λ wants is. is })

-- ---- the claims in turn

abbrev pub AreApartClaims : List Claimed → Type 0
AreApartClaims cs = EachTwo (λ c d. c ≡ d → ⊥) cs

-- two claims in order differ
less_differ : (c d : Claimed) → claim_cmp c d ≡ Less → c ≡ d → ⊥
less_differ c d less same = let tie : claim_cmp c d ≡ Equal = subst (λ e. claim_cmp c e ≡ Equal) same (tied_itself claim_total c) in
    let e : Less ≡ Equal = sym less ∙ tie in cc

-- those that pass a test, and then the others
split_apart : (test : Claimed → Bool) (cs : List Claimed) → IsStrictlySortedBy claim_cmp cs
    → AreApartClaims (filter test cs ++ filter (λ c. not (test c)) cs)
split_apart test cs sorted =
    each_append (λ c d. c ≡ d → ⊥) (filter test cs) (filter (λ c. not (test c)) cs)
    (each_weaker (λ c d. claim_cmp c d ≡ Less) (λ c d. c ≡ d → ⊥) less_differ (filter test cs) (each_sorted claim_cmp test cs sorted))
    (each_weaker (λ c d. claim_cmp c d ≡ Less) (λ c d. c ≡ d → ⊥) less_differ (filter (λ c. not (test c)) cs) (each_sorted claim_cmp (λ c. not (test c)) cs sorted))
    (AllByRecursion-weaker
    (λ c so. AllByRecursion-weaker (λ d other same. true≢false (sym other.1 ∙ ap (λ e. not (test e)) (sym same) ∙ ap not so.1)) (filter (λ d. not (test d)) cs)
    (filter_all (λ d. Unit {0}) (λ d. not (test d)) cs (all_true cs)))
    (filter test cs) (filter_all (λ c. Unit {0}) test cs (all_true cs)))

split_all : (P : Claimed → Type 0) (test : Claimed → Bool) (cs : List Claimed) → AllByRecursion P cs
    → AllByRecursion P (filter test cs ++ filter (λ c. not (test c)) cs)
split_all P test cs all = all_join P (filter test cs) (filter (λ c. not (test c)) cs)
    (AllByRecursion-weaker (λ c two. two.0) (filter test cs) (filter_all P test cs all))
    (AllByRecursion-weaker (λ c two. two.0) (filter (λ c. not (test c)) cs) (filter_all P (λ c. not (test c)) cs all))

pub taken_apart : (F : Farm) (group : ℕ) → AreApartClaims (claims_taken F group)
taken_apart F group = split_apart (is_group group) (queue F) (queue_sorted F)

pub taken_open : (F : Farm) (group : ℕ) → F.collector ≡ 0 → IsSound F → AllByRecursion (IsOpen F) (claims_taken F group)
taken_open F group none sound = split_all (IsOpen F) (is_group group) (queue F)
    (AllByRecursion-weaker (open_of_claim F none sound.collecting) (queue F) (queue_claims F sound.steady))
