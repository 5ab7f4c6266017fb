-- A farm whose rows change in their places keeps the claims of some numbers, and its queue with them.
use Rattle.std.proofs.Common.{[], ◌&&◌, ◌++◌, ◌==◌, ◌∙◌, ◌∷◌, ◌≡◌, Bool, List, ap, cond, false, inl, inr, map, not, refl, sym, true, ℕ, arith, ◌+◌, ◌-◌, ◌≤◌}
use Rattle.std.proofs.Common.{IsNone, Some, subst, suc, zero}
use mathlib.Core.Bool.{true≢false}
use Rattle.farm_pick.proofs.Names.{AllByRecursion, AllByRecursion-both, AllByRecursion-weaker, and-false, and-true, BoardRow, by_cases, cases_eq, claim_total}
use Rattle.farm_pick.proofs.Names.{false_from_ne_true, filter_all, found_has, found_passes, given, itself, JobRow, JobState, list_all, list_any, map_id, ne_eqb}
use Rattle.farm_pick.proofs.Names.{or_from, queue_sorted, ResRow, same_number}
use Rattle.std.specs.List.{filter}
use Rattle.std.proofs.lemmas.List.Elements.{filter-append}
use Rattle.std.proofs.lemmas.List.Folds.{list_all-map}
use Rattle.std.proofs.lemmas.List.Kept.{IsStrictlySortedBy-filter}
use Rattle.farm_types.specs.Names.{claim_cmp, Claimed, claims, Farm, group_claim, is_waiting, IsAmong, IsJobRow, IsSteady, job_of, leads_claim, put_all, queue}
use Rattle.farm_types.specs.Names.{res_claim, res_of, waits}
use Rattle.farm_sound.proofs.Claims.{all_claims}
use Rattle.farm_sound.proofs.Group.{given_group, given_number, given_same}
use Rattle.farm_sound.proofs.Own.{own_res}
use Rattle.farm_sound.proofs.Queue.{among_queue}
use Rattle.farm_pick.proofs.Entries.{all_put, among_itself, among_map, among_puts}
use Rattle.farm_pick.proofs.Later.{among_later, later_none}
use Rattle.farm_pick.proofs.Ordered.{same_elements, tied_same}

-- ---- a group's number is that of its first member, so it is no reservation's

module _ (F : Farm) (steady : IsSteady F) where
  -- of a job so many places behind its group's first member
  none_at : (n : ℕ) (j : JobRow) → j.number ≤ j.group + n → IsJobRow F j → IsNone (res_of F j.group)
  none_at zero j near is =
      let same : j.number ≡ j.group = omega (arith, is.group.0, near) in
      subst (λ k. IsNone (res_of F k)) same is.apart
  none_at (suc n) j near is = elim (cases_eq j.number j.group) [
    | inl same ↦ subst (λ k. IsNone (res_of F k)) same is.apart
    | inr other ↦
        let f = is.follows other in
        let row : IsJobRow F f.previous = found_has (IsJobRow F) (λ r. r.number == j.number - 1) f.previous F.jobs steady.jobs f.there in
        let at : f.previous.number ≡ j.number - 1 =
        same_number f.previous.number (j.number - 1) (found_passes (λ (r : JobRow). r.number == j.number - 1) f.previous F.jobs f.there) in
        subst (λ k. IsNone (res_of F k)) f.group (none_at n f.previous (let group = f.group in omega (arith, at, group, near)) row)
  ]

  group_apart : AllByRecursion (λ j. IsNone (res_of F j.group)) F.jobs
  group_apart = AllByRecursion-weaker (λ j is. none_at j.number j (omega arith) is) F.jobs steady.jobs

  -- a reservation that is there has another number than a group
  apart_from : (n g : ℕ) (r : ResRow) → res_of F n ≡ Some r → IsNone (res_of F g) → (n ≡ g) → ⊥
  apart_from n g r there none same = true≢false (subst IsNone (ap (res_of F) (sym same) ∙ there) none)

  -- no group has a reservation's number
  pub groups_differ : (n : ℕ) (r : ResRow) → res_of F n ≡ Some r → AllByRecursion (λ j. (j.group == n) ≡ false) F.jobs
  groups_differ n r there = AllByRecursion-weaker (λ j none. ne_eqb j.group n (λ same. apart_from n j.group r there none (sym same))) F.jobs group_apart

  -- no reservation has a group's number
  pub reservations_differ : (n : ℕ) (j : JobRow) → job_of F n ≡ Some j → AllByRecursion (λ r. (r.number == j.group) ≡ false) F.reservations
  reservations_differ n j there =
      let none : IsNone (res_of F j.group) = found_has (λ k. IsNone (res_of F k.group)) (λ r. r.number == n) j F.jobs group_apart there in
      AllByRecursion-weaker (λ r own. ne_eqb r.number j.group (λ same. apart_from r.number j.group r own none same)) F.reservations (own_res F steady)

-- ---- lists

-- elements that change so that those of a kind go: what is seen of the others stays
pub taken : {A B : Type 0} (f : A → A) (test new : A → Bool) (view seen : A → B) (kept : B → Bool) (xs : List A)
    → AllByRecursion (λ x. (new (f x) ≡ (test x && kept (view x))) × (seen (f x) ≡ view x)) xs
    → map seen (filter new (map f xs)) ≡ filter kept (map view (filter test xs))
taken f test new view seen kept [] all = refl
taken f test new view seen kept (x ∷ xs) all = grind (arith, taken f test new view seen kept xs all.1)

-- elements that pass as before, and are seen as before
pub seen_same : {A B : Type 0} (f : A → A) (test : A → Bool) (view : A → B) (xs : List A)
    → AllByRecursion (λ x. (test (f x) ≡ test x) × (test x ≡ true → view (f x) ≡ view x)) xs
    → map view (filter test (map f xs)) ≡ map view (filter test xs)
seen_same f test view [] all = refl
seen_same f test view (x ∷ xs) all = grind (arith, seen_same f test view xs all.1)

-- one of those that pass the first test fails the second
pub one_fails : {A : Type 0} (test pass : A → Bool) (x : A) (xs : List A) → IsAmong x xs → test x ≡ true → pass x ≡ false
    → list_all pass (filter test xs) ≡ false
one_fails test pass x [] at is fails = absurd at
one_fails test pass x (y ∷ xs) at is fails = grind (arith, one_fails test pass x xs)

-- none passes
pub none_any : {A : Type 0} (test : A → Bool) (xs : List A) → AllByRecursion (λ x. test x ≡ false) xs → list_any test xs ≡ false
none_any test [] all = refl
none_any test (x ∷ xs) all = or_from (test x) (list_any test xs) all.0 (none_any test xs all.1)

-- one that passes both tests
one_any : {A : Type 0} (test pass : A → Bool) (x : A) (xs : List A) → IsAmong x xs → test x ≡ true → pass x ≡ true → list_any pass (filter test xs) ≡ true
one_any test pass x [] at is passes = absurd at
one_any test pass x (y ∷ xs) at is passes = grind (arith, one_any test pass x xs)

-- where x alone passes the second test, one of those that pass the first does so if x passes the first
pub any_own : {A : Type 0} (test own : A → Bool) (x : A) (xs : List A) → IsAmong x xs → own x ≡ true → AllByRecursion (λ q. own q ≡ true → q ≡ x) xs
    → list_any own (filter test xs) ≡ test x
any_own {A = A} test own x xs at is only = grind (arith, one_any test own x xs at, none_any own (filter test xs), AllByRecursion-weaker, false_from_ne_true, filter_all (λ q. own q ≡ true → q ≡ x) test xs only)

-- ---- the queue of some of the claims

pub queue_taken : (F G : Farm) (kept : Claimed → Bool) → IsSteady F → claims G ≡ filter kept (claims F) → queue G ≡ filter kept (queue F)
queue_taken F G kept old is =
    same_elements claim_cmp claim_total (queue G) (filter kept (queue F)) (queue_sorted G)
    (IsStrictlySortedBy-filter claim_cmp kept (queue F) (queue_sorted F))
    (all_put claim_cmp claim_total (λ c. IsAmong c (filter kept (queue F))) (claims G) [] tt here)
    (AllByRecursion-weaker (λ c two. there c two.0 two.1) (filter kept (queue F))
    (filter_all (λ c. IsAmong c (claims F)) kept (queue F)
    (all_put claim_cmp claim_total (λ c. IsAmong c (claims F)) (claims F) [] tt (among_itself (claims F)))))
  where
    here : AllByRecursion (λ c. IsAmong c (filter kept (queue F))) (claims G)
    here = rw is (AllByRecursion-weaker (λ c two. among_later kept c (queue F) two.0 two.1) (filter kept (claims F))
        (filter_all (λ c. IsAmong c (queue F)) kept (claims F)
        (AllByRecursion-weaker (λ c claim. among_queue F old c claim) (claims F) (all_claims F old))))

    -- those that tie are one, since the old queue is in strict order
    there : (c : Claimed) → IsAmong c (claims F) → kept c ≡ true → IsAmong c (queue G)
    there c at is_kept =
        among_puts claim_cmp claim_total (λ d. IsAmong d (filter kept (queue F)))
        (λ d e one other tie. tied_same claim_cmp claim_total d e (filter kept (queue F))
        (IsStrictlySortedBy-filter claim_cmp kept (queue F) (queue_sorted F)) one other tie)
        c (claims G) [] here tt (inl (rw is (among_later kept c (claims F) at is_kept)))

-- ---- rows that change in their places

-- what a job keeps for its group's claim
pub record SameClaim (j k : JobRow) : Type 0 where
  pub number : k.number ≡ j.number
  pub group : k.group ≡ j.group
  pub owner : k.owner ≡ j.owner
  pub priority : k.priority ≡ j.priority
  pub want : k.want ≡ j.want

pub same_claim : (j : JobRow) → SameClaim j j
same_claim j = record { number = refl; group = refl; owner = refl; priority = refl; want = refl }

pub same_then : (j k m : JobRow) → SameClaim j k → SameClaim k m → SameClaim j m
same_then j k m first then = record {
  number = then.number ∙ first.number;
  group = then.group ∙ first.group;
  owner = then.owner ∙ first.owner;
  priority = then.priority ∙ first.priority;
  want = then.want ∙ first.want;
}

-- a job that is given a board keeps all that
pub given_claim : (state : JobState) (ps : List (JobRow × BoardRow)) (m : JobRow) → SameClaim m (given state ps m)
given_claim state ps m =
    let same = given_same state ps m in
    record { number = given_number state ps m; group = given_group state ps m; owner = same.0; priority = same.1; want = same.2 }

module _ (F G : Farm) (kept : ℕ → Bool) (fj : JobRow → JobRow) (fr : ResRow → ResRow) where
  -- the jobs of the groups that are kept wait as before, and those of the others do so no more; the reservations likewise
  pub record Takes : Type 0 where
    pub jobs : G.jobs ≡ map fj F.jobs
    pub reservations : G.reservations ≡ map fr F.reservations
    pub same_job : (j : JobRow) → SameClaim j (fj j)
    pub same_res : (r : ResRow) → res_claim (fr r) ≡ res_claim r
    pub jobs_wait : AllByRecursion (λ j. waits (fj j) ≡ (waits j && kept j.group)) F.jobs
    pub reservations_wait : AllByRecursion (λ r. is_waiting (fr r) ≡ (is_waiting r && kept r.number)) F.reservations

  module _ (takes : Takes) where
    abbrev of_group : ℕ → JobRow → Bool
    of_group g r = r.group == g

    same_group : (g : ℕ) (j : JobRow) → of_group g (fj j) ≡ of_group g j
    same_group g j = ap (λ k. k == g) (takes.same_job j).group

    -- the wants of a group stay, and of one that is kept whether all wait
    wants_same : (g : ℕ) → map (λ (m : JobRow). m.want) (filter (of_group g) (map fj F.jobs)) ≡ map (λ (m : JobRow). m.want) (filter (of_group g) F.jobs)
    wants_same g = seen_same fj (of_group g) (λ m. m.want) F.jobs
        (AllByRecursion-weaker (λ j is. (same_group g j, λ _. (takes.same_job j).want)) F.jobs takes.jobs_wait)

    all_same : (g : ℕ) → kept g ≡ true → list_all waits (filter (of_group g) (map fj F.jobs)) ≡ list_all waits (filter (of_group g) F.jobs)
    all_same g is =
        sym (list_all-map (λ v. v) waits (filter (of_group g) (map fj F.jobs)))
        ∙ ap (list_all (λ v. v)) (seen_same fj (of_group g) waits F.jobs
        (AllByRecursion-weaker (λ j same. (
          same_group g j,
          λ mine. same ∙ ap (λ v. waits j && v) (ap kept (same_number j.group g mine) ∙ is) ∙ and-true (waits j),
        )) F.jobs takes.jobs_wait))
        ∙ list_all-map (λ v. v) waits (filter (of_group g) F.jobs)

    leads_after : (j : JobRow) → IsAmong j F.jobs → waits (fj j) ≡ (waits j && kept j.group) → leads_claim G (fj j) ≡ (leads_claim F j && kept j.group)
    leads_after j at is = grind (arith, all_same j.group, and-true (leads_claim F j), one_fails (of_group j.group) waits (fj j) (map fj F.jobs) (among_map fj j F.jobs at) (same_group j.group j ∙ itself j.group), among_map fj j F.jobs at, same_group j.group j, itself j.group, and-false (waits j), and-false (j.number == j.group), and-false (leads_claim F j))

    claim_after : (j : JobRow) → group_claim G (fj j) ≡ group_claim F j
    claim_after j =
        (λ i. record {
          reservation = false;
          number = (takes.same_job j).group i;
          owner = (takes.same_job j).owner i;
          priority = (takes.same_job j).priority i;
          wants = map (λ (m : JobRow). m.want) (filter (of_group ((takes.same_job j).group i)) (takes.jobs i));
        })
        ∙ ap (λ ws. record { reservation = false; number = j.group; owner = j.owner; priority = j.priority; wants = ws }) (wants_same j.group)

    pub claims_taken : claims G ≡ filter (λ c. kept c.number) (claims F)
    claims_taken =
        (λ i. map res_claim (filter is_waiting (takes.reservations i)) ++ map (group_claim G) (filter (leads_claim G) (takes.jobs i)))
        ∙ (λ i. taken fr is_waiting is_waiting res_claim res_claim (λ c. kept c.number) F.reservations
        (AllByRecursion-weaker (λ r is. (is, takes.same_res r)) F.reservations takes.reservations_wait) i
        ++ taken fj (leads_claim F) (leads_claim G) (group_claim F) (group_claim G) (λ c. kept c.number) F.jobs
        (AllByRecursion-weaker (λ j two. (leads_after j two.0 two.1, claim_after j)) F.jobs
        (AllByRecursion-both (λ j. IsAmong j F.jobs) (λ j. waits (fj j) ≡ (waits j && kept j.group)) F.jobs (among_itself F.jobs) takes.jobs_wait)) i)
        ∙ sym (filter-append (λ c. kept c.number) (map res_claim (filter is_waiting F.reservations)) (map (group_claim F) (filter (leads_claim F) F.jobs)))

    pub queue_takes : IsSteady F → queue G ≡ filter (λ c. kept c.number) (queue F)
    queue_takes old = queue_taken F G (λ c. kept c.number) old claims_taken

-- some reservations change, and no job
pub takes_reservations : (F G : Farm) (kept : ℕ → Bool) (test : ResRow → Bool) (f : ResRow → ResRow) → G.jobs ≡ F.jobs
    → G.reservations ≡ map (λ r. cond (test r) (f r) r) F.reservations → ((r : ResRow) → res_claim (f r) ≡ res_claim r) → AllByRecursion (λ j. kept j.group ≡ true) F.jobs
    → AllByRecursion (λ r. (test r ≡ true → is_waiting (f r) ≡ (is_waiting r && kept r.number)) × (test r ≡ false → kept r.number ≡ true)) F.reservations
    → Takes F G kept (λ j. j) (λ r. cond (test r) (f r) r)
takes_reservations F G kept test f jobs reservations same others mine = record {
  jobs = jobs ∙ sym (map_id F.jobs);
  reservations = reservations;
  same_job = same_claim;
  same_res = λ r. by_cases (λ q. res_claim q ≡ res_claim r) (test r) (f r) r (λ _. same r) (λ _. refl);
  jobs_wait = AllByRecursion-weaker (λ j stays. sym (ap (λ v. waits j && v) stays ∙ and-true (waits j))) F.jobs others;
  reservations_wait = AllByRecursion-weaker (λ r two. by_cases (λ q. is_waiting q ≡ (is_waiting r && kept r.number)) (test r) (f r) r two.0
      (λ out. sym (ap (λ v. is_waiting r && v) (two.1 out) ∙ and-true (is_waiting r)))) F.reservations mine;
}

-- those that change wait no more: their claims go
pub reservations_go : (F G : Farm) (kept : ℕ → Bool) (test : ResRow → Bool) (f : ResRow → ResRow) → IsSteady F → G.jobs ≡ F.jobs
    → G.reservations ≡ map (λ r. cond (test r) (f r) r) F.reservations → ((r : ResRow) → res_claim (f r) ≡ res_claim r) → ((r : ResRow) → is_waiting (f r) ≡ false)
    → AllByRecursion (λ j. kept j.group ≡ true) F.jobs → AllByRecursion (λ r. kept r.number ≡ not (test r)) F.reservations
    → queue G ≡ filter (λ c. kept c.number) (queue F)
reservations_go F G kept test f steady jobs reservations same gone others mine =
    queue_takes F G kept (λ j. j) (λ r. cond (test r) (f r) r) (takes_reservations F G kept test f jobs reservations same others (AllByRecursion-weaker (λ r is. (
      (λ so. gone r ∙ sym (ap (λ v. is_waiting r && v) (is ∙ ap not so) ∙ and-false (is_waiting r))),
      (λ out. is ∙ ap not out),
    )) F.reservations mine)) steady

-- whether a number is another
abbrev pub other : ℕ → ℕ → Bool
other n m = not (m == n)

-- a number that differs counts for nothing
pub and_other : (v : Bool) (m n : ℕ) → (m == n) ≡ false → v ≡ (v && other n m)
and_other v m n differs = sym (ap (λ w. v && not w) differs ∙ and-true v)

-- where all are kept the queue stays
pub queue_stays : (F G : Farm) (fj : JobRow → JobRow) (fr : ResRow → ResRow) → Takes F G (λ n. true) fj fr → queue G ≡ queue F
queue_stays F G fj fr takes = ap (put_all claim_cmp []) (claims_taken F G (λ n. true) fj fr takes ∙ later_none (claims F))
