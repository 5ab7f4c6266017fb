-- A group is given its boards, member by member.
use Rattle.std.proofs.Common.{[], ◌==◌, ◌||◌, ◌∙◌, ◌∷◌, ◌≡◌, ◌≤◌, ◌⊎◌, Bool, List, Some, ap, arith, cond, false, inl, inr, length, map, not, refl, subst, sym, true}
use Rattle.std.proofs.Common.{ℕ}
use Rattle.farm_sound.proofs.Names.{AllByRecursion, AllByRecursion-weaker, BoardRow, bytes_eq, false≢true, Farm, filter, fold, job_of}
use Rattle.std.specs.List.Sorted.{IsStrictlySortedBy}
use Rattle.farm_sound.proofs.Names.{JobRow, JobState, Less, list_any, members, nat_list_eq_equiv, nat_tests, ranked, zip}
use Rattle.farm_types.specs.Names.{are_apart, give_group, give_member, held_board, IsCollecting, IsHeldByKeys, IsSound, IsSteady, job_cmp, phase, placed_job}
use Rattle.farm_sound.proofs.Collecting.{IsCollecting-map}
use Rattle.farm_sound.proofs.Give.{IsFreeBoard, IsPlaced, IsHeldByKeys-give_member, IsSteady-give_member, other_board, other_job}
use Rattle.farm_sound.proofs.Lists.{filter_all}
use Rattle.farm_sound.proofs.Own.{differs_more, own_job}
use Rattle.farm_sound.proofs.Tests.{both, same_number}
use Rattle.farm_sound.proofs.Where.{AllByRecursion-both, by_cases, either, map_id}
use Rattle.farm_sound.proofs.Whole.{Alike, AreGroupsInPhase-map_by}

-- ---- pairs of members and boards

pub as_scheduled : IsPlaced JobState.Scheduled
as_scheduled = record { gives = refl; waits = λ e. cc; ends = λ e. cc }

pub as_scheduling : IsPlaced JobState.Scheduling
as_scheduling = record { gives = refl; waits = λ e. cc; ends = λ e. cc }

abbrev pub Ready : Farm → JobRow → Type 0
Ready F j = (job_of F j.number ≡ Some j) × (j.state ≡ JobState.Submitted)

-- each pair's member and board differ from those of the later pairs
abbrev pub AreApart : List (JobRow × BoardRow) → Type 0
AreApart [] = Unit {0}
AreApart (p ∷ ps) = AllByRecursion (λ q. ((q.0.number == p.0.number) ≡ false) × (bytes_eq q.1.name p.1.name ≡ false)) ps × AreApart ps

abbrev pub ArePairs : Farm → JobRow × BoardRow → Type 0
ArePairs F p = Ready F p.0 × IsFreeBoard F p.1

rest_ready : (F : Farm) (p : JobRow × BoardRow) (ps : List (JobRow × BoardRow)) → ArePairs F p
    → AllByRecursion (λ q. ((q.0.number == p.0.number) ≡ false) × (bytes_eq q.1.name p.1.name ≡ false)) ps → AllByRecursion (ArePairs F) ps
    → AllByRecursion (ArePairs (give_member JobState.Scheduled F (p.0, p.1))) ps
rest_ready F p [] is apart all = tt
rest_ready F p (q ∷ qs) is apart all = (
  ((other_job JobState.Scheduled as_scheduled F p.0 p.1 is.0.0 is.0.1 is.1 q.0 apart.0.0 all.0.0.0, all.0.0.1), other_board JobState.Scheduled as_scheduled F p.0 p.1 is.0.0 is.0.1 is.1 q.1 apart.0.1 all.0.1),
  rest_ready F p qs is apart.1 all.1,
)

pub give_all : (ps : List (JobRow × BoardRow)) (F : Farm) → AllByRecursion (ArePairs F) ps → AreApart ps → IsSteady F → IsHeldByKeys F
    → IsSteady (fold (give_member JobState.Scheduled) F ps) × IsHeldByKeys (fold (give_member JobState.Scheduled) F ps)
give_all [] F all apart steady held_board = (steady, held_board)
give_all (p ∷ ps) F all apart steady held_board =
    give_all ps (give_member JobState.Scheduled F (p.0, p.1)) (rest_ready F p ps all.0 apart.0 all.1) apart.1
    (IsSteady-give_member JobState.Scheduled as_scheduled F p.0 p.1 all.0.0.0 all.0.0.1 all.0.1 steady)
    (IsHeldByKeys-give_member JobState.Scheduled as_scheduled F p.0 p.1 all.0.0.0 all.0.0.1 all.0.1 held_board)

zip_all : {A B : Type 0} (P : A → Type 0) (Q : B → Type 0) (xs : List A) (ys : List B) → AllByRecursion P xs → AllByRecursion Q ys
    → AllByRecursion (λ p. P p.0 × Q p.1) (zip xs ys)
zip_all P Q [] ys p q = tt
zip_all P Q (x ∷ xs) [] p q = tt
zip_all P Q (x ∷ xs) (y ∷ ys) p q = ((p.0, q.0), zip_all P Q xs ys p.1 q.1)

pub filter_sorted : (test : JobRow → Bool) (xs : List JobRow) → IsStrictlySortedBy job_cmp xs → IsStrictlySortedBy job_cmp (filter test xs)
unfolding IsStrictlySortedBy
filter_sorted test [] sorted = tt
filter_sorted test (x ∷ xs) sorted = by_cases (IsStrictlySortedBy job_cmp) (test x) (x ∷ filter test xs) (filter test xs)
    (λ _. (AllByRecursion-weaker (λ y two. two.0) (filter test xs) (filter_all (λ y. job_cmp x y ≡ Less) test xs sorted.0), filter_sorted test xs sorted.1))
    (λ _. filter_sorted test xs sorted.1)

not_any : (b : BoardRow) (bs : List BoardRow) → not (list_any (λ c. bytes_eq b.name c.name) bs) ≡ true → AllByRecursion (λ c. bytes_eq c.name b.name ≡ false) bs
not_any b [] is = tt
not_any b (c ∷ bs) is = by (bytes_eq b.name c.name) refl is (not_any b bs)
  where
    by : (v : Bool) → bytes_eq b.name c.name ≡ v → not (v || list_any (λ c. bytes_eq b.name c.name) bs) ≡ true
        → (not (list_any (λ c. bytes_eq b.name c.name) bs) ≡ true → AllByRecursion (λ c. bytes_eq c.name b.name ≡ false) bs)
        → AllByRecursion (λ c. bytes_eq c.name b.name ≡ false) (c ∷ bs)
    by true same is rest = absurd (false≢true is)
    by false other is rest = (nat_list_eq_equiv.symm c.name b.name ∙ other, rest is)

zip_apart : (ms : List JobRow) (bs : List BoardRow) → IsStrictlySortedBy job_cmp ms → are_apart bs ≡ true → AreApart (zip ms bs)
unfolding IsStrictlySortedBy
zip_apart [] bs sorted apart = tt
zip_apart (m ∷ ms) [] sorted apart = tt
zip_apart (m ∷ ms) (b ∷ bs) sorted apart =
    let two = both (not (list_any (λ c. bytes_eq b.name c.name) bs)) (are_apart bs) apart in (
      zip_all (λ k. (k.number == m.number) ≡ false) (λ c. bytes_eq c.name b.name ≡ false) ms bs
          (AllByRecursion-weaker (λ k less. differs_more k.number m.number (ranked m.number k.number Less (sym less))) ms sorted.0) (not_any b bs two.0),
      zip_apart ms bs sorted.1 two.1,
    )

-- ---- the jobs afterwards

abbrev pub given : JobState → List (JobRow × BoardRow) → JobRow → JobRow
given state [] m = m
given state (p ∷ ps) m = given state ps (cond (m.number == p.0.number) (placed_job state p.1.name m) m)

map_map : {A : Type 0} (f g : A → A) (xs : List A) → map g (map f xs) ≡ map (λ x. g (f x)) xs
map_map f g [] = refl
map_map f g (x ∷ xs) = ap (λ rest. g (f x) ∷ rest) (map_map f g xs)

pub jobs_given : (state : JobState) (ps : List (JobRow × BoardRow)) (F : Farm) → (fold (give_member state) F ps).jobs ≡ map (given state ps) F.jobs
jobs_given state [] F = sym (map_id F.jobs)
jobs_given state (p ∷ ps) F = jobs_given state ps (give_member state F (p.0, p.1)) ∙ map_map (λ m. cond (m.number == p.0.number) (placed_job state p.1.name m) m) (given state ps) F.jobs

abbrev HasNumber : ℕ → List (JobRow × BoardRow) → Type 0
HasNumber n [] = ⊥
HasNumber n (p ∷ ps) = (n ≡ p.0.number) ⊎ HasNumber n ps

abbrev IsNumberOf : ℕ → List JobRow → Type 0
IsNumberOf n [] = ⊥
IsNumberOf n (m ∷ ms) = (n ≡ m.number) ⊎ IsNumberOf n ms

has_from : (n : ℕ) (ms : List JobRow) (bs : List BoardRow) → length bs ≡ length ms → IsNumberOf n ms → HasNumber n (zip ms bs)
has_from n [] bs long at = absurd at
has_from n (m ∷ ms) [] long at = absurd (omega arith)
has_from n (m ∷ ms) (b ∷ bs) long (inl same) = inl same
has_from n (m ∷ ms) (b ∷ bs) long (inr at) = inr (has_from n ms bs (omega arith) at)

pub given_number : (state : JobState) (ps : List (JobRow × BoardRow)) (m : JobRow) → (given state ps m).number ≡ m.number
given_number state [] m = refl
given_number state (p ∷ ps) m = given_number state ps (cond (m.number == p.0.number) (placed_job state p.1.name m) m)
    ∙ by_cases (λ (k : JobRow). k.number ≡ m.number) (m.number == p.0.number) (placed_job state p.1.name m) m (λ _. refl) (λ _. refl)

pub given_group : (state : JobState) (ps : List (JobRow × BoardRow)) (m : JobRow) → (given state ps m).group ≡ m.group
given_group state [] m = refl
given_group state (p ∷ ps) m = given_group state ps (cond (m.number == p.0.number) (placed_job state p.1.name m) m)
    ∙ by_cases (λ (k : JobRow). k.group ≡ m.group) (m.number == p.0.number) (placed_job state p.1.name m) m (λ _. refl) (λ _. refl)

given_scheduled : (ps : List (JobRow × BoardRow)) (m : JobRow) → (m.state ≡ JobState.Scheduled) ⊎ HasNumber m.number ps
    → (given JobState.Scheduled ps m).state ≡ JobState.Scheduled
given_scheduled [] m (inl is) = is
given_scheduled [] m (inr at) = absurd at
given_scheduled (p ∷ ps) m at = grind (arith, given_scheduled ps (cond (m.number == p.0.number) (placed_job JobState.Scheduled p.1.name m) m), nat_tests)

-- a job is as it was, or in the state
pub given_state : (state : JobState) (ps : List (JobRow × BoardRow)) (m : JobRow)
    → ((given state ps m).state ≡ m.state) ⊎ ((given state ps m).state ≡ state)
given_state state [] m = inl refl
given_state state (p ∷ ps) m = grind (arith, given_state state ps (placed_job state p.1.name m), given_state state ps m, nat_tests)

-- it keeps its owner, its priority and its want
pub given_same : (state : JobState) (ps : List (JobRow × BoardRow)) (m : JobRow)
    → ((given state ps m).owner ≡ m.owner) × ((given state ps m).priority ≡ m.priority) × ((given state ps m).want ≡ m.want)
given_same state [] m = (refl, refl, refl)
given_same state (p ∷ ps) m = by_cases
    (λ (k : JobRow). ((given state ps k).owner ≡ m.owner) × ((given state ps k).priority ≡ m.priority) × ((given state ps k).want ≡ m.want))
    (m.number == p.0.number) (placed_job state p.1.name m) m (λ _. given_same state ps (placed_job state p.1.name m)) (λ _. given_same state ps m)

pub given_other : (state : JobState) (ps : List (JobRow × BoardRow)) (m : JobRow) → AllByRecursion (λ p. (m.number == p.0.number) ≡ false) ps → given state ps m ≡ m
given_other state [] m all = refl
given_other state (p ∷ ps) m all = ap (λ v. given state ps (cond v (placed_job state p.1.name m) m)) all.0 ∙ given_other state ps m all.1

members_number : (group : ℕ) (jobs : List JobRow) → AllByRecursion (λ m. m.group ≡ group → IsNumberOf m.number (filter (λ r. r.group == group) jobs)) jobs
members_number group [] = tt
members_number group (m ∷ jobs) = grind (arith, members_number group jobs, AllByRecursion-weaker, false≢true, nat_tests)

-- nothing else changes but the boards
pub given_rest : (state : JobState) (ps : List (JobRow × BoardRow)) (F : Farm) → record (fold (give_member state) F ps) { jobs = F.jobs; boards = F.boards } ≡ F
given_rest state [] F = refl
given_rest state (p ∷ ps) F = ap (λ (G : Farm). record G { jobs = F.jobs; boards = F.boards }) (given_rest state ps (give_member state F (p.0, p.1)))

pub collector_kept : (state : JobState) (ps : List (JobRow × BoardRow)) (F : Farm) → (fold (give_member state) F ps).collector ≡ F.collector
collector_kept state ps F = ap (λ (G : Farm). G.collector) (given_rest state ps F)

-- ---- the group

pub own_members : (F : Farm) (group : ℕ) → IsSteady F → AllByRecursion (λ m. (job_of F m.number ≡ Some m) × ((m.group == group) ≡ true)) (members F group)
own_members F group steady = filter_all (λ m. job_of F m.number ≡ Some m) (λ r. r.group == group) F.jobs (own_job F steady)

pub ready_members : (F : Farm) (group : ℕ) → IsSteady F → AllByRecursion (λ m. m.state ≡ JobState.Submitted) (members F group)
    → AllByRecursion (Ready F) (members F group)
ready_members F group steady submitted = AllByRecursion-weaker (λ m two. (two.0.0, two.1)) (members F group)
    (AllByRecursion-both (λ m. (job_of F m.number ≡ Some m) × ((m.group == group) ≡ true)) (λ m. m.state ≡ JobState.Submitted)
    (members F group) (own_members F group steady) submitted)

-- a job of another group stays where members of the group get boards
pub given_elsewhere : (F : Farm) (group : ℕ) (state : JobState) (ps : List (JobRow × BoardRow))
    → AllByRecursion (λ p. (job_of F p.0.number ≡ Some p.0) × ((p.0.group == group) ≡ true)) ps
    → (m : JobRow) → job_of F m.number ≡ Some m → (m.group == group) ≡ false → given state ps m ≡ m
given_elsewhere F group state ps all m own other = grind (arith, given_other state ps m, AllByRecursion-weaker, either, same_number m.number, false≢true, nat_tests)

module _ (F : Farm) (group : ℕ) (bs : List BoardRow) (sound : IsSound F)
    (waits : AllByRecursion (λ m. m.state ≡ JobState.Submitted) (members F group)) (free : AllByRecursion (IsFreeBoard F) bs)
    (apart : are_apart bs ≡ true) (long : length bs ≡ length (members F group)) (other : 1 ≤ F.collector → F.collector ≡ group → ⊥) where
  abbrev pairs : List (JobRow × BoardRow)
  pairs = zip (members F group) bs

  ready : AllByRecursion (Ready F) (members F group)
  ready = ready_members F group sound.steady waits

  pub pairs_ready : AllByRecursion (ArePairs F) pairs
  pairs_ready = zip_all (Ready F) (IsFreeBoard F) (members F group) bs ready free

  steady_held : IsSteady (give_group F group bs) × IsHeldByKeys (give_group F group bs)
  steady_held = give_all pairs F pairs_ready
      (zip_apart (members F group) bs (filter_sorted (λ r. r.group == group) F.jobs sound.steady.jobs_sorted) apart) sound.steady sound.held

  -- each job's part in it
  abbrev pub Part : JobRow → Type 0
  Part m = (m.group ≡ group → (given JobState.Scheduled pairs m).state ≡ JobState.Scheduled) × ((m.group == group) ≡ false → given JobState.Scheduled pairs m ≡ m)

  part : (m : JobRow) → job_of F m.number ≡ Some m → (m.group ≡ group → IsNumberOf m.number (members F group)) → Part m
  part m own named = (
    λ same. given_scheduled pairs m (inr (has_from m.number (members F group) bs long (named same))),
    given_elsewhere F group JobState.Scheduled pairs
        (AllByRecursion-weaker (λ p two. two.0) pairs
        (zip_all (λ k. (job_of F k.number ≡ Some k) × ((k.group == group) ≡ true)) (IsFreeBoard F) (members F group) bs (own_members F group sound.steady) free)) m own,
  )

  pub parts : AllByRecursion Part F.jobs
  parts = AllByRecursion-weaker (λ m two. part m two.0 two.1) F.jobs
      (AllByRecursion-both (λ m. job_of F m.number ≡ Some m) (λ m. m.group ≡ group → IsNumberOf m.number (members F group)) F.jobs
      (own_job F sound.steady) (members_number group F.jobs))

  alike_given : (j m : JobRow) → Part j → Part m → Alike j m → Alike (given JobState.Scheduled pairs j) (given JobState.Scheduled pairs m)
  alike_given j m pj pm alike same = grind (arith, given_group JobState.Scheduled pairs m, given_group JobState.Scheduled pairs j, same_number j.group group, pm.0, pj.0, pm.1, pj.1, nat_tests)

  -- no job becomes Scheduling
  given_stays : (m : JobRow) → Part m → (given JobState.Scheduled pairs m).state ≡ JobState.Scheduling → m.state ≡ JobState.Scheduling
  given_stays m p is = grind (arith, nat_tests)

  -- and the group that is served isn't the collector
  given_waits : (m : JobRow) → Part m → 1 ≤ F.collector → m.group ≡ F.collector → phase m.state ≡ 0 → phase (given JobState.Scheduled pairs m).state ≡ 0
  given_waits m p low same waits_m = grind (arith, nat_tests)

  pub IsSound-give_group : IsSound (give_group F group bs)
  IsSound-give_group = record {
    steady = steady_held.0;
    held = steady_held.1;
    collecting = subst (λ c. IsCollecting c (give_group F group bs).jobs) (sym (collector_kept JobState.Scheduled pairs F))
        (subst (IsCollecting F.collector) (sym (jobs_given JobState.Scheduled pairs F))
        (IsCollecting-map F.collector Part (given JobState.Scheduled pairs) F.jobs parts (given_group JobState.Scheduled pairs) given_stays given_waits sound.collecting));
    whole = subst (λ l. AllByRecursion (λ j. AllByRecursion (Alike j) l) l) (sym (jobs_given JobState.Scheduled pairs F))
        (AreGroupsInPhase-map_by F Part (given JobState.Scheduled pairs) parts alike_given sound.whole);
  }
