-- The pass keeps soundness, and after it no claim is met by free boards: each was met and served, or found none and finds none.
use Rattle.std.proofs.Common.{[], ◌&&◌, ◌+◌, ◌++◌, ◌==◌, ◌∙◌, ◌∷◌, ◌≡◌, ◌≤◌, ◌⊎◌, Bool, List, None, Option, Some, ap, arith, cond, false, inl, inr, length, map}
use Rattle.std.proofs.Common.{not, refl, subst, sym, true, ℕ}
use Rattle.farm_sound.proofs.Names.{AllByRecursion, AllByRecursion-weaker, BoardRow, Farm, filter, find, fold, found_has, job_of, JobRow, JobState}
use Rattle.farm_sound.proofs.Names.{list_all, members, option_map, option_map_or, res_of, ResRow, true≢false, Want, zip}
use Rattle.farm_types.specs.Names.{allocated_reservation, checks, Claimed, claims, claims_taken, expire, give, give_group, give_res, giving_back, is_due}
use Rattle.farm_types.specs.Names.{is_free, is_group, is_waiting, IsAmong, IsSound, leads_claim, least, pass_over, phase, queue, serve, serve_all, Served}
use Rattle.farm_types.specs.Names.{waits}
use Rattle.farm_sound.specs.Served.{IsServed, IsCollectorUnmet}
use Rattle.farm_sound.proofs.Checks.{IsSound-checks, check_clock, checks_rest}
use Rattle.farm_sound.proofs.Claims.{IsClaim, IsGroupClaim, IsOpen, IsResClaim, all_claims, leads}
use Rattle.farm_sound.proofs.Free.{free_boards}
use Rattle.farm_sound.proofs.Give.{IsFreeBoard, res_at}
use Rattle.farm_sound.proofs.Group.{given, given_number, jobs_given, parts}
use Rattle.farm_sound.proofs.Jobs.{IsSound-back}
use Rattle.farm_sound.proofs.Lists.{among_append, among_filter, filter_back}
use Rattle.farm_sound.proofs.Own.{itself}
use Rattle.farm_sound.proofs.Queue.{among_queue}
use Rattle.farm_sound.proofs.Reservations.{IsSound-expire}
use Rattle.farm_sound.proofs.Short.{IsCollectorUnmet-give, IsCollectorUnmet-pass_over}
use Rattle.farm_sound.proofs.Serve.{AreApartClaims, IsOpen-give, IsOver, IsSound-give, as_many, filter_given, give_clock, over, res_kept, taken_apart}
use Rattle.farm_sound.proofs.Serve.{taken_open}
use Rattle.farm_sound.proofs.Tests.{waiting_from}
use Rattle.farm_sound.proofs.Unmet.{IsUnmet, IsUnmet-give}
use Rattle.farm_sound.proofs.Where.{AllByRecursion-both, either, find_map}

-- what a list of boards leaves: the claims that were there and are another's
abbrev IsOld : Farm → Claimed → Claimed → Type 0
IsOld F c d = IsClaim F d × (c ≡ d → ⊥)

-- claims of different kinds, or with different numbers, differ
kinds_differ : (c d : Claimed) → c.reservation ≡ true → d.reservation ≡ false → c ≡ d → ⊥
kinds_differ c d one other same = true≢false (sym one ∙ ap (λ (e : Claimed). e.reservation) same ∙ other)

numbers_differ : (c d : Claimed) → (d.number == c.number) ≡ false → c ≡ d → ⊥
numbers_differ c d other same = true≢false (sym (itself d.number) ∙ ap (λ (e : Claimed). d.number == e.number) (sym same) ∙ other)

-- ---- a reservation was served

-- the one that waits afterwards is another
waits_still : (r : ResRow) (name : List ℕ) (t : ℕ) (o : Option ResRow) (q : ResRow)
    → option_map (λ k. cond (k.number == r.number) (allocated_reservation name t k) k) o ≡ Some q → is_waiting q ≡ true
    → (o ≡ Some q) × ((q.number == r.number) ≡ false)
waits_still r name t None q is waits = cc
waits_still r name t (Some k) q is waits = grind arith

old_of_res : (F : Farm) (c d : Claimed) (r : ResRow) (bs : List BoardRow) (t : ℕ) → IsResClaim F c r → AllByRecursion (IsFreeBoard F) bs → length bs ≡ 1
    → IsClaim (give_res F r.number bs t) d → IsOld F c d
old_of_res F c d r [] t is free one later = absurd (omega arith)
old_of_res F c d r (b ∷ bs) t is free one (inl (q, has)) =
    let two = waits_still r b.name t (res_of F q.number) q
    (sym (res_at F r.number r b bs t is.0 (waiting_from r.state is.1) free.0 q.number) ∙ has.0) has.1 in (
      inl (q, (two.0, has.1, has.2)),
      numbers_differ c d
          (ap (λ (e : Claimed). e.number == c.number) has.2 ∙ ap (λ (e : Claimed). q.number == e.number) is.2 ∙ two.1),
    )
old_of_res F c d r (b ∷ bs) t is free one (inr (k, has)) =
    (inr (k, has), kinds_differ c d (ap (λ (e : Claimed). e.reservation) is.2) (ap (λ (e : Claimed). e.reservation) has.2))

-- ---- a group was served

-- a job that leads a claim waits for boards
leader_waits : (F : Farm) (k : JobRow) → job_of F k.number ≡ Some k → leads_claim F k ≡ true → phase k.state ≡ 0
leader_waits F k own is =
    found_has (λ m. (m.group == k.group) ≡ true → phase m.state ≡ 0) (λ r. r.number == k.number) k F.jobs
    (filter_back (λ m. phase m.state ≡ 0) (λ r. r.group == k.group) F.jobs (leads F k is).1) own (itself k.group)

module _ (F : Farm) (group : ℕ) (bs : List BoardRow) where
  abbrev ps : List (JobRow × BoardRow)
  ps = zip (members F group) bs

  abbrev Parted : JobRow → Type 0
  Parted m = (m.group ≡ group → (given JobState.Scheduled ps m).state ≡ JobState.Scheduled) × ((m.group == group) ≡ false → given JobState.Scheduled ps m ≡ m)

  -- the job that leads a claim afterwards is one of another group, and was there before
  leader_was : (k : JobRow) (o : Option JobRow) → option_map (given JobState.Scheduled ps) o ≡ Some k → phase k.state ≡ 0 → ((m : JobRow) → o ≡ Some m → Parted m)
      → (o ≡ Some k) × ((k.group == group) ≡ false)
  leader_was k None is waiting part = cc
  leader_was k (Some m) is waiting part = grind arith

  old_of_group : (c d : Claimed) (j : JobRow) → j.group ≡ group → IsGroupClaim F c j → AllByRecursion Parted F.jobs
      → IsClaim (give_group F group bs) d → IsOld F c d
  old_of_group c d j mine is parted (inl (q, has)) = (
    inl (q, (ap (find (λ (r : ResRow). r.number == q.number)) (sym (res_kept ps F)) ∙ has.0, has.1, has.2)),
    λ same. kinds_differ d c (ap (λ (e : Claimed). e.reservation) has.2) (ap (λ (e : Claimed). e.reservation) is.2) (sym same),
  )
  old_of_group c d j mine is parted (inr (k, has)) =
      let jobs_are : job_of (give_group F group bs) k.number ≡ option_map (given JobState.Scheduled ps) (job_of F k.number) =
      ap (find (λ (r : JobRow). r.number == k.number)) (jobs_given JobState.Scheduled ps F)
      ∙ find_map (λ (r : JobRow). r.number == k.number) (given JobState.Scheduled ps) (λ m. ap (λ n. n == k.number) (given_number JobState.Scheduled ps m)) F.jobs in
      let was = leader_was k (job_of F k.number) (sym jobs_are ∙ has.0) (leader_waits (give_group F group bs) k has.0 has.1)
      (λ m there. found_has Parted (λ r. r.number == k.number) m F.jobs parted there) in
      let same : members (give_group F group bs) k.group ≡ members F k.group =
      ap (filter (λ (r : JobRow). r.group == k.group)) (jobs_given JobState.Scheduled ps F)
      ∙ filter_given ps group k.group F.jobs was.1 (AllByRecursion-weaker (λ m two. two.1) F.jobs parted) in (
        inr (
          k,
          (
            was.0,
            sym (ap (λ ms. (k.number == k.group) && list_all waits ms) same) ∙ has.1,
            has.2 ∙ ap (λ ms. record { reservation = false; number = k.group; owner = k.owner; priority = k.priority; wants = map (λ m. m.want) ms }) same,
          ),
        ),
        numbers_differ c d (ap (λ (e : Claimed). e.number == c.number) has.2 ∙ ap (λ (e : Claimed). k.group == e.number) is.2
            ∙ ap (λ g. k.group == g) mine ∙ was.1),
      )

-- ---- one claim was served

pub IsOld-give : (F : Farm) (c d : Claimed) (bs : List BoardRow) (t : ℕ) → IsOpen F c → least F.boards (is_free F.types) c.wants ≡ Some bs → IsSound F
    → IsClaim (give F c bs t) d → IsOld F c d
IsOld-give F c d bs t (inl (r, is)) found sound later =
    let free = free_boards F c.wants bs sound.steady found in
    old_of_res F c d r bs t is free.0 (free.2 ∙ ap (λ (e : Claimed). length e.wants) is.2) (subst (λ e. IsClaim (give F e bs t) d) is.2 later)
IsOld-give F c d bs t (inr (j, is)) found sound later =
    let free = free_boards F c.wants bs sound.steady found in
    old_of_group F j.group bs c d j refl is.claim (parts F j.group bs sound is.submitted free.0 free.1 (as_many F c j bs is free.2) is.other)
    (subst (λ e. IsClaim (give F e bs t) d) is.claim.2 later)

-- ---- all claims in turn

-- a claim finds no free boards, or is still to come
abbrev IsLeft : Farm → List Claimed → Claimed → Type 0
IsLeft F cs d = IsUnmet F d.wants ⊎ IsAmong d cs

left_unserved : (F G : Farm) (c d : Claimed) (cs : List Claimed) → ((wants : List Want) → IsUnmet F wants → IsUnmet G wants) → IsUnmet F c.wants
    → IsLeft F (c ∷ cs) d → IsLeft G cs d
left_unserved F G c d cs stays none (inl unmet) = inl (stays d.wants unmet)
left_unserved F G c d cs stays none (inr (inl same)) = inl (stays d.wants (subst (λ e. IsUnmet F e.wants) (sym same) none))
left_unserved F G c d cs stays none (inr (inr at)) = inr at

left_served : (F : Farm) (c d : Claimed) (cs : List Claimed) (bs : List BoardRow) (t : ℕ) → IsSound (give F c bs t) → (c ≡ d → ⊥)
    → IsLeft F (c ∷ cs) d → IsLeft (give F c bs t) cs d
left_served F c d cs bs t sound other (inl unmet) = inl (IsUnmet-give F c bs t d.wants sound.steady.boards_sorted unmet)
left_served F c d cs bs t sound other (inr (inl same)) = absurd (other (sym same))
left_served F c d cs bs t sound other (inr (inr at)) = inr at

left_none : (F : Farm) (d : Claimed) → IsLeft F [] d → IsUnmet F d.wants
left_none F d (inl unmet) = unmet
left_none F d (inr at) = absurd at

-- what holds while the claims cs are still to come, and what it comes to
record IsServing (t : ℕ) (cs : List Claimed) (F : Farm) : Type 0 where
  pub apart : AreApartClaims cs
  pub coming : AllByRecursion (IsOpen F) cs
  pub low : t ≤ F.clock
  pub sound : IsSound F
  pub short : IsCollectorUnmet F
  pub left : (d : Claimed) → IsClaim F d → IsLeft F cs d

pub record IsAllServed (H : Farm) : Type 0 where
  pub sound : IsSound H
  pub short : IsCollectorUnmet H
  pub unmet : (d : Claimed) → IsClaim H d → IsUnmet H d.wants

served : (t : ℕ) (cs : List Claimed) (s : Served) → IsServing t cs s.farm → IsAllServed (fold (serve t) s cs).farm
served t [] s is = record { sound = is.sound; short = is.short; unmet = λ d claim. left_none s.farm d (is.left d claim) }
served t (c ∷ cs) s is =
    by (least s.farm.boards (is_free s.farm.types) c.wants) refl
    (λ none.
    let after : IsOver s.farm (pass_over s.farm c) c = over s.farm c is.coming.0 is.sound in
    served t cs (record { farm = pass_over s.farm c; claims = s.claims }) (record {
      apart = is.apart.1;
      coming = AllByRecursion-weaker (λ d two. after.opens d two.1 two.0) cs
          (AllByRecursion-both (IsOpen s.farm) (λ d. c ≡ d → ⊥) cs is.coming.1 is.apart.0);
      low = (let l = is.low in let k = after.clock in omega arith);
      sound = after.sound;
      short = IsCollectorUnmet-pass_over s.farm c is.coming.0 is.sound none after.sound is.short;
      left = λ d claim. left_unserved s.farm (pass_over s.farm c) c d cs after.unmet none (is.left d (after.was d claim));
    }))
    (λ bs found.
    let sound = IsSound-give s.farm c bs t is.coming.0 found is.low is.sound in
    served t cs (record { farm = give s.farm c bs t; claims = s.claims + 1 }) (record {
      apart = is.apart.1;
      coming = AllByRecursion-weaker (λ d two. IsOpen-give s.farm c d bs t is.coming.0 two.0 two.1 found is.sound) cs
          (AllByRecursion-both (IsOpen s.farm) (λ d. c ≡ d → ⊥) cs is.coming.1 is.apart.0);
      low = (let l = is.low in omega (arith, give_clock s.farm c bs t));
      sound = sound;
      short = IsCollectorUnmet-give s.farm c bs t is.coming.0 found is.sound sound is.short;
      left = λ d claim. let old = IsOld-give s.farm c d bs t is.coming.0 found is.sound claim in left_served s.farm c d cs bs t sound old.1 (is.left d old.0);
    }))
  where
    by : (o : Option (List BoardRow)) → least s.farm.boards (is_free s.farm.types) c.wants ≡ o
        → (least s.farm.boards (is_free s.farm.types) c.wants ≡ None
        → IsAllServed (fold (serve t) (record { farm = pass_over s.farm c; claims = s.claims }) cs).farm)
        → ((bs : List BoardRow) → least s.farm.boards (is_free s.farm.types) c.wants ≡ Some bs
        → IsAllServed (fold (serve t) (record { farm = give s.farm c bs t; claims = s.claims + 1 }) cs).farm)
        → IsAllServed (fold (serve t) (option_map_or (λ bs. record { farm = give s.farm c bs t; claims = s.claims + 1 }) o
        (record { farm = pass_over s.farm c; claims = s.claims })) cs).farm
    by None is unserved served = unserved is
    by (Some bs) is unserved served = served bs is

-- a claim of the queue is among those that are taken
among_split : (test : Claimed → Bool) (d : Claimed) (cs : List Claimed) → IsAmong d cs → IsAmong d (filter test cs ++ filter (λ c. not (test c)) cs)
among_split test d cs at = among_append d (filter test cs) (filter (λ c. not (test c)) cs) (either (test d)
    (λ so. inl (among_filter test d cs at so)) (λ so. inr (among_filter (λ c. not (test c)) d cs at (ap not so))))

pub all_served : (F : Farm) (group t : ℕ) → F.collector ≡ 0 → t ≤ F.clock → IsSound F → IsAllServed (serve_all F group t).farm
all_served F group t none low sound =
    served t (claims_taken F group) (record { farm = F; claims = 0 })
    (record {
      apart = taken_apart F group;
      coming = taken_open F group none sound;
      low = low;
      sound = sound;
      short = λ some. absurd (omega (arith, some, none));
      left = λ d claim. inr (among_split (is_group group) d (queue F) (among_queue F sound.steady d claim));
    })

-- ---- the pass

pub pass_leaves : (F : Farm) → IsSound F → IsAllServed (serve_all (checks (expire (giving_back F) F.clock) F.clock) F.collector F.clock).farm
pass_leaves F sound =
    let expired : Farm = expire (giving_back F) F.clock in
    let due = filter (is_due expired F.clock) expired.boards in
    all_served (checks expired F.clock) F.collector F.clock (ap (λ (G : Farm). G.collector) (checks_rest due expired)) (omega (arith, check_clock due expired))
    (IsSound-checks expired F.clock (IsSound-expire (giving_back F) F.clock (IsSound-back F sound)))

pub IsSound-pass : (F : Farm) → IsSound F → IsSound (serve_all (checks (expire (giving_back F) F.clock) F.clock) F.collector F.clock).farm
IsSound-pass F sound = (pass_leaves F sound).sound

-- the group that collects after a pass isn't met by the free boards and its own together
pub pass_is_short : (F : Farm) → IsSound F → IsCollectorUnmet (serve_all (checks (expire (giving_back F) F.clock) F.clock) F.collector F.clock).farm
pass_is_short F sound = (pass_leaves F sound).short

-- no claim of the farm after a pass is met by boards free in it
pub pass_serves : (F : Farm) → IsSound F → IsServed (serve_all (checks (expire (giving_back F) F.clock) F.clock) F.collector F.clock).farm
pass_serves F sound =
    let is = pass_leaves F sound in
    let H : Farm = (serve_all (checks (expire (giving_back F) F.clock) F.clock) F.collector F.clock).farm in
    AllByRecursion-weaker is.unmet (claims H) (all_claims H is.sound.steady)
