-- The claims that may change the farm are tried one after the other, and lead to the end of the pass.
use Rattle.std.proofs.Common.{[], ◌≡◌, ◌∙◌, ◌==◌, ◌||◌, ◌&&◌, ◌+◌, ◌<◌, ◌≤◌, ℕ, List, ◌∷◌, length, map, filter, Bool, true, false, cond, not, Option}
use Rattle.std.proofs.Common.{Some, None, inl, inr, refl, sym, ap, subst, arith, Bor}
use Rattle.farm_core.proofs.Names.{AllByRecursion, among_has, BoardRow, both, bytes_eq, Claim, ClaimKind, find, fold, found_passes}
use Rattle.farm_core.proofs.Names.{IdleBoard, is_lt, IsClaim, IsStrictlySortedBy, itself, JobRow, JobState, length-map, Less, list_all, list_any}
use Rattle.farm_core.proofs.Names.{nat_tests, option_map_or, queue_claims, queue_lists, Queued, queued_filter, queued_of, QueueLists}
use Rattle.farm_core.proofs.Names.{same_number, true≢false}
use mir.Val.{bool_byte}
use Rattle.std.specs.Option.{option_copied}
use Rattle.std.proofs.Math.Bool.{and-false}
use Rattle.std.proofs.lemmas.List.{length-append}
use Rattle.farm_types.specs.Names.{claim_cmp, Claimed, claims, collect, Farm, group_claim, highest_priority, is_group, is_waiting, IsAmong}
use Rattle.farm_types.specs.Names.{IsSmall, IsSound, job_of, leads_claim, may_collect, members, pass_over, put, put_all, queue, res_claim, serve}
use Rattle.farm_types.specs.Names.{serve_all, Served, shown_claim, shown_cmp, waits}
use Rattle.farm_sound.proofs.Claims.{queue_sorted}
use Rattle.farm_sound.proofs.Collect.{collect_is, pairs_for}
use Rattle.farm_sound.proofs.Lists.{none_pass}
use Rattle.farm_sound.proofs.Queue.{among_queue}
use Rattle.farm_sound.proofs.Serve.{clock_kept, give_clock}
use Rattle.farm_sound.proofs.Where.{by_cases}
use Rattle.farm_pick.specs.Heads.{is_later, last_spot}
use Rattle.farm_pick.specs.Merged.{comes_after, rest}
use Rattle.farm_pick.proofs.Apart.{same_bytes_back}
use Rattle.farm_pick.proofs.Bridge.{later_same, place_of}
use Rattle.farm_pick.proofs.Collects.{collecting_follows}
use Rattle.farm_pick.proofs.Filling.{low_priority, numbers_differ}
use Rattle.farm_pick.proofs.Giving.{giving_follows}
use Rattle.farm_pick.proofs.Later.{after_itself, later, later_none}
use Rattle.farm_pick.proofs.Merging.{Begins, Goes, IsTrying, Skips, begins_with, begins_without, found_among, none_by, one_group, passed_by, serve_but}
use Rattle.farm_pick.proofs.Merging.{some_want, tried_by}
use Rattle.farm_core.specs.Following.{without_board, without_boards}
use Rattle.farm_core.specs.Came.{Seen}
use Rattle.farm_core.specs.Serving.{Begins as FirstServed, IsSkipped, IsNext, Serves, boards_for, count_after, queues_given}
use Rattle.farm_core.proofs.Assigned.{all_pass, taken_more}
use Rattle.farm_core.proofs.Passing.{small_claim}
use Rattle.farm_core.proofs.Next.{found_nowhere}
use Rattle.farm_core.proofs.Serving.{names_of, shown_group}
use Rattle.farm_core.proofs.Skipping.{one_of}

-- ---- the queues of the farm once a claim was tried

same_names_back : (a b : List ℕ) → bytes_eq a b ≡ bytes_eq b a
same_names_back a b = grind (arith, same_bytes_back a b, same_bytes_back b a)

without_named : (bs : List BoardRow) (xs : List IdleBoard) → without_boards (names_of bs) xs ≡ filter (λ (x : IdleBoard). not (list_any (λ (b : BoardRow). bytes_eq b.name x.name) bs)) xs
without_named [] xs = all_pass xs
without_named (b ∷ bs) xs =
    without_named bs (without_board xs b.name)
    ∙ taken_more (λ (x : IdleBoard). bytes_eq x.name b.name) (λ (x : IdleBoard). list_any (λ (d : BoardRow). bytes_eq d.name x.name) bs) (λ (x : IdleBoard). list_any (λ (d : BoardRow). bytes_eq d.name x.name) (b ∷ bs))
    (λ x. ap (λ v. v || list_any (λ (d : BoardRow). bytes_eq d.name x.name) bs) (same_names_back b.name x.name)) xs

pub given_fits : (F : Farm) (c : Claimed) (n : ℕ) → IsSound F → IsAmong c (queue F) → queues_given F c (queue_lists F) ≡ queue_lists (serve F.clock (record { farm = F; claims = n }) c).farm
given_fits F c n sound among = grind (arith, collecting_follows F sound c among, giving_follows F c, queued_filter (λ m. not (m == c.number)) (queue F), without_named, nat_tests)

-- ---- the claims are few

length_put : (cs : List Claimed) (c : Claimed) → length (put claim_cmp cs c) ≤ length cs + 1
length_put [] c = omega arith
length_put (d ∷ cs) c = grind (arith, length_put cs c)

length_put_all : (cs ds : List Claimed) → length (put_all claim_cmp cs ds) ≤ length cs + length ds
length_put_all cs [] = omega arith
length_put_all cs (d ∷ ds) = let rest = length_put_all (put claim_cmp cs d) ds in let one = length_put cs d in omega (arith, rest, one)

length_filter : {A : Type 0} (p : A → Bool) (xs : List A) → length (filter p xs) ≤ length xs
length_filter p [] = omega arith
length_filter p (x ∷ xs) = grind (arith, length_filter p xs)

-- at most as many as there are rows
pub queue_few : (F : Farm) → length (queue F) ≤ length F.reservations + length F.jobs
queue_few F =
    let all = length_put_all [] (claims F) in
    let sum = length-append (map res_claim (filter is_waiting F.reservations)) (map (group_claim F) (filter (leads_claim F) F.jobs)) in
    let waiting = length-map (filter is_waiting F.reservations) res_claim in
    let groups = length-map (filter (leads_claim F) F.jobs) (group_claim F) in
    let first = length_filter is_waiting F.reservations in
    let second = length_filter (leads_claim F) F.jobs in
    omega (arith, all, sum, waiting, groups, first, second)

-- ---- from one claim to the next

over_clock : (G : Farm) (c : Claimed) → (pass_over G c).clock ≡ G.clock
over_clock G c = by_cases (λ (H : Farm). H.clock ≡ G.clock) (may_collect G c) (collect G c.number) G
    (λ _. ap (λ (H : Farm). H.clock) (collect_is (members G c.number) G) ∙ clock_kept JobState.Scheduling (pairs_for G (members G c.number)) G) (λ _. refl)

served_clock : (t : ℕ) (s : Served) (c : Claimed) → (serve t s c).farm.clock ≡ s.farm.clock
served_clock t s c = grind (arith, over_clock s.farm c, give_clock s.farm c)

abbrev come_to : Farm → ℕ → Served
come_to G count = record { farm = G; claims = count }

-- what the pass has come to, and the claim tried last
pub record Trying (F : Farm) (former : ℕ) (G : Farm) (queues : QueueLists) (count : ℕ) (place : Option (ℕ × ℕ)) : Type 0 where
  pub last : Option Claimed
  pub tried : place ≡ place_of last
  pub on : IsTrying former F.clock (come_to G count) last
  pub folds : serve_all F former F.clock ≡ fold (serve F.clock) (come_to G count) (rest former last G)
  pub few : count + length (later last (queue G)) ≤ length (queue F)
  pub clock : G.clock ≡ F.clock
  pub fits : queues ≡ queue_lists G

-- so many claims are left
abbrev pub left : QueueLists → Option (ℕ × ℕ) → ℕ
left queues place = length (filter (λ (x : Queued). is_later (last_spot place) x.claim) queues.claims)

length_mapped : (p : Queued → Bool) (q : Claimed → Bool) (P : Claimed → Type 0) → ((c : Claimed) → P c → p (queued_of c) ≡ q c) → (cs : List Claimed) → AllByRecursion P cs
    → length (filter p (map queued_of cs)) ≡ length (filter q cs)
length_mapped p q P same [] all = refl
length_mapped p q P same (c ∷ cs) all = grind (arith, length_mapped p q P same cs all.1)

pub left_is : (F : Farm) (former : ℕ) (G : Farm) (queues : QueueLists) (count : ℕ) (place : Option (ℕ × ℕ)) (trying : Trying F former G queues count place)
    → left queues place ≡ length (later trying.last (queue G))
left_is F former G queues count place trying =
    (λ i. left (trying.fits i) (trying.tried i))
    ∙ length_mapped (λ x. is_later (last_spot (place_of trying.last)) x.claim) (comes_after trying.last) (λ c. c.priority ≤ highest_priority) (λ c low. later_same trying.last c low) (queue G)
    (low_priority G trying.on.sound)

-- ---- a claim that is passed over

all_from : (P : Claimed → Type 0) (xs : List Claimed) → ((x : Claimed) → IsAmong x xs → P x) → AllByRecursion P xs
all_from P [] each = tt
all_from P (x ∷ xs) each = (each x (inl refl), all_from P xs (λ y at. each y (inr at)))

skipped_stays : (t n : ℕ) (G : Farm) (e : Claimed) → IsSkipped G e → serve t (come_to G n) e ≡ come_to G n
skipped_stays t n G e idle = grind (arith, nat_tests)

-- in a list in order the first that passes a test that those before it fail
first_found : (test : Claimed → Bool) (d : Claimed) (xs : List Claimed) → IsStrictlySortedBy claim_cmp xs → IsAmong d xs → test d ≡ true
    → ((e : Claimed) → is_lt (claim_cmp e d) ≡ true → test e ≡ false) → find test xs ≡ Some d
unfolding IsStrictlySortedBy
first_found test d [] sorted at is before = absurd at
first_found test d (x ∷ xs) sorted (inl same) is before = ap (λ v. cond v (Some x) (find test xs)) (ap test (sym same) ∙ is) ∙ ap Some (sym same)
first_found test d (x ∷ xs) sorted (inr at) is before =
    ap (λ v. cond v (Some x) (find test xs)) (before x (ap is_lt (among_has (λ y. claim_cmp x y ≡ Less) d xs sorted.0 at)))
    ∙ first_found test d xs sorted.1 at is before

found_none : (test : Claimed → Bool) (xs : List Claimed) → AllByRecursion (λ x. test x ≡ false) xs → find test xs ≡ None
found_none test [] all = refl
found_none test (x ∷ xs) all = ap (λ v. cond v (Some x) (find test xs)) all.0 ∙ found_none test xs all.1

is_true : (v : Bool) → not v ≡ false → v ≡ true
is_true true is = refl
is_true false is = absurd (true≢false is)

-- ---- one turn of the pass

module _ (F : Farm) (former : ℕ) (G : Farm) (queues : QueueLists) (count : ℕ) (place : Option (ℕ × ℕ)) (trying : Trying F former G queues count place) where
  sound : IsSound G
  sound = trying.on.sound

  low_at : (e : Claimed) → IsAmong e (queue G) → e.priority ≤ highest_priority
  low_at e at = among_has (λ c. c.priority ≤ highest_priority) e (queue G) (low_priority G sound) at

  -- behind the place is behind the claim tried last
  later_is : (e : Claimed) → IsAmong e (queue G) → is_later (last_spot place) (shown_claim e) ≡ comes_after trying.last e
  later_is e at = ap (λ p. is_later (last_spot p) (shown_claim e)) trying.tried ∙ later_same trying.last e (low_at e at)

  module _ (claim : Claim) (next : IsNext G place (Some claim)) where
    abbrev it : Claimed
    it = next.0

    after : comes_after trying.last it ≡ true
    after = sym (later_is it next.1) ∙ ap (is_later (last_spot place)) next.2 ∙ next.3

    -- those between are passed over
    abbrev pub test : Claimed → Bool
    test e = not (comes_after trying.last e && is_lt (claim_cmp e it))

    skip : Skips former F.clock (come_to G count) test
    skip = all_from (λ e. (not (is_group former e) && test e) ≡ false → serve_but former F.clock (come_to G count) e ≡ come_to G count) (queue G)
        (λ e at. by e at (is_group former e))
      where
        stays : (e : Claimed) → IsAmong e (queue G) → test e ≡ false → serve F.clock (come_to G count) e ≡ come_to G count
        stays e at out =
            let two = both (comes_after trying.last e) (is_lt (claim_cmp e it)) (is_true (comes_after trying.last e && is_lt (claim_cmp e it)) out) in
            skipped_stays F.clock count G e
            (next.4 e at (later_is e at ∙ two.0) (ap (λ k. is_lt (shown_cmp (shown_claim e) k)) (sym next.2) ∙ two.1))

        by : (e : Claimed) → IsAmong e (queue G) → (v : Bool) → (not v && test e) ≡ false
            → cond v (come_to G count) (serve F.clock (come_to G count) e) ≡ come_to G count
        by e at true out = refl
        by e at false out = stays e at out

    passes : test it ≡ true
    passes = λ i. not (after i && after_itself it i)

    fails : (e : Claimed) → is_lt (claim_cmp e it) ≡ true → (comes_after trying.last e && test e) ≡ false
    fails e less = grind arith

    pub found : find (λ e. comes_after trying.last e && test e) (queue G) ≡ Some it
    found = first_found (λ e. comes_after trying.last e && test e) it (queue G) (queue_sorted G) next.1 (λ i. after i && passes i) fails

    pub found_other : is_group former it ≡ false → find (λ e. comes_after trying.last e && (not (is_group former e) && test e)) (queue G) ≡ Some it
    found_other other = grind (arith, first_found (λ e. comes_after trying.last e && (not (is_group former e) && test e)) it (queue G) (queue_sorted G) next.1 (λ i. after i && (not (other i) && passes i)), queue_sorted G, fails, and-false)

    -- the claim was passed over, or tried
    abbrev pub Went : Served → Type 0
    Went u = Goes former F.clock (come_to G count) u trying.last it

    pub went_on : is_group former it ≡ true → Went (come_to G count)
    went_on own = passed_by former F.clock (come_to G count) trying.last it trying.on test skip found own

    pub went_by : is_group former it ≡ false → Went (serve F.clock (come_to G count) it)
    went_by other = (tried_by former F.clock (come_to G count) trying.last it trying.on test skip (found_other other)).1

    abbrev here : Option (ℕ × ℕ)
    here = Some (claim.priority, claim.number)

    at_it : here ≡ place_of (Some it)
    at_it = sym (ap (λ (k : Claim). Some (k.priority, k.number)) next.2)

    module _ (H : Farm) (news : QueueLists) (more : ℕ) (went : Went (come_to H more)) (high : more ≤ count + 1) (clock : H.clock ≡ G.clock) (fits : news ≡ queue_lists H) where
      pub goes_on : Trying F former H news more here
      goes_on = record {
        last = Some it;
        tried = at_it;
        on = went.on;
        folds = trying.folds ∙ went.folds;
        few = omega (arith, went.fewer, trying.few, high);
        clock = clock ∙ trying.clock;
        fits = fits;
      }

      -- and fewer claims are left
      pub goes_less : left news here < left queues place
      unfolding goes_on
      goes_less =
          let now = left_is F former G queues count place trying in
          let then : left news here ≡ length (later (Some it) (queue H)) = left_is F former H news more here goes_on in
          omega (arith, now, then, went.fewer)

  -- none is left: the pass is at its end
  pub goes_end : IsNext G place None → come_to G count ≡ serve_all F former F.clock
  goes_end next =
      sym (none_by former F.clock (come_to G count) trying.last front skip
      (found_none (λ e. comes_after trying.last e && (not (is_group former e) && front e)) (queue G)
      (all_from (λ e. (comes_after trying.last e && (not (is_group former e) && front e)) ≡ false) (queue G) (λ e at. out e (comes_after trying.last e)))))
      ∙ sym trying.folds
    where
      front : Claimed → Bool
      front e = not (comes_after trying.last e)

      out : (e : Claimed) → (v : Bool) → (v && (not (is_group former e) && not v)) ≡ false
      out e true = and-false (not (is_group former e))
      out e false = refl

      skip : Skips former F.clock (come_to G count) front
      skip = all_from (λ e. (not (is_group former e) && front e) ≡ false → serve_but former F.clock (come_to G count) e ≡ come_to G count) (queue G)
          (λ e at. by e at (is_group former e))
        where
          by : (e : Claimed) → IsAmong e (queue G) → (v : Bool) → (not v && front e) ≡ false
              → cond v (come_to G count) (serve F.clock (come_to G count) e) ≡ come_to G count
          by e at true out = refl
          by e at false out =
              skipped_stays F.clock count G e (next e at (later_is e at ∙ is_true (comes_after trying.last e) out))

-- ---- a turn of the program

-- the claim that comes next, or that none does
pub next_here : (F : Farm) (place : Option (ℕ × ℕ)) {o p : Option (Bor Claim)} → o ≡ p → IsNext F place (option_copied o) → IsNext F place (option_copied p)
next_here F place is next = subst (λ o. IsNext F place (option_copied o)) is next

-- one more where it was served
pub as_counted : (n : ℕ) (v : Bool) (more : ℕ) → more ≡ bool_byte v → count_after n v ≡ n + more
as_counted n true more is = ap (λ m. n + m) (sym is)
as_counted n false more is = omega (arith, is)

pub one_at_most : (v : Bool) (more : ℕ) → more ≡ bool_byte v → more ≤ 1
one_at_most true more is = omega (arith, is)
one_at_most false more is = omega (arith, is)

abbrev pub place_after : Claim → Option (ℕ × ℕ)
place_after claim = Some (claim.priority, claim.number)

module _ (F : Farm) (former : ℕ) (D : Seen) (count : ℕ) (place : Option (ℕ × ℕ)) (trying : Trying F former D.farm D.queues count place) (claim : Claim)
    (next : IsNext D.farm place (Some claim)) where
  own_kind : (shown_claim next.0).kind ≡ claim.kind
  own_kind = ap (λ (k : Claim). k.kind) next.2

  own_number : next.0.number ≡ claim.number
  own_number = ap (λ (k : Claim). k.number) next.2

  -- the claim that is next
  pub next_small : IsSmall claim.number
  next_small = subst IsSmall own_number
      (small_claim D.farm next.0 trying.on.sound (among_has (IsClaim D.farm) next.0 (queue D.farm) (queue_claims D.farm trying.on.sound.steady) next.1))

  -- the group that went first is passed over
  module _ (own : (c : Claimed) → (shown_claim c).kind ≡ claim.kind → c.number ≡ claim.number → is_group former c ≡ true) where
    own_went : Goes former F.clock (come_to D.farm count) (come_to D.farm count) trying.last next.0
    own_went = went_on F former D.farm D.queues count place trying claim next (own next.0 own_kind own_number)

    pub passed_on : Trying F former D.farm D.queues count (place_after claim)
    passed_on = goes_on F former D.farm D.queues count place trying claim next D.farm D.queues count own_went (omega arith) refl trying.fits

    pub passed_less : left D.queues (place_after claim) < left D.queues place
    passed_less = goes_less F former D.farm D.queues count place trying claim next D.farm D.queues count own_went (omega arith) refl trying.fits

  -- another is tried
  module _ (other : (c : Claimed) → (shown_claim c).kind ≡ claim.kind → c.number ≡ claim.number → is_group former c ≡ false)
      (E : Seen) (served : Bool) (serving : (c : Claimed) → (shown_claim c).kind ≡ claim.kind → c.number ≡ claim.number → IsAmong c (queue D.farm) → Serves D c served E) where
    serves : Serves D next.0 served E
    serves = serving next.0 own_kind own_number next.1

    went : Goes former F.clock (come_to D.farm count) (come_to E.farm (count_after count served)) trying.last next.0
    went = subst (λ u. Goes former F.clock (come_to D.farm count) u trying.last next.0)
        (ap (λ t. serve t (come_to D.farm count) next.0) (sym trying.clock) ∙ serves.0 count)
        (went_by F former D.farm D.queues count place trying claim next (other next.0 own_kind own_number))

    high : (v : Bool) → count_after count v ≤ count + 1
    high true = omega arith
    high false = omega arith

    clock : E.farm.clock ≡ D.farm.clock
    clock = ap (λ (u : Served). u.farm.clock) (sym (serves.0 count)) ∙ served_clock D.farm.clock (come_to D.farm count) next.0

    fits : E.queues ≡ queue_lists E.farm
    fits = serves.1 ∙ ap (queues_given D.farm next.0) trying.fits ∙ given_fits D.farm next.0 count trying.on.sound next.1
        ∙ ap (λ (u : Served). queue_lists u.farm) (serves.0 count)

    pub tried_on : Trying F former E.farm E.queues (count_after count served) (place_after claim)
    tried_on = goes_on F former D.farm D.queues count place trying claim next E.farm E.queues (count_after count served) went (high served) clock fits

    pub tried_less : left E.queues (place_after claim) < left D.queues place
    tried_less = goes_less F former D.farm D.queues count place trying claim next E.farm E.queues (count_after count served) went (high served) clock fits

-- ---- where the pass begins

pub trying_begins : (D E : Seen) (former count : ℕ) → IsSound D.farm → D.farm.collector ≡ 0 → FirstServed D former count E → Trying D.farm former E.farm E.queues count None
trying_begins D E former count sound none first = by (find (is_group former) (queue D.farm)) refl
  where
    low : D.farm.clock ≤ D.farm.clock
    low = omega arith

    from : (s : Served) → Begins D.farm former D.farm.clock sound none low s → s ≡ come_to E.farm count → s.farm.clock ≡ D.farm.clock
        → Trying D.farm former E.farm E.queues count None
    from s begins same clock =
        let moved : Begins D.farm former D.farm.clock sound none low (come_to E.farm count) = subst (Begins D.farm former D.farm.clock sound none low) same begins in
        let all : length (later None (queue E.farm)) ≡ length (queue E.farm) = ap length (later_none (queue E.farm)) in
        record {
          last = None;
          tried = refl;
          on = moved.on;
          folds = moved.folds;
          few = omega (arith, all, moved.few);
          clock = ap (λ (u : Served). u.farm.clock) (sym same) ∙ clock;
          fits = first.fits;
        }

    came : (o : Option Claimed) → find (is_group former) (queue D.farm) ≡ o
        → fold (serve D.farm.clock) (come_to D.farm 0) (option_map_or (λ c. c ∷ []) o []) ≡ come_to E.farm count
    came o found =
        ap (fold (serve D.farm.clock) (come_to D.farm 0))
        (sym (one_group former (queue D.farm) (numbers_differ D.farm sound) ∙ ap (λ o. option_map_or (λ c. c ∷ []) o []) found)) ∙ first.serves

    by : (o : Option Claimed) → find (is_group former) (queue D.farm) ≡ o → Trying D.farm former E.farm E.queues count None
    by None found = from (come_to D.farm 0) (begins_without D.farm former D.farm.clock sound none low found) (came None found) refl
    by (Some c) found = from (serve D.farm.clock (come_to D.farm 0) c) (begins_with D.farm former D.farm.clock sound none low c found).1 (came (Some c) found)
        (served_clock D.farm.clock (come_to D.farm 0) c)

-- ---- the group that collected before

-- where it is no claim, there is nothing to serve
pub none_first : (D : Seen) (former : ℕ) → IsSound D.farm → D.queues ≡ queue_lists D.farm → boards_for D.farm former ≡ 0 → FirstServed D former 0 D
none_first D former sound fits none = record {
  serves = ap (fold (serve D.farm.clock) (come_to D.farm 0))
      (none_pass (is_group former) (queue D.farm) (all_from (λ d. is_group former d ≡ false) (queue D.farm) (λ d at. by d at (is_group former d) refl)));
  fits = fits;
}
  where
    F : Farm
    F = D.farm

    leads_none : (d : Claimed) → IsClaim F d → is_group former d ≡ true → ⊥
    leads_none d (inl (r, is)) own = true≢false (sym (both (not d.reservation) (d.number == former) own).0 ∙ ap (λ (e : Claimed). not e.reservation) is.2)
    leads_none d (inr (j, is)) own =
        let number : j.number ≡ former = same_number j.number j.group (both (j.number == j.group) (list_all waits (members F j.group)) is.1).0
        ∙ sym (ap (λ (e : Claimed). e.number) is.2) ∙ same_number d.number former (both (not d.reservation) (d.number == former) own).1 in
        let there : boards_for F former ≡ length (members F former) =
        ap (λ o. option_map_or (λ k. cond (leads_claim F k) (length (members F former)) 0) o 0) (ap (job_of F) (sym number) ∙ is.0)
        ∙ ap (λ v. cond v (length (members F former)) 0) is.1 in
        let wants : length d.wants ≡ length (members F j.group) = ap (λ (e : Claimed). length e.wants) is.2 ∙ length-map (members F j.group) (λ m. m.want) in
        let group : j.group ≡ former = sym (same_number j.number j.group (both (j.number == j.group) (list_all waits (members F j.group)) is.1).0) ∙ number in
        let same : length (members F j.group) ≡ length (members F former) = ap (λ g. length (members F g)) group in
        let some = some_want F d (inr (j, is)) in
        omega (arith, none, there, wants, same, some)

    by : (d : Claimed) → IsAmong d (queue F) → (v : Bool) → is_group former d ≡ v → v ≡ false
    by d at true own = absurd (leads_none d (among_has (IsClaim F) d (queue F) (queue_claims F sound.steady) at) own)
    by d at false own = refl

-- and where it is one
pub former_waits : (F : Farm) (former boards : ℕ) → IsSound F → boards ≡ boards_for F former → (boards ≡ 0 → ⊥)
    → (c : Claimed) × IsAmong c (queue F) × ((shown_claim c).kind ≡ ClaimKind.Group) × (c.number ≡ former) × (length c.wants ≡ boards)
former_waits F former boards sound are some = by (job_of F former) refl (are, some)
  where
    by : (o : Option JobRow) → job_of F former ≡ o
        → (boards ≡ option_map_or (λ j. cond (leads_claim F j) (length (members F former)) 0) o 0) × (boards ≡ 0 → ⊥)
        → (c : Claimed) × IsAmong c (queue F) × ((shown_claim c).kind ≡ ClaimKind.Group) × (c.number ≡ former) × (length c.wants ≡ boards)
    by None is two = absurd (two.1 two.0)
    by (Some j) is two = led (leads_claim F j) refl two.0
      where
        number : j.number ≡ former
        number = same_number j.number former (found_passes (λ (k : JobRow). k.number == former) j F.jobs is)

        led : (v : Bool) → leads_claim F j ≡ v → boards ≡ cond v (length (members F former)) 0
            → (c : Claimed) × IsAmong c (queue F) × ((shown_claim c).kind ≡ ClaimKind.Group) × (c.number ≡ former) × (length c.wants ≡ boards)
        led false leads none = absurd (two.1 none)
        led true leads all =
            let group : j.group ≡ former = sym (same_number j.number j.group (both (j.number == j.group) (list_all waits (members F j.group)) leads).0) ∙ number in (
              group_claim F j,
              among_queue F sound.steady (group_claim F j) (inr (j, (ap (job_of F) number ∙ is, leads, refl))),
              refl,
              group,
              length-map (members F j.group) (λ m. m.want) ∙ ap (λ g. length (members F g)) group ∙ sym all,
            )

-- it was tried
pub one_first : (D E : Seen) (former : ℕ) (served : Bool) (c : Claimed) → IsSound D.farm → D.queues ≡ queue_lists D.farm → IsAmong c (queue D.farm)
    → (shown_claim c).kind ≡ ClaimKind.Group → c.number ≡ former → Serves D c served E → FirstServed D former (count_after 0 served) E
one_first D E former served c sound fits at kind number serves = record {
  serves = ap (fold (serve D.farm.clock) (come_to D.farm 0))
      (one_group former (queue D.farm) (numbers_differ D.farm sound) ∙ by (find (is_group former) (queue D.farm)) refl) ∙ serves.0 0;
  fits = serves.1 ∙ ap (queues_given D.farm c) fits ∙ given_fits D.farm c 0 sound at ∙ ap (λ (u : Served). queue_lists u.farm) (serves.0 0);
}
  where
    own : is_group former c ≡ true
    own = (λ i. not (shown_group c.reservation kind i) && (number i == former)) ∙ itself former

    by : (o : Option Claimed) → find (is_group former) (queue D.farm) ≡ o → option_map_or {U = List Claimed} (λ d. d ∷ []) o [] ≡ c ∷ []
    by None found = absurd (true≢false (sym own ∙ found_nowhere (is_group former) (queue D.farm) found c at))
    by (Some d) found =
        let group = both (not d.reservation) (d.number == former) (found_passes (is_group former) d (queue D.farm) found) in
        ap (λ e. e ∷ [])
        (one_of d c (queue D.farm) (numbers_differ D.farm sound) (found_among (is_group former) d (queue D.farm) found) at (same_number d.number former group.1 ∙ sym number))
