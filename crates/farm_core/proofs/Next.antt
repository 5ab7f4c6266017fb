-- The next claim that is tried: of the open queues and, while nobody collects, of those of two boards or more.
use Rattle.std.proofs.Common.{[], ◌≡◌, ◌∙◌, ◌&&◌, ◌≤◌, ◌⊎◌, ℕ, List, ◌∷◌, map, filter, length, nat_le, Bool, true, false, Option, Some, None, inl, inr}
use Rattle.std.proofs.Common.{refl, sym, ap, subst, arith}
use Rattle.farm_core.proofs.Names.{AllByRecursion-weaker, among_has, both, Claim, Equal, filter_all, find, found_passes, Greater, idle_boards, is_lt, IsClaim}
use Rattle.farm_core.proofs.Names.{IsStrictlySortedBy, Less, nat_tests, Ordering, ordering_reverse, queue_claims, queue_lists, Queued, queued_of, QueueLists}
use Rattle.farm_core.proofs.Names.{true≢false}
use Rattle.std.specs.Option.{option_map}
use Rattle.farm_types.specs.Names.{claim_cmp, Claimed, Farm, IsAmong, IsSound, queue, shown_claim, shown_cmp}
use Rattle.farm_sound.proofs.Claims.{claim_total, queue_sorted}
use Rattle.farm_pick.specs.Heads.{earlier_of, is_later, last_spot}
use Rattle.farm_pick.specs.Queued.{is_open}
use Rattle.farm_pick.specs.Walked.{claims_after}
use Rattle.farm_pick.proofs.Closed.{closed_is_unmet}
use Rattle.farm_pick.proofs.Later.{after_itself, among_later, less_from, not_back}
use Rattle.farm_pick.proofs.Merging.{found_among, some_want}
use Rattle.farm_pick.proofs.Ordered.{tied_same}
use Rattle.farm_core.specs.Serving.{IsSkipped, IsMissed, IsNext, IsNextBut, IsNextCandidate, wants_of}
use Rattle.farm_core.proofs.Skipping.{among_filter, wants_among}

-- ---- claims as they are shown

-- those of the queues that pass a test
pub map_passing : (test : Queued → Bool) (cs : List Claimed)
    → map (λ (x : Queued). x.claim) (filter test (map queued_of cs)) ≡ map shown_claim (filter (λ d. test (queued_of d)) cs)
map_passing test [] = refl
map_passing test (c ∷ cs) = grind (arith, map_passing test cs)

-- and the first of them
find_passing : (test : Queued → Bool) (cs : List Claimed)
    → option_map (λ (x : Queued). x.claim) (find test (map queued_of cs)) ≡ option_map shown_claim (find (λ d. test (queued_of d)) cs)
find_passing test [] = refl
find_passing test (c ∷ cs) = grind (arith, find_passing test cs)

-- a claim that is shown
shown_some : (o : Option Claimed) (claim : Claim) → Some claim ≡ option_map shown_claim o → (c : Claimed) × (o ≡ Some c) × (shown_claim c ≡ claim)
shown_some None claim is = cc
shown_some (Some c) claim is = let same : claim ≡ shown_claim c = cc in (c, refl, sym same)

shown_none : (o : Option Claimed) → None ≡ option_map shown_claim o → o ≡ None
shown_none None is = refl
shown_none (Some c) is = cc

-- ---- lists in order

-- the claims before the one that is found fail the test
found_first : (test : Claimed → Bool) (c : Claimed) (xs : List Claimed) → IsStrictlySortedBy claim_cmp xs → find test xs ≡ Some c
    → (e : Claimed) → IsAmong e xs → is_lt (claim_cmp e c) ≡ true → test e ≡ false
unfolding IsStrictlySortedBy
found_first test c [] sorted found e at less = absurd at
found_first test c (x ∷ xs) sorted found e at less = grind (arith, found_first test c xs sorted.1, after_itself x, not_back x e, among_has (λ y. claim_cmp x y ≡ Less) e xs sorted.0)

pub found_nowhere : (test : Claimed → Bool) (xs : List Claimed) → find test xs ≡ None → (e : Claimed) → IsAmong e xs → test e ≡ false
found_nowhere test [] found e at = absurd at
found_nowhere test (x ∷ xs) found e at = grind (arith, found_nowhere test xs)

pub filter_sorted : (test : Claimed → Bool) (xs : List Claimed) → IsStrictlySortedBy claim_cmp xs → IsStrictlySortedBy claim_cmp (filter test xs)
unfolding IsStrictlySortedBy
filter_sorted test [] sorted = tt
filter_sorted test (x ∷ xs) sorted = grind (arith, filter_sorted test xs sorted.1, AllByRecursion-weaker (λ y two. two.0) (filter test xs) (filter_all (λ y. claim_cmp x y ≡ Less) test xs sorted.0), filter_all (λ y. claim_cmp x y ≡ Less) test xs sorted.0)

-- ---- the next claim

few_boards : (n : ℕ) → nat_le 2 n ≡ false → n ≤ 1
few_boards n is = grind (arith, nat_tests, is)

-- what goes before the first of two claims goes before both
before_both : (F : Farm) (a b : Claimed) → IsAmong a (queue F) → IsAmong b (queue F) → (e : Claimed)
    → (is_lt (claim_cmp b a) ≡ true → is_lt (claim_cmp e b) ≡ true → is_lt (claim_cmp e a) ≡ true)
    × (is_lt (claim_cmp b a) ≡ false → is_lt (claim_cmp e a) ≡ true → is_lt (claim_cmp e b) ≡ true)
before_both F a b here there e = (
  λ less more. ap is_lt (claim_total.trans e b a (less_from e b more) (less_from b a less)),
  λ not_less less. by (claim_cmp b a) refl not_less less,
)
  where
    by : (o : Ordering) → claim_cmp b a ≡ o → is_lt o ≡ false → is_lt (claim_cmp e a) ≡ true → is_lt (claim_cmp e b) ≡ true
    by Less is not_less less = absurd (true≢false not_less)
    by Equal is not_less less = ap (λ d. is_lt (claim_cmp e d)) (tied_same claim_cmp claim_total b a (queue F) (queue_sorted F) there here is) ∙ less
    by Greater is not_less less =
        ap is_lt (claim_total.trans e a b (less_from e a less) (claim_total.antisymm a b ∙ ap ordering_reverse is))

module _ (F : Farm) (place : Option (ℕ × ℕ)) where
  abbrev is_behind : Claimed → Bool
  is_behind d = is_later (last_spot place) (shown_claim d)

  next_weaker : (P Q : Claimed → Type 0) → ((e : Claimed) → P e → Q e) → (o : Option Claim) → IsNextBut P F place o → IsNextBut Q F place o
  next_weaker P Q so None next = λ e at behind. so e (next e at behind)
  next_weaker P Q so (Some c) next = (next.0, next.1, next.2, next.3, λ e at behind less. so e (next.4 e at behind less))

  -- the first of two that are next, each but for some
  next_of_both : (P Q : Claimed → Type 0) (a b : Option Claim) → IsNextBut P F place a → IsNextBut Q F place b → IsNextBut (λ e. P e × Q e) F place (earlier_of a b)
  next_of_both P Q None None one two = λ e at behind. (one e at behind, two e at behind)
  next_of_both P Q None (Some b) one two = (two.0, two.1, two.2, two.3, λ e at behind less. (one e at behind, two.4 e at behind less))
  next_of_both P Q (Some a) None one two = (one.0, one.1, one.2, one.3, λ e at behind less. (one.4 e at behind less, two e at behind))
  next_of_both P Q (Some a) (Some b) one two = grind (arith, two.2, one.2, one.4, before_both F one.0 two.0 one.1 two.1, two.4)

  -- the first claim of two boards or more
  abbrev IsSmallClaim : Claimed → Type 0
  IsSmallClaim d = nat_le 2 (length d.wants) ≡ false

  first_several : (o : Option Claim)
      → o ≡ option_map (λ (x : Queued). x.claim) (find (λ x. is_later (last_spot place) x.claim && nat_le 2 x.claim.boards) (map queued_of (queue F)))
      → IsNextBut IsSmallClaim F place o
  first_several o is = grind (arith, find_passing (λ x. is_later (last_spot place) x.claim && nat_le 2 x.claim.boards) (queue F), found_nowhere, shown_none, shown_some, found_among, both, found_passes, found_first, queue_sorted F, nat_tests)

  -- where nobody collects
  pub next_both : (queues : QueueLists) → queues ≡ queue_lists F → (o p : Option Claim) → IsNextCandidate F place o
      → p ≡ option_map (λ (x : Queued). x.claim) (find (λ x. is_later (last_spot place) x.claim && nat_le 2 x.claim.boards) queues.claims) → IsNext F place (earlier_of o p)
  next_both queues fits o p candidate several =
      next_weaker (λ e. IsMissed F e.wants × IsSmallClaim e) (IsSkipped F) (λ e two. (two.0, λ _. few_boards (length e.wants) two.1)) (earlier_of o p)
      (next_of_both (λ d. IsMissed F d.wants) IsSmallClaim o p candidate
      (first_several p (several ∙ ap (λ (l : QueueLists). option_map (λ (x : Queued). x.claim) (find (λ x. is_later (last_spot place) x.claim && nat_le 2 x.claim.boards) l.claims)) fits)))

-- ---- the claims of the open queues, one after the other

-- of the claims behind a place these are left: no free boards meet the others
pub record Left (F : Farm) (place : Option (ℕ × ℕ)) (left : List Claimed) (claims : List Claim) : Type 0 where
  pub shown : map shown_claim left ≡ claims
  pub sorted : IsStrictlySortedBy claim_cmp left
  pub stand : (d : Claimed) → IsAmong d left → IsAmong d (queue F) × (is_later (last_spot place) (shown_claim d) ≡ true)
  pub others : (e : Claimed) → IsAmong e (queue F) → is_later (last_spot place) (shown_claim e) ≡ true → IsMissed F e.wants ⊎ IsAmong e left

module _ (F : Farm) (sound : IsSound F) (place : Option (ℕ × ℕ)) where
  abbrev pub lends : Claimed → Bool
  lends d = is_later (last_spot place) (shown_claim d) && is_open (idle_boards F) (queued_of d).kind

  pub all_left : (queues : QueueLists) → queues ≡ queue_lists F → Left F place (filter lends (queue F)) (claims_after (is_open queues.boards) (last_spot place) queues.claims)
  all_left queues fits = record {
    shown = sym (ap (λ (l : QueueLists). claims_after (is_open l.boards) (last_spot place) l.claims) fits
        ∙ map_passing (λ (x : Queued). is_later (last_spot place) x.claim && is_open (idle_boards F) x.kind) (queue F));
    sorted = filter_sorted lends (queue F) (queue_sorted F);
    stand = λ d at.
        let two = among_filter lends d (queue F) at in
        (two.0, (both (is_later (last_spot place) (shown_claim d)) (is_open (idle_boards F) (queued_of d).kind) two.1).0);
    others = λ e at later. by e at later (is_open (idle_boards F) (queued_of e).kind) refl;
  }
    where
      -- no free boards meet a claim of a closed queue
      by : (e : Claimed) → IsAmong e (queue F) → is_later (last_spot place) (shown_claim e) ≡ true → (v : Bool) → is_open (idle_boards F) (queued_of e).kind ≡ v
          → IsMissed F e.wants ⊎ IsAmong e (filter lends (queue F))
      by e at later true opened = inr (among_later lends e (queue F) at (λ i. later i && opened i))
      by e at later false closed =
          inl (closed_is_unmet F sound.steady.boards_sorted e (some_want F e (among_has (IsClaim F) e (queue F) (queue_claims F sound.steady) at)) closed)

  -- the first of them is passed over
  pub one_left : (left : List Claimed) (claim : Claim) (rest : List Claim) → Left F place left (claim ∷ rest) → IsMissed F (wants_of F claim.kind claim.number)
      → (ds : List Claimed) × Left F place ds rest
  unfolding IsStrictlySortedBy
  one_left [] claim rest l missed = let none : ◌≡◌ {A = List Claim} [] (claim ∷ rest) = l.shown in cc
  one_left (d ∷ ds) claim rest l missed = (
    ds,
    record {
      shown = let is : shown_claim d ∷ map shown_claim ds ≡ claim ∷ rest = l.shown in cc;
      sorted = l.sorted.1;
      stand = λ e at. l.stand e (inr at);
      others = λ e at later. by e (l.others e at later);
    },
  )
    where
      head : shown_claim d ≡ claim
      head = let is : shown_claim d ∷ map shown_claim ds ≡ claim ∷ rest = l.shown in cc

      own : IsMissed F d.wants
      own = subst (IsMissed F) (sym (wants_among F d sound (l.stand d (inl refl)).0 ∙ ap (λ (k : Claim). wants_of F k.kind k.number) head)) missed

      by : (e : Claimed) → IsMissed F e.wants ⊎ IsAmong e (d ∷ ds) → IsMissed F e.wants ⊎ IsAmong e ds
      by e (inl out) = inl out
      by e (inr (inl same)) = inl (subst (λ (c : Claimed). IsMissed F c.wants) (sym same) own)
      by e (inr (inr there)) = inr there

  -- or is the next
  pub reached : (left : List Claimed) (claim : Claim) (rest : List Claim) → Left F place left (claim ∷ rest) → IsNextCandidate F place (Some claim)
  unfolding IsStrictlySortedBy
  reached [] claim rest l = let none : ◌≡◌ {A = List Claim} [] (claim ∷ rest) = l.shown in cc
  reached (d ∷ ds) claim rest l = (
    d,
    (l.stand d (inl refl)).0,
    head,
    ap (is_later (last_spot place)) (sym head) ∙ (l.stand d (inl refl)).1,
    λ e at later less. by e (ap (λ k. is_lt (shown_cmp (shown_claim e) k)) head ∙ less) (l.others e at later),
  )
    where
      head : shown_claim d ≡ claim
      head = let is : shown_claim d ∷ map shown_claim ds ≡ claim ∷ rest = l.shown in cc

      by : (e : Claimed) → is_lt (claim_cmp e d) ≡ true → IsMissed F e.wants ⊎ IsAmong e (d ∷ ds) → IsMissed F e.wants
      by e less (inl out) = out
      by e less (inr (inl same)) = absurd (true≢false (sym less ∙ ap (λ c. is_lt (claim_cmp c d)) same ∙ after_itself d))
      by e less (inr (inr there)) = absurd (true≢false (sym less ∙ not_back d e (among_has (λ y. claim_cmp d y ≡ Less) e ds l.sorted.0 there)))

  -- where none is left
  pub none_left : (left : List Claimed) → Left F place left [] → IsNextCandidate F place None
  none_left [] l = λ e at later. elim (l.others e at later) [
    | inl out ↦ out
    | inr there ↦ absurd there
  ]
  none_left (d ∷ ds) l = let some : ◌≡◌ {A = List Claim} (shown_claim d ∷ map shown_claim ds) [] = l.shown in cc
