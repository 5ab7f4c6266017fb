-- The leases that are noted, and the end of the reservations that are dead.
use Rattle.std.proofs.Common.{[], ◌≡◌, ◌∙◌, ◌==◌, ◌||◌, ◌&&◌, ◌<◌, ◌≤◌, ◌+◌, ℕ, zero, suc, List, ◌∷◌, length, filter, take, get_or, add-one, nat_le, slice_get}
use Rattle.std.proofs.Common.{set, IsSome, IfSome, Bool, true, false, cond, not, Option, Some, None, refl, sym, ap, subst, arith}
use Rattle.farm_core.proofs.Names.{AllByRecursion, AllByRecursion-weaker, both, is_eq, IsStrictlySortedBy, itself, Less, nat_cmp, nat_tests}
use Rattle.farm_core.proofs.Names.{option_map_or, Queued, ResRow, same_number}
use mathlib.Core.Bool.{false≢true}
use Rattle.std.specs.BTreeSet.{BTreeSet, IsLowerBound}
use Rattle.std.specs.Cmp.{tied_then}
use Rattle.std.specs.Ordering.{is_gt}
use Rattle.std.proofs.lemmas.Cmp.{ranked}
use Rattle.farm_types.specs.Names.{change_where, is_dead, put, res_cmp}
use Rattle.farm_types.specs.declared.rows.ResState.{ResState}
use Rattle.farm_types.proofs.Put.{AllByRecursion-put}
use Rattle.farm_types.proofs.Searched.{same_numbers}
use Rattle.farm_sound.proofs.Add.{res_total}
use Rattle.farm_sound.proofs.Lists.{none_pass}
use Rattle.farm_sound.proofs.Where.{AllByRecursion-both}
use Rattle.farm_sound.specs.Keys.{res_in}
use Rattle.farm_core.specs.Came.{Seen}
use Rattle.farm_core.specs.Following.{without_claim, without_all}
use Rattle.farm_core.specs.Leases.{AreNoted, Grows, IsNoted, is_dead_at, is_noted, lease_cmp, lease_of, may_end}
use Rattle.farm_core.specs.declared.res_table.Lease.{Lease}
use Rattle.farm_core.proofs.Assigned.{taken_more}

-- ---- rows that change

-- those that are noted stay so as leases come
pub noted_on : (old news : BTreeSet Lease) → Grows old news → (rows new : List ResRow) → AreNoted old rows → new ≡ rows → AreNoted news new
noted_on old news grows rows new noted same = subst (AreNoted news) (sym same) (AllByRecursion-weaker (λ r was may. grows (lease_of r) (was may)) rows noted)

-- and as one is put, or changed in its place
pub noted_put : (old news : BTreeSet Lease) → Grows old news → (rows new : List ResRow) (row : ResRow) → AreNoted old rows → IsNoted news row → new ≡ put res_cmp rows row → AreNoted news new
noted_put old news grows rows new row noted here is =
    subst (AreNoted news) (sym is) (AllByRecursion-put res_cmp res_total row (IsNoted news) here rows (AllByRecursion-weaker (λ r was may. grows (lease_of r) (was may)) rows noted))

noted_there : (leases : BTreeSet Lease) (rows : List ResRow) (i : ℕ) (x : ResRow) → AreNoted leases rows → IsNoted leases x → AreNoted leases (set rows i x)
noted_there leases [] i x noted here = noted
noted_there leases (r ∷ rows) zero x noted here = (here, noted.1)
noted_there leases (r ∷ rows) (suc i) x noted here = (noted.0, noted_there leases rows i x noted.1 here)

pub noted_set : (old news : BTreeSet Lease) → Grows old news → (rows new : List ResRow) (i : ℕ) (x : ResRow) → AreNoted old rows → IsNoted news x → new ≡ set rows i x → AreNoted news new
noted_set old news grows rows new i x noted here is =
    subst (AreNoted news) (sym is) (noted_there news rows i x (AllByRecursion-weaker (λ r was may. grows (lease_of r) (was may)) rows noted) here)

-- a lease is noted besides the others
pub still_noted : (same was now : Bool) → now ≡ cond same true was → was ≡ true → now ≡ true
still_noted true was now is noted = is
still_noted false was now is noted = is ∙ noted

-- and one row more has its lease noted
pub noted_more : (old news : BTreeSet Lease) → Grows old news → (rows : List ResRow) (i : ℕ) (d r : ResRow) → i < length rows → get_or rows i d ≡ r → AreNoted old (take i rows) → IsNoted news r
    → AreNoted news (take (i + 1) rows)
noted_more old news grows rows i d r low at was now = subst (λ n. AreNoted news (take n rows)) (sym (add-one i)) (by_suc rows i low at was)
  where
    by_suc : (rows : List ResRow) (i : ℕ) → i < length rows → get_or rows i d ≡ r → AreNoted old (take i rows) → AreNoted news (take (suc i) rows)
    by_suc [] i low at was = absurd (omega arith)
    by_suc (q ∷ rows) zero low at was = (subst (IsNoted news) (sym at) now, tt)
    by_suc (q ∷ rows) (suc i) low at was = ((λ may. grows (lease_of q) (was.0 may)), by_suc rows i (omega arith) at was.1)

-- ---- rows of one number

none_behind : (n : ℕ) (r : ResRow) (rows : List ResRow) → r.number ≡ n → AllByRecursion (λ q. res_cmp r q ≡ Less) rows → AllByRecursion (λ (q : ResRow). q.number ≡ n → ⊥) rows
none_behind n r rows is above =
    AllByRecursion-weaker (λ q less same. let below : r.number < q.number = ranked r.number q.number Less (sym less) in absurd (omega arith)) rows above

alone : (test : ResRow → Bool) (n : ℕ) (rows : List ResRow) → IsStrictlySortedBy res_cmp rows → option_map_or test (res_in rows n) false ≡ false
    → AllByRecursion (λ (r : ResRow). r.number ≡ n → test r ≡ false) rows
unfolding IsStrictlySortedBy
alone test n [] sorted fails = tt
alone test n (r ∷ rows) sorted fails = grind (arith, alone test n rows sorted.1, AllByRecursion-weaker, none_behind, same_number, itself, nat_tests)

-- ---- leases in order

same_lease : (a b : Lease) → is_eq (lease_cmp a b) ≡ true → (a.deadline ≡ b.deadline) × (a.number ≡ b.number)
same_lease a b is =
    let two = both (is_eq (nat_cmp a.deadline b.deadline)) (is_eq (nat_cmp a.number b.number)) (tied_then (nat_cmp a.deadline b.deadline) (nat_cmp a.number b.number) ∙ is) in (
      same_number a.deadline b.deadline (same_numbers a.deadline b.deadline ∙ two.0),
      same_number a.number b.number (same_numbers a.number b.number ∙ two.1),
    )

not_before : (a b : Lease) → is_gt (lease_cmp a b) ≡ false → a.deadline ≤ b.deadline
not_before a b is = grind arith

is_over : (a b : ℕ) → a ≤ b → nat_le a b ≡ true
is_over a b low = grind (arith, nat_tests)

runs_on : (a b : ℕ) → b < a → nat_le a b ≡ false
runs_on a b low = grind (arith, nat_tests)

-- the first lease is taken
pub popped : (o : Option Lease) (old news : List Lease) (lease : Lease) → slice_get old 0 ≡ Some lease → (0 < length old → IsSome o) → IfSome o (λ k. old ≡ k ∷ news) → old ≡ lease ∷ news
popped None [] news lease first some removal = cc
popped None (l ∷ old) news lease first some removal = absurd (false≢true (some (omega arith)))
popped (Some k) old news lease first some removal =
    let at : ◌≡◌ {A = Option Lease} (Some k) (Some lease) = sym (ap (λ ls. slice_get ls 0) removal) ∙ first in
    let same : k ≡ lease = cc in
    removal ∙ ap (λ l. l ∷ news) same

module _ (now : ℕ) (rows : List ResRow) where
  -- a lease that is over is forgotten, where its reservation isn't dead
  pub forgotten : (lease : Lease) (leases : List Lease) → IsStrictlySortedBy res_cmp rows → lease.deadline ≤ now → is_dead_at now rows lease.number ≡ false
      → AreNoted (record { keys = lease ∷ leases }) rows → AreNoted (record { keys = leases }) rows
  forgotten lease leases sorted over alive noted = grind (arith, AllByRecursion-weaker, AllByRecursion-both (IsNoted (record { keys = lease ∷ leases })) (λ (r : ResRow). r.number ≡ lease.number → is_dead now r ≡ false) rows noted (alone (is_dead now) lease.number rows sorted alive), alone (is_dead now) lease.number rows sorted alive, same_lease, is_over, nat_tests)

  -- where the first lease runs on, so do all
  pub none_over : (lease : Lease) (leases : BTreeSet Lease) → AreNoted leases rows → now < lease.deadline → IsLowerBound lease_cmp leases lease
      → AllByRecursion (λ r. is_dead now r ≡ false) rows
  none_over lease leases noted later least = grind (arith, AllByRecursion-weaker, not_before lease, runs_on, nat_tests)

  -- and without a lease none is dead
  pub none_noted : (leases : BTreeSet Lease) → AreNoted leases rows → length leases.keys ≡ 0 → AllByRecursion (λ r. is_dead now r ≡ false) rows
  none_noted leases noted none = AllByRecursion-weaker (λ r one. by r one (may_end r) refl) rows noted
    where
      no_keys : (ls : List Lease) → length ls ≡ 0 → ls ≡ []
      no_keys [] empty = refl
      no_keys (l ∷ ls) empty = absurd (omega (arith, empty))

      by : (r : ResRow) → IsNoted leases r → (v : Bool) → may_end r ≡ v → is_dead now r ≡ false
      by r one true may = absurd (false≢true (ap (λ ls. is_noted (record { keys = ls }) (lease_of r)) (sym (no_keys leases.keys none)) ∙ one may))
      by r one false may = ap (λ v. v && nat_le r.deadline now) may

-- ---- the dead end one after the other

abbrev pub expired : ResRow → ResRow
expired r = record r { state = ResState.Expired }

unchanged : (test : ResRow → Bool) (f : ResRow → ResRow) (rows : List ResRow) → AllByRecursion (λ r. test r ≡ false) rows → change_where test f rows ≡ rows
unchanged test f [] all = refl
unchanged test f (r ∷ rows) all = λ i. cond (all.0 i) (f r) r ∷ unchanged test f rows all.1 i

abbrev without : ℕ → List Queued → List Queued
without n xs = filter (λ (x : Queued). not (x.claim.number == n)) xs

or_back : (a b : Bool) → (a || b) ≡ (b || a)
or_back true true = refl
or_back true false = refl
or_back false true = refl
or_back false false = refl

either_first : (m n : ℕ) (xs : List Queued) → without m (without n xs) ≡ without n (without m xs)
either_first m n xs =
    taken_more (λ (x : Queued). x.claim.number == n) (λ (x : Queued). x.claim.number == m) (λ (x : Queued). (x.claim.number == n) || (x.claim.number == m)) (λ x. refl) xs
    ∙ sym (taken_more (λ (x : Queued). x.claim.number == m) (λ (x : Queued). x.claim.number == n) (λ (x : Queued). (x.claim.number == n) || (x.claim.number == m))
    (λ x. or_back (x.claim.number == n) (x.claim.number == m)) xs)

-- one that is dead ends: what is left to do is the same but for it
pub record EndsOne (t n : ℕ) (rows news : List ResRow) : Type 0 where
  pub rest : change_where (is_dead t) expired news ≡ change_where (is_dead t) expired rows
  pub fewer : suc (length (filter (is_dead t) news)) ≡ length (filter (is_dead t) rows)
  pub claims : (cs : List Queued) → without_all (filter (is_dead t) news) (without n cs) ≡ without_all (filter (is_dead t) rows) cs

module _ (t n : ℕ) where
  abbrev numbered : ResRow → Bool
  numbered r = r.number == n

  here : (r : ResRow) (rows : List ResRow) → r.number ≡ n → is_dead t r ≡ true → EndsOne t n (r ∷ rows) (expired r ∷ rows)
  here r rows same dead = record {
    rest = sym (ap (λ v. cond v (expired r) r ∷ change_where (is_dead t) expired rows) dead);
    fewer = sym (ap (λ v. length (cond v (r ∷ filter (is_dead t) rows) (filter (is_dead t) rows))) dead);
    claims = λ cs. ap (λ m. without_all (filter (is_dead t) rows) (without m cs)) (sym same)
        ∙ sym (ap (λ v. without_all (cond v (r ∷ filter (is_dead t) rows) (filter (is_dead t) rows)) cs) dead);
  }

  behind : (r : ResRow) (rows news : List ResRow) → EndsOne t n rows news → EndsOne t n (r ∷ rows) (r ∷ news)
  behind r rows news e = record {
    rest = ap (λ qs. cond (is_dead t r) (expired r) r ∷ qs) e.rest;
    fewer = by_length (is_dead t r);
    claims = by_claims (is_dead t r);
  }
    where
      by_length : (v : Bool) → suc (length (cond v (r ∷ filter (is_dead t) news) (filter (is_dead t) news))) ≡ length (cond v (r ∷ filter (is_dead t) rows) (filter (is_dead t) rows))
      by_length true = omega (arith, e.fewer)
      by_length false = e.fewer

      by_claims : (v : Bool) (cs : List Queued) → without_all (cond v (r ∷ filter (is_dead t) news) (filter (is_dead t) news)) (without n cs)
          ≡ without_all (cond v (r ∷ filter (is_dead t) rows) (filter (is_dead t) rows)) cs
      by_claims true cs = ap (without_all (filter (is_dead t) news)) (either_first r.number n cs) ∙ e.claims (without r.number cs)
      by_claims false cs = e.claims cs

  pub ends_one : (rows : List ResRow) → IsStrictlySortedBy res_cmp rows → is_dead_at t rows n ≡ true → EndsOne t n rows (change_where numbered expired rows)
  unfolding IsStrictlySortedBy
  ends_one [] sorted dead = absurd (false≢true dead)
  ends_one (r ∷ rows) sorted dead = by (r.number == n) refl dead (λ rest. ends_one rows sorted.1 rest)
    where
      by : (v : Bool) → (r.number == n) ≡ v → option_map_or (is_dead t) (cond v (Some r) (res_in rows n)) false ≡ true
          → (is_dead_at t rows n ≡ true → EndsOne t n rows (change_where numbered expired rows))
          → EndsOne t n (r ∷ rows) (cond (r.number == n) (expired r) r ∷ change_where numbered expired rows)
      by true is dead rest =
          let same = same_number r.number n is in
          let others : change_where numbered expired rows ≡ rows = unchanged numbered expired rows
          (AllByRecursion-weaker (λ q other. differs_from q.number other) rows (none_behind n r rows same sorted.0)) in
          subst (EndsOne t n (r ∷ rows)) (sym (λ i. cond (is i) (expired r) r ∷ others i)) (here r rows same dead)
        where
          differs_from : (m : ℕ) → (m ≡ n → ⊥) → (m == n) ≡ false
          differs_from m other = by_test (m == n) refl
            where
              by_test : (w : Bool) → (m == n) ≡ w → w ≡ false
              by_test true same = absurd (other (same_number m n same))
              by_test false same = refl
      by false is dead rest =
          subst (EndsOne t n (r ∷ rows)) (sym (ap (λ v. cond v (expired r) r ∷ change_where numbered expired rows) is)) (behind r rows (change_where numbered expired rows) (rest dead))

-- ---- and so in a farm and its queues

abbrev pub dead_rows : Seen → List ResRow
dead_rows D = filter (is_dead D.farm.clock) D.farm.reservations

-- these once their dead reservations have ended
abbrev pub ended : Seen → Seen
ended D = record D {
  farm = record D.farm { reservations = change_where (is_dead D.farm.clock) expired D.farm.reservations };
  queues = record D.queues { claims = without_all (dead_rows D) D.queues.claims };
}

-- and once one has
abbrev pub one_ended : ℕ → Seen → Seen
one_ended n D = record D {
  farm = record D.farm { reservations = change_where (λ (r : ResRow). r.number == n) expired D.farm.reservations };
  queues = without_claim n D.queues;
}

module _ (D E : Seen) (n : ℕ) (sorted : IsStrictlySortedBy res_cmp D.farm.reservations) (dead : is_dead_at D.farm.clock D.farm.reservations n ≡ true) (is : E ≡ one_ended n D) where
  one : EndsOne D.farm.clock n D.farm.reservations (change_where (λ (r : ResRow). r.number == n) expired D.farm.reservations)
  one = ends_one D.farm.clock n D.farm.reservations sorted dead

  pub ended_on : ended E ≡ ended D
  ended_on = ap ended is ∙ (λ i. record D {
    farm = record D.farm { reservations = one.rest i };
    queues = record D.queues { claims = one.claims D.queues.claims i };
  })

  pub dead_fewer : suc (length (dead_rows E)) ≡ length (dead_rows D)
  dead_fewer = ap (λ (G : Seen). suc (length (dead_rows G))) is ∙ one.fewer

pub ended_all : (D : Seen) → AllByRecursion (λ r. is_dead D.farm.clock r ≡ false) D.farm.reservations → ended D ≡ D
ended_all D none = λ i. record D {
  farm = record D.farm { reservations = unchanged (is_dead D.farm.clock) expired D.farm.reservations none i };
  queues = record D.queues { claims = without_all (none_pass (is_dead D.farm.clock) D.farm.reservations none i) D.queues.claims };
}

pub none_dead : (D : Seen) → AllByRecursion (λ r. is_dead D.farm.clock r ≡ false) D.farm.reservations → length (dead_rows D) ≡ 0
none_dead D none = ap length (none_pass (is_dead D.farm.clock) D.farm.reservations none)

-- they are no more than there are rows, and an end leaves the rows as many
length_changed : (test : ResRow → Bool) (f : ResRow → ResRow) (rows : List ResRow) → length (change_where test f rows) ≡ length rows
length_changed test f [] = refl
length_changed test f (r ∷ rows) = ap suc (length_changed test f rows)

length_passing : (test : ResRow → Bool) (rows : List ResRow) → length (filter test rows) ≤ length rows
length_passing test [] = omega arith
length_passing test (r ∷ rows) = grind (arith, length_passing test rows)

pub dead_few : (D E : Seen) → ended E ≡ ended D → length (dead_rows D) ≤ length E.farm.reservations
dead_few D E is =
    let same : length E.farm.reservations ≡ length D.farm.reservations =
    sym (length_changed (is_dead E.farm.clock) expired E.farm.reservations) ∙ ap (λ (G : Seen). length G.farm.reservations) is
    ∙ length_changed (is_dead D.farm.clock) expired D.farm.reservations in
    let few = length_passing (is_dead D.farm.clock) D.farm.reservations in
    omega (arith, same, few)
