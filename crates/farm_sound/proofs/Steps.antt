-- Groups: each member in the phase of the one before it, and all members in one phase.
use Rattle.std.proofs.Common.{◌+◌, ◌-◌, ◌==◌, ◌≡◌, ◌≢◌, ◌≤◌, Bool, IsSomeAnd, List, Some, arith, false, length, refl, subst, suc}
use Rattle.std.proofs.Common.{true, zero, ℕ}
use Rattle.farm_sound.proofs.Names.{AllByRecursion, AllByRecursion-weaker, bytes_eq, bytes_eq-Decides, Farm, filter, found_has, found_passes}
use Rattle.farm_sound.proofs.Names.{job_of, JobRow, nat_tests}
use Rattle.farm_types.specs.Names.{AreGroupsInPhase, Follows, IsJobRow, most_boards_of_type, phase}
use Rattle.farm_sound.specs.ByRows.{IsInStep, IsOfFew}
use Rattle.farm_sound.proofs.Lists.{all_fail, none_pass}
use Rattle.farm_sound.proofs.Tests.{same_number}
use Rattle.farm_sound.proofs.Where.{AllByRecursion-both}

module _ (F : Farm) where
  -- ---- a whole group is in step

  step_at : (j : JobRow) → IsJobRow F j → AllByRecursion (λ m. m.group ≡ j.group → phase m.state ≡ phase j.state) F.jobs → IsInStep F j
  step_at j row whole apart =
      let f : Follows F j = row.follows apart in
      rw f.there (found_has (λ m. m.group ≡ j.group → phase m.state ≡ phase j.state) (λ r. r.number == j.number - 1) f.previous F.jobs whole f.there f.group)

  pub steps_from_whole : AllByRecursion (IsJobRow F) F.jobs → AreGroupsInPhase F → AllByRecursion (IsInStep F) F.jobs
  steps_from_whole rows whole =
      AllByRecursion-weaker (λ j two. step_at j two.0 two.1) F.jobs
      (AllByRecursion-both (IsJobRow F) (λ j. AllByRecursion (λ m. m.group ≡ j.group → phase m.state ≡ phase j.state) F.jobs) F.jobs rows whole)

  -- ---- a group in step is whole

  -- a member is in the phase of its group's first
  abbrev IsLed : JobRow → Type 0
  IsLed r = IsSomeAnd (job_of F r.group) (λ first. phase first.state ≡ phase r.state)

  -- what is known of a member
  record IsMember (r : JobRow) : Type 0 where
    pub row : IsJobRow F r
    pub step : IsInStep F r
    pub itself : job_of F r.number ≡ Some r

  -- by at most three steps down the group
  led : AllByRecursion IsMember F.jobs → (n : ℕ) (r : JobRow) → IsMember r → r.number ≤ r.group + n → IsLed r
  led all zero r is near =
      let low = is.row.group in
      let same : r.number ≡ r.group = omega arith in
      let here : job_of F r.group ≡ Some r = subst (λ k. job_of F k ≡ Some r) same is.itself in
      rw here refl
  led all (suc n) r is near = by (λ p is_p near_p. led all n p is_p near_p) (r.number == r.group) refl
    where
      lead : (p : JobRow) → p.group ≡ r.group → phase p.state ≡ phase r.state → IsLed p → IsLed r
      lead p group same is_led =
          subst (λ k. IsSomeAnd (job_of F k) (λ first. phase first.state ≡ phase r.state)) group
          (subst (λ v. IsSomeAnd (job_of F p.group) (λ first. phase first.state ≡ v)) same is_led)

      by : ((p : JobRow) → IsMember p → p.number ≤ p.group + n → IsLed p) → (v : Bool) → (r.number == r.group) ≡ v → IsLed r
      by rest true e = let here : job_of F r.group ≡ Some r = subst (λ k. job_of F k ≡ Some r) (same_number r.number r.group e) is.itself in rw here refl
      by rest false e =
          let apart : r.number ≢ r.group = grind (arith, nat_tests) in
          let f : Follows F r = is.row.follows apart in
          let p : JobRow = f.previous in
          let is_p : IsMember p = found_has IsMember (λ q. q.number == r.number - 1) p F.jobs all f.there in
          let number : p.number ≡ r.number - 1 = same_number p.number (r.number - 1) (found_passes (λ q. q.number == r.number - 1) p F.jobs f.there) in
          let same : phase p.state ≡ phase r.state = rw f.there at (is.step apart) in
          let group : p.group ≡ r.group = f.group in
          let first = is.row.number in
          let near_p : p.number ≤ p.group + n = omega arith in
          lead p group same (rest p is_p near_p)

  one_phase : (j m : JobRow) → IsLed j → IsLed m → m.group ≡ j.group → phase m.state ≡ phase j.state
  one_phase j m led_j led_m group = grind arith

  pub whole_from_steps : AllByRecursion (λ j. job_of F j.number ≡ Some j) F.jobs → AllByRecursion (IsJobRow F) F.jobs
      → AllByRecursion (IsInStep F) F.jobs → AreGroupsInPhase F
  whole_from_steps own rows steps =
      let all : AllByRecursion IsMember F.jobs =
      AllByRecursion-weaker (λ j two. record { row = two.0.0; step = two.0.1; itself = two.1 }) F.jobs
      (AllByRecursion-both (λ j. IsJobRow F j × IsInStep F j) (λ j. job_of F j.number ≡ Some j) F.jobs
      (AllByRecursion-both (IsJobRow F) (IsInStep F) F.jobs rows steps) own) in
      let each : AllByRecursion IsLed F.jobs = AllByRecursion-weaker (λ j is. let near = is.row.group in led all 4 j is (omega arith)) F.jobs all in
      AllByRecursion-weaker (λ j led_j. AllByRecursion-weaker (λ m led_m group. one_phase j m led_j led_m group) F.jobs each) F.jobs each

  -- ---- few of each board's type are few of each type

  pub few_of_kinds : AllByRecursion (IsOfFew F) F.boards → (kind : List ℕ) → length (filter (λ b. bytes_eq b.kind kind) F.boards) ≤ most_boards_of_type
  few_of_kinds few kind = grind (arith, none_pass, all_fail, bytes_eq-Decides, found_passes, found_has)
