-- The jobs whose numbers are near one another stand side by side.
use Rattle.std.proofs.Common.{[], ◌≡◌, ℕ, zero, suc, ◌+◌, ◌<◌, ◌≤◌, ◌-◌, ◌==◌, ◌⊎◌, inl, inr, Bool, true, false, List, ◌∷◌, length, get_or}
use Rattle.std.proofs.Common.{Result, Ok, Err, MatchResult, sym, ap, ◌∙◌, refl, subst, arith}
use Rattle.farm_core.proofs.Names.{AllByRecursion, both, Equal, find, Greater, is_lt, IsFitJob, IsStrictlySortedBy, JobRow, Less, nat_cmp}
use Rattle.farm_core.proofs.Names.{option_map_or, ordering_reverse, same_number}
use Rattle.farm_types.specs.Names.{job_cmp}
use Rattle.std.specs.List.Sorted.{IsSortedBy, IsSearchInRange, IsBinarySearchResult}
use Rattle.std.specs.Cmp.{nat_cmp_total}
use Rattle.std.proofs.lemmas.Cmp.{ranked}
use Rattle.std.proofs.lemmas.List.{get_or_default}
use Rattle.std.proofs.lemmas.List.Sorted.{searchable_from_sorted}
use Rattle.std.proofs.lemmas.Map.Keys.{Less-from_sorted}
use Rattle.farm_core.specs.declared.edits.JobFilter.{JobFilter}
use Rattle.farm_core.specs.Edits.{job_passes, first_of, IsPartitionPoint}
use Rattle.farm_table.specs.Near.{IsNear}

same_or_less : (j k : ℕ) → j ≤ k → (j ≡ k) ⊎ (j < k)
same_or_less j k le = grind arith

less_or_more : (a b : ℕ) → (a ≤ b) ⊎ (b < a)
less_or_more a b = grind arith

module _ {R : Type 0} (key : R → ℕ) where
  -- rows rise by their numbers
  abbrev pub Rise : List R → Type 0
  Rise rows = IsStrictlySortedBy (λ a b. nat_cmp (key a) (key b)) rows

  rises : (rows : List R) (j k : ℕ) (d : R) → Rise rows → j < k → k < length rows → key (get_or rows j d) < key (get_or rows k d)
  rises rows j k d sorted less in_range = ranked (key (get_or rows j d)) (key (get_or rows k d)) Less (sym (Less-from_sorted (λ a b. nat_cmp (key a) (key b)) rows j k d sorted less in_range))

  -- where a row of a number stands
  pub placed : (rows : List R) (number i : ℕ) → Rise rows → i < length rows → ((d : R) → key (get_or rows i d) ≡ number) → IsPartitionPoint key rows number i
  placed rows number i sorted in_range equal = record {
    below = λ k d less.
        let tie = equal d in
        let rise = rises rows k i d sorted less in_range in omega arith;
    above = λ k d le low.
        let tie = equal d in
        elim (same_or_less i k le) [
          | inl same ↦ let P : ℕ → Type 0 = λ k. number ≤ key (get_or rows k d) in subst P same (omega arith)
          | inr less ↦ let rise = rises rows i k d sorted less low in omega arith
        ];
  }

  pub placed_at : (rows : List R) (number i : ℕ) (x : R) → Rise rows → i < length rows → x ≡ get_or rows i x → key x ≡ number → IsPartitionPoint key rows number i
  placed_at rows number i x sorted in_range is equal =
      placed rows number i sorted in_range (λ d. ap key (get_or_default rows i d x in_range) ∙ sym (ap key is) ∙ equal)

  -- numbers rise at least as fast as places
  pub rises_by : (rows : List R) (j k : ℕ) (d : R) → Rise rows → j + k < length rows → key (get_or rows j d) + k ≤ key (get_or rows (j + k) d)
  rises_by rows j zero d sorted in_range =
      let same : j + 0 ≡ j = omega arith in
      let there : key (get_or rows (j + 0) d) ≡ key (get_or rows j d) = ap (λ n. key (get_or rows n d)) same in
      omega (arith, there)
  rises_by rows j (suc k) d sorted in_range =
      let less = rises_by rows j k d sorted (omega arith) in
      let more = rises rows (j + k) (j + suc k) d sorted (omega arith) in_range in
      omega (arith, less, more)

  -- rows from some places on have numbers that are so much greater
  pub far_on : (rows : List R) (number start reach : ℕ) → Rise rows → IsPartitionPoint key rows number start → (k : ℕ) (d : R) → start + reach ≤ k → k < length rows
      → number + reach ≤ key (get_or rows k d)
  far_on rows number start reach sorted place k d far low =
      let first = place.above start d (omega arith) (omega arith) in
      let rise = rises_by rows start (k - start) d sorted (omega arith) in
      let same : start + (k - start) ≡ k = omega arith in
      let there : key (get_or rows (start + (k - start)) d) ≡ key (get_or rows k d) = ap (λ n. key (get_or rows n d)) same in
      omega (arith, first, rise, there, far)

  -- where a binary search ends
  pub searched : (rows : List R) (number : ℕ) → Rise rows → (found : Result ℕ ℕ) → IsSearchInRange found (length rows) → IsBinarySearchResult (λ r. nat_cmp (key r) number) rows found → MatchResult found (IsPartitionPoint key rows number) (IsPartitionPoint key rows number)
  searched rows number sorted (Ok i) in_range equal = placed rows number i sorted in_range (λ d. ranked (key (get_or rows i d)) number Equal (sym (equal d)))
  searched rows number sorted (Err i) in_range parted =
      let ascending : IsSortedBy (λ a b. is_lt (nat_cmp (key a) (key b))) rows = λ j d low high. ap is_lt (nat_cmp_total.antisymm (key (get_or rows (j + 1) d)) (key (get_or rows j d)) ∙ ap ordering_reverse (Less-from_sorted (λ a b. nat_cmp (key a) (key b)) rows j (j + 1) d sorted (omega arith) high)) in
      let both = parted (searchable_from_sorted nat_cmp_total key rows number ascending) in
      record {
        below = λ k d less. ranked (key (get_or rows k d)) number Less (sym (both.0 k d (omega arith) less));
        above = λ k d le low. let more = ranked (key (get_or rows k d)) number Greater (sym (both.1 k d le low)) in omega arith;
      }

  pub places_rise : (reach : ℕ) (rows : List R) (first start end : ℕ) → start ≤ length rows → end ≤ length rows → IsPartitionPoint key rows first start → IsPartitionPoint key rows (first + reach) end → start ≤ end
  places_rise reach [] first start end low high at last = omega arith
  places_rise reach (r ∷ rows) first start end low high at last = elim (less_or_more start end) [
    | inl le ↦ le
    | inr less ↦ let below = at.below end r less in let above = last.above end r (omega arith) (omega arith) in absurd (omega arith)
  ]

-- what holds of each row holds at each place
pub all_at : {R : Type 0} (P : R → Type 0) (rows : List R) (k : ℕ) (d : R) → AllByRecursion P rows → k < length rows → P (get_or rows k d)
all_at P [] k d all low = absurd (omega arith)
all_at P (r ∷ rows) zero d all low = all.0
all_at P (r ∷ rows) (suc k) d all low = all_at P rows k d all.1 (omega arith)

-- a job that passes has one of the filter's numbers
pub in_reach : (filter : JobFilter) (j : JobRow) → IsNear j → job_passes filter j ≡ true → (first_of filter ≤ j.number) × (j.number < first_of filter + 4)
in_reach (JobFilter.Members group) j near passes = let is = same_number j.group group passes in (omega arith, omega arith)
in_reach (JobFilter.Unstarted group) j near passes = let is = same_number j.group group (both _ _ passes).0 in (omega arith, omega arith)
in_reach (JobFilter.Running group) j near passes = let is = same_number j.group group (both _ _ passes).0 in (omega arith, omega arith)
in_reach (JobFilter.Scheduling group) j near passes = let is = same_number j.group group (both _ _ passes).0 in (omega arith, omega arith)
in_reach (JobFilter.Numbered number) j near passes = let is = same_number j.number number passes in (omega arith, omega arith)

out_of_reach : (filter : JobFilter) (j : JobRow) → IsNear j → (v : Bool) → job_passes filter j ≡ v → ((first_of filter ≤ j.number) × (j.number < first_of filter + 4) → ⊥) → v ≡ false
out_of_reach filter j near true passes out = absurd (out (in_reach filter j near passes))
out_of_reach filter j near false passes out = refl

module _ (jobs : List JobRow) (filter : JobFilter) (fit : AllByRecursion IsFitJob jobs) where
  pub none_before : (start : ℕ) → start ≤ length jobs → IsPartitionPoint (λ (r : JobRow). r.number) jobs (first_of filter) start → (k : ℕ) (d : JobRow) → k < start → job_passes filter (get_or jobs k d) ≡ false
  none_before start in_range place k d low = out_of_reach filter (get_or jobs k d) (all_at IsFitJob jobs k d fit (omega arith)).near _ refl (λ both. let less = place.below k d low in absurd (omega (arith, both.0)))

  pub none_behind : (end : ℕ) → IsPartitionPoint (λ (r : JobRow). r.number) jobs (first_of filter + 4) end → (k : ℕ) (d : JobRow) → end ≤ k → k < length jobs → job_passes filter (get_or jobs k d) ≡ false
  none_behind end place k d high low = out_of_reach filter (get_or jobs k d) (all_at IsFitJob jobs k d fit low).near _ refl (λ both. let more = place.above k d high low in absurd (omega (arith, both.1)))

-- none from four places behind a group's first one on is a member
pub no_member : (jobs : List JobRow) (fit : AllByRecursion IsFitJob jobs) (group start : ℕ) → IsStrictlySortedBy job_cmp jobs → IsPartitionPoint (λ (r : JobRow). r.number) jobs group start
    → (k : ℕ) (d : JobRow) → start + 4 ≤ k → k < length jobs → ((get_or jobs k d).group == group) ≡ false
no_member jobs fit group start sorted place k d far low =
    let high = far_on (λ (r : JobRow). r.number) jobs group start 4 sorted place k d far low in
    out_of_reach (JobFilter.Members group) (get_or jobs k d) (all_at IsFitJob jobs k d fit low).near _ refl (λ both. absurd (omega (arith, both.1, high)))

-- a row of a number doesn't pass where none of that number does
pub none_so : {R : Type 0} (key : R → ℕ) (P : R → Type 0) (test : R → Bool) (number : ℕ) (rows : List R) → AllByRecursion P rows → ((r : R) → P r → key r ≡ number → test r ≡ false)
    → option_map_or test (find (λ r. key r == number) rows) false ≡ false
none_so key P test number [] all fails = refl
none_so key P test number (r ∷ rows) all fails = grind (arith, none_so key P test number rows all.1 fails)
