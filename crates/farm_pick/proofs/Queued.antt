-- The sorted claims of a farm's rows are its queue.
use Rattle.std.proofs.Common.{[], ◌≡◌, ℕ, zero, suc, ◌+◌, ◌<◌, ◌≤◌, ◌==◌, ◌++◌, List, ◌∷◌, length, map, take, Bool, cond, inl, inr, sym, ap}
use Rattle.std.proofs.Common.{◌∙◌, refl, subst, arith}
use Rattle.farm_pick.proofs.Names.{AllByRecursion, AllByRecursion-both, AllByRecursion-weaker, append-nil, both, cases_Bool, Claim, differs, differs_more}
use Rattle.farm_pick.proofs.Names.{is_lt, IsPermutation, IsPermutation-sym, IsSortedBy, IsTotalOrder, itself, JobRow, length-map, list_all}
use Rattle.std.specs.List.Sorted.{IsStrictlySortedBy}
use Rattle.farm_pick.proofs.Names.{map-map, nat_cmp_total, none_pass, on_total, queue_sorted, ranked, ResRow, same_number, then_total}
use Rattle.std.specs.Cmp.{back_total}
use Rattle.std.specs.List.{filter}
use Rattle.std.specs.declared.cmp.Ordering.TheVariants.{Less}
use Rattle.std.proofs.lemmas.List.{map-append}
use Rattle.std.proofs.lemmas.List.Sorted.{IsPermutation-map, IsPermutation-trans}
use Rattle.farm_types.specs.Names.{claim_cmp, claims, Farm, group_claim, is_waiting, IsSteady, job_cmp, leads_claim, members, queue, res_claim, shown_claim}
use Rattle.farm_types.specs.Names.{shown_cmp, waits}
use Rattle.farm_types.specs.declared.claims.ClaimKind.{ClaimKind}
use Rattle.farm_sound.proofs.Queue.{queue_permutes}
use Rattle.farm_pick.specs.Queue.{leads, mates, most_mates, shown_group, shown_groups, shown_reservation}
use Rattle.farm_pick.proofs.Entries.{sorted_seen}
use Rattle.farm_pick.proofs.Ordered.{sorted_is_one}

-- ---- the members of a group stand near its first one

abbrev IsNear : JobRow → Type 0
IsNear j = (j.group ≤ j.number) × (j.number < j.group + 4)

abbrev in_group : ℕ → JobRow → Bool
in_group g m = m.group == g

behind : (j : JobRow) (jobs : List JobRow) → AllByRecursion (λ m. job_cmp j m ≡ Less) jobs → AllByRecursion (λ m. j.number + 1 ≤ m.number) jobs
behind j jobs above = AllByRecursion-weaker (λ m less. let below : j.number < m.number = ranked j.number m.number Less (sym less) in omega arith) jobs above

none_far : (g low : ℕ) (jobs : List JobRow) → AllByRecursion IsNear jobs → AllByRecursion (λ m. low ≤ m.number) jobs → g + 4 ≤ low → filter (in_group g) jobs ≡ []
none_far g low jobs near above far = none_pass (in_group g) jobs
    (AllByRecursion-weaker (λ m two. differs_more m.group g (omega (arith, two.0.0, two.0.1, two.1))) jobs
    (AllByRecursion-both IsNear (λ m. low ≤ m.number) jobs near above))

-- no member of a group stands behind its last number
near_alone : (g k low : ℕ) (jobs : List JobRow) → IsStrictlySortedBy job_cmp jobs → AllByRecursion IsNear jobs → AllByRecursion (λ m. low ≤ m.number) jobs
    → g + 4 ≤ low + k → filter (in_group g) jobs ≡ filter (in_group g) (take k jobs)
unfolding IsStrictlySortedBy
near_alone g zero low jobs sorted near above reach = none_far g low jobs near above (omega arith)
near_alone g (suc k) low [] sorted near above reach = refl
near_alone g (suc k) low (j ∷ jobs) sorted near above reach =
    ap (λ ms. cond (in_group g j) (j ∷ ms) ms)
    (near_alone g k (j.number + 1) jobs sorted.1 near.1 (behind j jobs sorted.0) (let low_is = above.0 in omega arith))

-- ---- each group's claim

abbrev of_boards : JobRow → ℕ → Claim
of_boards j n = record { kind = ClaimKind.Group; number = j.group; owner = j.owner; priority = j.priority; boards = n }

module _ (F : Farm) where
  -- the members of each later group are among these rows
  abbrev HasMembers : ℕ → List JobRow → Type 0
  HasMembers low jobs = (g : ℕ) → low ≤ g → members F g ≡ filter (in_group g) jobs

  members_behind : (low : ℕ) (j : JobRow) (jobs : List JobRow) → IsNear j → low ≤ j.number → HasMembers low (j ∷ jobs) → HasMembers (j.number + 1) jobs
  members_behind low j jobs near above here = λ g high.
      here g (omega arith) ∙ ap (λ v. cond v (j ∷ filter (in_group g) jobs) (filter (in_group g) jobs)) (differs j.group g (omega (arith, near.0)))

  members_near : (low : ℕ) (j : JobRow) (jobs : List JobRow) → IsStrictlySortedBy job_cmp (j ∷ jobs) → AllByRecursion IsNear jobs → low ≤ j.number → HasMembers low (j ∷ jobs)
      → j.number ≡ j.group → members F j.group ≡ j ∷ mates j (take most_mates jobs)
  unfolding IsStrictlySortedBy
  members_near low j jobs sorted near above here first =
      here j.group (omega arith)
      ∙ ap (λ v. cond v (j ∷ filter (in_group j.group) jobs) (filter (in_group j.group) jobs)) (itself j.group)
      ∙ ap (λ ms. j ∷ ms) (near_alone j.group 3 (j.number + 1) jobs sorted.1 near (behind j jobs sorted.0) (omega arith))

  leads_same : (j : JobRow) (near : List JobRow) → (j.number ≡ j.group → members F j.group ≡ j ∷ mates j near) → leads_claim F j ≡ leads j near
  leads_same j near own = grind arith

  group_same : (j : JobRow) (near : List JobRow) → members F j.group ≡ j ∷ mates j near → shown_claim (group_claim F j) ≡ shown_group j near
  group_same j near own =
      ap (of_boards j) (length-map (members F j.group) (λ m. m.want) ∙ ap length own)

  groups_shown : (low : ℕ) (jobs : List JobRow) → IsStrictlySortedBy job_cmp jobs → AllByRecursion IsNear jobs → AllByRecursion (λ m. low ≤ m.number) jobs
      → HasMembers low jobs → map shown_claim (map (group_claim F) (filter (leads_claim F) jobs)) ≡ shown_groups jobs
  unfolding IsStrictlySortedBy
  groups_shown low [] sorted near above here = refl
  groups_shown low (j ∷ jobs) sorted near above here =
      let own : (j.number ≡ j.group → members F j.group ≡ j ∷ mates j (take most_mates jobs)) = members_near low j jobs sorted near.1 above.0 here in
      let same = leads_same j (take most_mates jobs) own in
      let rest = groups_shown (j.number + 1) jobs sorted.1 near.1 (behind j jobs sorted.0) (members_behind low j jobs near.0 above.0 here) in
      elim (cases_Bool (leads_claim F j)) [
        | inl is ↦
            let first = same_number j.number j.group (both (j.number == j.group) (list_all waits (members F j.group)) is).0 in
            rw (is, sym same ∙ is) (λ i. group_same j (take most_mates jobs) (own first) i ∷ rest i)
        | inr is ↦ rw (is, sym same ∙ is) rest
      ]

-- ---- the queue

pub shown_total : IsTotalOrder shown_cmp
shown_total = then_total (on_total (λ (c : Claim). c.priority) (back_total nat_cmp_total)) (on_total (λ (c : Claim). c.number) nat_cmp_total)

module _ (F : Farm) (steady : IsSteady F) where
  claims_shown : map shown_claim (claims F) ≡ map shown_reservation (filter is_waiting F.reservations) ++ shown_groups F.jobs
  claims_shown =
      map-append shown_claim (map res_claim (filter is_waiting F.reservations)) (map (group_claim F) (filter (leads_claim F) F.jobs))
      ∙ ap (λ cs. cs ++ map shown_claim (map (group_claim F) (filter (leads_claim F) F.jobs))) (map-map shown_claim res_claim (filter is_waiting F.reservations))
      ∙ ap (λ cs. map shown_reservation (filter is_waiting F.reservations) ++ cs)
      (groups_shown F 0 F.jobs steady.jobs_sorted (AllByRecursion-weaker (λ j row. row.group) F.jobs steady.jobs)
      (AllByRecursion-weaker (λ j row. omega arith) F.jobs steady.jobs) (λ g low. refl))

  queue_of_claims : IsPermutation (map shown_claim (claims F)) (map shown_claim (queue F))
  queue_of_claims = IsPermutation-map shown_claim (claims F) (queue F)
      (subst (λ cs. IsPermutation cs (queue F)) (append-nil (claims F)) (queue_permutes F steady))

  -- the claims of the rows, once they are sorted, are the queue
  pub queue_shown : (found sorted : List Claim) → found ≡ map shown_reservation (filter is_waiting F.reservations) ++ shown_groups F.jobs
      → IsPermutation found sorted → IsSortedBy (λ a b. is_lt (shown_cmp a b)) sorted → sorted ≡ map shown_claim (queue F)
  queue_shown found sorted is permuted in_order =
      let same : found ≡ map shown_claim (claims F) = is ∙ sym claims_shown in
      sorted_is_one shown_cmp shown_total (map shown_claim (queue F)) sorted (sorted_seen claim_cmp shown_cmp shown_claim (λ a b less. less) (queue F) (queue_sorted F))
      (IsPermutation-trans (map shown_claim (queue F)) (map shown_claim (claims F)) sorted
      (IsPermutation-sym (map shown_claim (claims F)) (map shown_claim (queue F)) queue_of_claims)
      (subst (λ cs. IsPermutation cs sorted) same permuted)) in_order

  -- what is found in the rows, one table after the other
  pub queue_found : (none waiting found sorted : List Claim) (jobs : List JobRow) (reservations : List ResRow) → F.jobs ≡ jobs → F.reservations ≡ reservations
      → none ≡ [] → waiting ≡ none ++ map shown_reservation (filter is_waiting reservations) → found ≡ waiting ++ shown_groups jobs
      → IsPermutation found sorted → IsSortedBy (λ a b. is_lt (shown_cmp a b)) sorted → sorted ≡ map shown_claim (queue F)
  queue_found none waiting found sorted jobs reservations jobs_are reservations_are none_yet added grouped =
      queue_shown found sorted (
      grouped
      ∙ ap (λ cs. cs ++ shown_groups jobs) (added ∙ ap (λ cs. cs ++ map shown_reservation (filter is_waiting reservations)) none_yet)
      ∙ ap (λ rs. map shown_reservation (filter is_waiting rs) ++ shown_groups jobs) (sym reservations_are)
      ∙ ap (λ js. map shown_reservation (filter is_waiting F.reservations) ++ shown_groups js) (sym jobs_are)
      )
