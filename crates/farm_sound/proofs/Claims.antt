-- The claims of a farm, and its queue in order.
use Rattle.std.proofs.Common.{◌==◌, ◌∷◌, ◌≡◌, ◌≤◌, ◌⊎◌, List, Some, arith, inl, inr, map, refl, true, []}
use Rattle.farm_sound.proofs.Names.{AllByRecursion, AllByRecursion-put, AllByRecursion-weaker, Farm, filter, IsTotalOrder, job_of, JobRow}
use Rattle.std.specs.List.Sorted.{IsStrictlySortedBy}
use Rattle.farm_sound.proofs.Names.{JobState, list_all, members, nat_cmp_total, on_total, put_sorted, res_of, ResRow}
use Rattle.std.specs.Cmp.{back_total, then_total}
use Rattle.farm_types.specs.Names.{claim_cmp, Claimed, claims, group_claim, is_waiting, IsCollecting, IsSteady, leads_claim, phase, put, put_all, queue}
use Rattle.farm_types.specs.Names.{res_claim, waits}
use Rattle.farm_sound.proofs.Collecting.{none_scheduling}
use Rattle.farm_sound.proofs.Lists.{all_join, all_tested, filter_all}
use Rattle.farm_sound.proofs.Own.{own_job, own_res}
use Rattle.farm_sound.proofs.Tests.{both, same_number, waits_from}
use Rattle.farm_sound.proofs.Where.{AllByRecursion-both, AllByRecursion-map}

-- a waiting reservation's claim, or that of a group whose members all wait for boards
abbrev pub IsResClaim : Farm → Claimed → ResRow → Type 0
IsResClaim F c r = (res_of F r.number ≡ Some r) × (is_waiting r ≡ true) × (c ≡ res_claim r)

abbrev pub IsGroupClaim : Farm → Claimed → JobRow → Type 0
IsGroupClaim F c j = (job_of F j.number ≡ Some j) × (leads_claim F j ≡ true) × (c ≡ group_claim F j)

abbrev pub IsClaim : Farm → Claimed → Type 0
IsClaim F c = ((r : ResRow) × IsResClaim F c r) ⊎ ((j : JobRow) × IsGroupClaim F c j)

pub claim_total : IsTotalOrder claim_cmp
claim_total = then_total (on_total (λ (c : Claimed). c.priority) (back_total nat_cmp_total)) (on_total (λ (c : Claimed). c.number) nat_cmp_total)

pub all_claims : (F : Farm) → IsSteady F → AllByRecursion (IsClaim F) (claims F)
all_claims F steady = all_join (IsClaim F) (map res_claim (filter is_waiting F.reservations)) (map (group_claim F) (filter (leads_claim F) F.jobs))
    (AllByRecursion-map (λ r. (res_of F r.number ≡ Some r) × (is_waiting r ≡ true)) (IsClaim F) res_claim (λ r two. inl (r, (two.0, two.1, refl)))
    (filter is_waiting F.reservations) (filter_all (λ r. res_of F r.number ≡ Some r) is_waiting F.reservations (own_res F steady)))
    (AllByRecursion-map (λ j. (job_of F j.number ≡ Some j) × (leads_claim F j ≡ true)) (IsClaim F) (group_claim F)
    (λ j two. inr (j, (two.0, two.1, refl))) (filter (leads_claim F) F.jobs)
    (filter_all (λ j. job_of F j.number ≡ Some j) (leads_claim F) F.jobs (own_job F steady)))

pub leads : (F : Farm) (j : JobRow) → leads_claim F j ≡ true → (j.number ≡ j.group) × AllByRecursion (λ m. phase m.state ≡ 0) (members F j.group)
leads F j is =
    let two = both (j.number == j.group) (list_all waits (members F j.group)) is in (
      same_number j.number j.group two.0,
      AllByRecursion-weaker waits_from (members F j.group) (all_tested waits (members F j.group) two.1),
    )

-- ---- claims that hold nothing

-- a group's claim whose members are all Submitted, and which doesn't collect
pub record IsOpenGroup (F : Farm) (c : Claimed) (j : JobRow) : Type 0 where
  pub claim : IsGroupClaim F c j
  pub submitted : AllByRecursion (λ m. m.state ≡ JobState.Submitted) (members F j.group)
  pub other : 1 ≤ F.collector → F.collector ≡ j.group → ⊥

abbrev pub IsOpen : Farm → Claimed → Type 0
IsOpen F c = ((r : ResRow) × IsResClaim F c r) ⊎ ((j : JobRow) × IsOpenGroup F c j)

pub claim_of_open : (F : Farm) (c : Claimed) → IsOpen F c → IsClaim F c
claim_of_open F c (inl is) = inl is
claim_of_open F c (inr (j, is)) = inr (j, is.claim)

-- while none collects each claim is so
pub open_of_claim : (F : Farm) → F.collector ≡ 0 → IsCollecting F.collector F.jobs → (c : Claimed) → IsClaim F c → IsOpen F c
open_of_claim F none collecting c (inl is) = inl is
open_of_claim F none collecting c (inr (j, is)) = inr (
  j,
  record {
    claim = is;
    submitted = AllByRecursion-weaker (λ m two. submitted m.state two.0.0 two.1) (members F j.group)
        (AllByRecursion-both (λ m. (m.state ≡ JobState.Scheduling → ⊥) × ((m.group == j.group) ≡ true)) (λ m. phase m.state ≡ 0) (members F j.group)
        (filter_all (λ m. m.state ≡ JobState.Scheduling → ⊥) (λ r. r.group == j.group) F.jobs (none_scheduling F.collector F.jobs none collecting))
        (leads F j is.1).1);
    other = λ low. absurd (omega arith);
  },
)
  where
    submitted : (s : JobState) → (s ≡ JobState.Scheduling → ⊥) → phase s ≡ 0 → s ≡ JobState.Submitted
    submitted JobState.Submitted apart first = refl
    submitted JobState.Scheduling apart first = absurd (apart refl)
    submitted s apart first = absurd (omega arith)

-- ---- the queue

put_all_sorted : (rows changed : List Claimed) → IsStrictlySortedBy claim_cmp rows → IsStrictlySortedBy claim_cmp (put_all claim_cmp rows changed)
put_all_sorted rows [] sorted = sorted
put_all_sorted rows (c ∷ changed) sorted = put_all_sorted (put claim_cmp rows c) changed (put_sorted claim_cmp claim_total c rows sorted)

put_all_all : (P : Claimed → Type 0) (rows changed : List Claimed) → AllByRecursion P rows → AllByRecursion P changed
    → AllByRecursion P (put_all claim_cmp rows changed)
put_all_all P rows [] old new = old
put_all_all P rows (c ∷ changed) old new = put_all_all P (put claim_cmp rows c) changed (AllByRecursion-put claim_cmp claim_total c P new.0 rows old) new.1

pub queue_claims : (F : Farm) → IsSteady F → AllByRecursion (IsClaim F) (queue F)
queue_claims F steady = put_all_all (IsClaim F) [] (claims F) tt (all_claims F steady)

pub queue_sorted : (F : Farm) → IsStrictlySortedBy claim_cmp (queue F)
unfolding IsStrictlySortedBy
queue_sorted F = put_all_sorted [] (claims F) tt
