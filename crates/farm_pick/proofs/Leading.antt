-- The queue of a claim: that of the type that its group's first member wants, or the reservations'.
use Rattle.std.proofs.Common.{◌==◌, ◌∙◌, ◌∷◌, ◌≡◌, ◌≤◌, ◌<◌, List, None, Some, ap, arith, cond, false, inl, inr, map, refl, sym, true, ℕ, []}
use mathlib.Core.Bool.{true≢false}
use Rattle.farm_pick.proofs.Names.{AllByRecursion, AllByRecursion-weaker, cases_Bool, differs, find, found_has, IsClaim, itself, JobRow}
use Rattle.std.specs.List.Sorted.{IsStrictlySortedBy}
use Rattle.farm_pick.proofs.Names.{ranked, same_Some}
use Rattle.std.specs.List.{filter}
use Rattle.std.specs.declared.cmp.Ordering.TheVariants.{Less}
use Rattle.farm_types.specs.Names.{Claimed, Farm, IsSound, job_cmp, job_of}
use Rattle.farm_sound.proofs.Claims.{leads}
use Rattle.farm_pick.specs.Queued.{first_kind, queue_kind}

-- the first member of a group is the job with the group's number
first_wants : (g : ℕ) (j : JobRow) (jobs : List JobRow) → IsStrictlySortedBy job_cmp jobs → AllByRecursion (λ m. m.group ≤ m.number) jobs
    → find (λ m. m.number == g) jobs ≡ Some j → j.number ≡ g → j.group ≡ g → first_kind (map (λ m. m.want) (filter (λ m. m.group == g) jobs)) ≡ j.want.kind
unfolding IsStrictlySortedBy
first_wants g j [] sorted near found at mine = cc
first_wants g j (k ∷ jobs) sorted near found at mine = elim (cases_Bool (k.number == g)) [
  | inl here ↦
      let same : k ≡ j = same_Some k j (rw here at found) in
      rw (ap (λ (m : JobRow). m.group == g) same ∙ ap (λ n. n == g) mine ∙ itself g) (ap (λ (m : JobRow). m.want.kind) same)
  | inr other ↦
      let later = rw other at found in
      let less : job_cmp k j ≡ Less = found_has (λ m. job_cmp k m ≡ Less) (λ m. m.number == g) j jobs sorted.0 later in
      let below : k.number < j.number = ranked k.number j.number Less (sym less) in
      let low : k.group ≤ k.number = near.0 in
      rw (differs k.group g (omega (arith, below, low, at))) (first_wants g j jobs sorted.1 near.1 later at mine)
]

-- a group's queue is that of the type that the job with its number wants
pub lead_of : (F : Farm) (c : Claimed) → IsSound F → IsClaim F c → c.reservation ≡ false
    → (j : JobRow) × (job_of F c.number ≡ Some j) × (queue_kind c ≡ j.want.kind)
lead_of F c sound (inl (r, is)) group = absurd (true≢false (sym (ap (λ (d : Claimed). d.reservation) is.2) ∙ group))
lead_of F c sound (inr (j, is)) group =
    let first : j.number ≡ j.group = (leads F j is.1).0 in
    let at : c.number ≡ j.number = ap (λ (d : Claimed). d.number) is.2 ∙ sym first in
    let there : job_of F j.group ≡ Some j = ap (job_of F) (sym first) ∙ is.0 in (
      j,
      ap (job_of F) at ∙ is.0,
      ap queue_kind is.2 ∙ first_wants j.group j F.jobs sound.steady.jobs_sorted (AllByRecursion-weaker (λ m row. row.group.0) F.jobs sound.steady.jobs) there first refl,
    )

-- a reservation stands in the queue of no type
pub of_reservation : (F : Farm) (c : Claimed) → IsClaim F c → c.reservation ≡ true → queue_kind c ≡ None
of_reservation F c claim is = ap (λ v. cond v None (first_kind c.wants)) is
