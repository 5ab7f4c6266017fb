-- The queue as the queues show it while they are filled: what is put and taken, and which numbers stand there.
use Rattle.std.proofs.Common.{◌+◌, ◌<◌, ◌==◌, ◌∙◌, ◌∷◌, ◌≡◌, ◌≤◌, Bool, IsNone, IsTrue, List, Some, add-one, ap, arith, drop, get_or, inl, inr, length, map}
use Rattle.std.proofs.Common.{refl, subst, suc, sym, true, zero, ℕ, []}
use mathlib.Core.Bool.{true≢false}
use Rattle.std.specs.Prelude.{nat_le}
use Rattle.farm_pick.proofs.Names.{AllByRecursion, AllByRecursion-map, AllByRecursion-weaker, claim_total, found_has, IsClaim, IsGroupClaim}
use Rattle.std.specs.List.Sorted.{IsStrictlySortedBy}
use Rattle.farm_pick.proofs.Names.{JobRow, nat_tests, Ordering, queue_claims, queue_sorted, ResRow}
use Rattle.std.specs.List.{filter}
use Rattle.std.specs.Ordering.{match_ordering}
use Rattle.std.specs.declared.cmp.Ordering.TheVariants.{Less}
use Rattle.std.proofs.lemmas.List.{drop_more}
use Rattle.farm_types.specs.Names.{claim_cmp, Claimed, EachTwo, Farm, group_claim, highest_priority, IsJobRow, IsResRow, IsSound, IsSteady, job_of, put, queue}
use Rattle.farm_types.specs.Names.{res_claim, res_of}
use Rattle.farm_sound.proofs.Claims.{IsResClaim, leads}
use Rattle.farm_sound.proofs.Lists.{each_weaker, each_with}
use Rattle.farm_pick.specs.Index.{queued_cmp}
use Rattle.farm_pick.specs.Queued.{Queued, queued_of}
use Rattle.farm_pick.proofs.Entries.{filter_seen, put_seen}
use Rattle.farm_pick.proofs.Ordered.{not_below_itself}

-- ---- what is put and what is taken, as the queues show it

-- a claim is put where its shown one is put
pub queued_put : (q : List Claimed) (c : Claimed) → map queued_of (put claim_cmp q c) ≡ put queued_cmp (map queued_of q) (queued_of c)
queued_put q c = put_seen queued_of claim_cmp queued_cmp (λ a b. refl) q c

-- claims that pass by their numbers are shown as the shown ones that pass
pub queued_filter : (p : ℕ → Bool) (q : List Claimed) → map queued_of (filter (λ c. p c.number) q) ≡ filter (λ x. p x.claim.number) (map queued_of q)
queued_filter p q = filter_seen queued_of (λ x. p x.claim.number) q

-- ---- what each claim's row says of it

module _ (F : Farm) (steady : IsSteady F) where
  res_row : (c : Claimed) (r : ResRow) → IsResClaim F c r → IsResRow F r
  res_row c r is = found_has (IsResRow F) (λ q. q.number == r.number) r F.reservations steady.reservations is.0

  job_row : (c : Claimed) (j : JobRow) → IsGroupClaim F c j → IsJobRow F j
  job_row c j is = found_has (IsJobRow F) (λ k. k.number == j.number) j F.jobs steady.jobs is.0

  number_low : (c : Claimed) → IsClaim F c → c.number < F.next
  number_low c (inl (r, is)) =
      let same : c.number ≡ r.number = ap (λ (d : Claimed). d.number) is.2 in
      let row = res_row c r is in omega (arith, same, row.number.1)
  number_low c (inr (j, is)) =
      let same : c.number ≡ j.group = ap (λ (d : Claimed). d.number) is.2 in
      let row = job_row c j is in omega (arith, same, row.group.0, row.number.1)

  low_from : (n : ℕ) → IsTrue (nat_le n highest_priority) → n ≤ highest_priority
  low_from n is = let low : nat_le n highest_priority ≡ true = is in grind (arith, nat_tests)

  priority_low : (c : Claimed) → IsClaim F c → c.priority ≤ highest_priority
  priority_low c (inl (r, is)) =
      let same : c.priority ≡ r.priority = ap (λ (d : Claimed). d.priority) is.2 in
      let low = low_from r.priority (res_row c r is).priority in omega (arith, same, low)
  priority_low c (inr (j, is)) =
      let same : c.priority ≡ j.priority = ap (λ (d : Claimed). d.priority) is.2 in
      let low = low_from j.priority (job_row c j is).words.priority in omega (arith, same, low)

-- no claim has the next number
pub fresh_next : (F : Farm) → IsSound F → AllByRecursion (λ c. c.number ≡ F.next → ⊥) (queue F)
fresh_next F sound = AllByRecursion-weaker (λ c claim same. let low = number_low F sound.steady c claim in absurd (omega (arith, same, low)))
    (queue F) (queue_claims F sound.steady)

-- nor has one that is shown
pub fresh_shown : (F : Farm) → IsSound F → AllByRecursion (λ (x : Queued). x.claim.number ≡ F.next → ⊥) (map queued_of (queue F))
fresh_shown F sound = AllByRecursion-map (λ c. c.number ≡ F.next → ⊥) (λ (x : Queued). x.claim.number ≡ F.next → ⊥) queued_of (λ c fresh. fresh)
    (queue F) (fresh_next F sound)

-- each claim's priority is a priority
pub low_priority : (F : Farm) → IsSound F → AllByRecursion (λ c. c.priority ≤ highest_priority) (queue F)
low_priority F sound = AllByRecursion-weaker (λ c claim. priority_low F sound.steady c claim) (queue F) (queue_claims F sound.steady)

-- ---- claims of one number

module _ (F : Farm) (steady : IsSteady F) where
  -- a reservation and a group have different numbers
  across : (c d : Claimed) (r : ResRow) (j : JobRow) → IsResClaim F c r → IsGroupClaim F d j → c.number ≡ d.number → ⊥
  across c d r j one other same =
      let at : r.number ≡ j.number =
      sym (ap (λ (e : Claimed). e.number) one.2) ∙ same ∙ ap (λ (e : Claimed). e.number) other.2 ∙ sym (leads F j other.1).0 in
      let there : res_of F j.number ≡ Some r = ap (res_of F) (sym at) ∙ one.0 in
      true≢false (subst IsNone there (job_row F steady d j other).apart)

  -- there is one claim of a number at most
  pub one_claim : (c d : Claimed) → IsClaim F c → IsClaim F d → c.number ≡ d.number → c ≡ d
  one_claim c d (inl (r, one)) (inl (s, other)) same =
      let at : r.number ≡ s.number = sym (ap (λ (e : Claimed). e.number) one.2) ∙ same ∙ ap (λ (e : Claimed). e.number) other.2 in
      let both : Some r ≡ Some s = sym one.0 ∙ ap (res_of F) at ∙ other.0 in
      let row : r ≡ s = cc in
      one.2 ∙ ap res_claim row ∙ sym other.2
  one_claim c d (inl (r, one)) (inr (j, other)) same = absurd (across c d r j one other same)
  one_claim c d (inr (j, one)) (inl (r, other)) same = absurd (across d c r j other one (sym same))
  one_claim c d (inr (j, one)) (inr (k, other)) same =
      let at : j.number ≡ k.number =
      (leads F j one.1).0 ∙ sym (ap (λ (e : Claimed). e.number) one.2) ∙ same ∙ ap (λ (e : Claimed). e.number) other.2 ∙ sym (leads F k other.1).0 in
      let both : Some j ≡ Some k = sym one.0 ∙ ap (job_of F) at ∙ other.0 in
      let row : j ≡ k = cc in
      one.2 ∙ ap (group_claim F) row ∙ sym other.2

-- in a list in strict order each element is below each later one
each_in_order : {R : Type 0} (cmp : R → R → Ordering) (xs : List R) → IsStrictlySortedBy cmp xs → EachTwo (λ a b. cmp a b ≡ Less) xs
unfolding IsStrictlySortedBy
each_in_order cmp [] sorted = tt
each_in_order cmp (x ∷ xs) sorted = (sorted.0, each_in_order cmp xs sorted.1)

-- no two claims of the queue have one number
pub numbers_differ : (F : Farm) → IsSound F → EachTwo (λ a b. a.number ≡ b.number → ⊥) (queue F)
numbers_differ F sound =
    each_weaker (λ a b. (claim_cmp a b ≡ Less) × IsClaim F a × IsClaim F b) (λ a b. a.number ≡ b.number → ⊥)
    (λ a b three same. not_below_itself claim_cmp claim_total a
    (subst (λ d. claim_cmp a d ≡ Less) (sym (one_claim F sound.steady a b three.1 three.2 same)) three.0)) (queue F)
    (each_with (λ a b. claim_cmp a b ≡ Less) (IsClaim F) (queue F) (each_in_order claim_cmp (queue F) (queue_sorted F)) (queue_claims F sound.steady))

-- ---- the queue filled from its end

-- the same, with the place as callers write it
each_after : {R : Type 0} (S : R → R → Type 0) (xs : List R) (k : ℕ) (x : R) → EachTwo S xs → k < length xs → get_or xs k x ≡ x
    → AllByRecursion (S x) (drop (k + 1) xs)
each_after S [] k x each low is = absurd (omega arith)
each_after S (y ∷ xs) zero x each low is = subst (λ z. AllByRecursion (S z) xs) is each.0
each_after S (y ∷ xs) (suc k) x each low is =
    subst (λ n. AllByRecursion (S x) (drop n (y ∷ xs))) (sym (add-one (suc k))) (subst (λ n. AllByRecursion (S x) (drop n xs)) (add-one k) (each_after S xs k x each.1 (omega arith) is))

-- what goes before all others is put at the front
put_first : {R : Type 0} (cmp : R → R → Ordering) (x : R) (xs : List R) → AllByRecursion (λ y. cmp x y ≡ Less) xs → put cmp xs x ≡ x ∷ xs
put_first cmp x [] less = refl
put_first cmp x (y ∷ xs) less = ap (λ o. match_ordering o (x ∷ y ∷ xs) (x ∷ xs) (y ∷ put cmp xs x)) less.0

-- a claim is put before those behind it
pub last_put : (F : Farm) (k : ℕ) (c : Claimed) → k < length (queue F) → get_or (queue F) k c ≡ c
    → put queued_cmp (map queued_of (drop (k + 1) (queue F))) (queued_of c) ≡ map queued_of (drop k (queue F))
last_put F k c low is =
    let rest = drop (k + 1) (queue F) in
    sym (queued_put rest c)
    ∙ ap (map queued_of) (put_first claim_cmp c rest
    (each_after (λ a b. claim_cmp a b ≡ Less) (queue F) k c (each_in_order claim_cmp (queue F) (queue_sorted F)) low is)
    ∙ sym (drop_more (queue F) k c low ∙ ap (λ d. d ∷ rest) is))

-- none of those behind a claim has its number
pub fresh_before : (F : Farm) (k : ℕ) (c : Claimed) → IsSound F → k < length (queue F) → get_or (queue F) k c ≡ c
    → AllByRecursion (λ (x : Queued). x.claim.number ≡ c.number → ⊥) (map queued_of (drop (k + 1) (queue F)))
fresh_before F k c sound low is =
    AllByRecursion-map (λ d. c.number ≡ d.number → ⊥) (λ (x : Queued). x.claim.number ≡ c.number → ⊥) queued_of (λ d other same. other (sym same)) (drop (k + 1) (queue F))
    (each_after (λ a b. a.number ≡ b.number → ⊥) (queue F) k c (numbers_differ F sound) low is)
