-- The queue is the claims in their order, each once.
use Rattle.std.proofs.Common.{[], ◌++◌, ◌==◌, ◌∙◌, ◌∷◌, ◌≡◌, ◌⊎◌, IsNone, List, Some, ap, arith, inl, inr, map, refl, subst, sym, true, ℕ}
use Rattle.farm_sound.proofs.Names.{AllByRecursion, AllByRecursion-put, AllByRecursion-weaker, Equal, Farm, filter, Greater, IsTotalOrder, JobRow, Less}
use Rattle.farm_sound.proofs.Names.{match_ordering, nat_cmp, Ordering, ordering_reverse, ranked, res_of, ResRow, true≢false}
use Rattle.std.specs.List.Sorted.{IsPermutation}
use Rattle.std.proofs.lemmas.List.Sorted.{IsPermutation-append_right, IsPermutation-cons, IsPermutation-middle, IsPermutation-refl, IsPermutation-sym}
use Rattle.std.proofs.lemmas.List.Sorted.{IsPermutation-trans}
use Rattle.farm_types.specs.Names.{claim_cmp, Claimed, claims, EachTwo, group_claim, is_waiting, IsAmong, IsJobRow, IsSteady, job_cmp, leads_claim, put}
use Rattle.farm_types.specs.Names.{put_all, queue, res_claim, res_cmp}
use Rattle.farm_sound.proofs.Claims.{IsClaim, claim_total, leads}
use Rattle.farm_sound.proofs.Lists.{among_append, among_filter, among_found, among_map, each_append, each_map, each_sorted, each_weaker, each_with, filter_all}
use Rattle.farm_sound.proofs.Own.{own_res}
use Rattle.farm_sound.proofs.Where.{AllByRecursion-both, AllByRecursion-map}

-- ---- putting rows that don't tie

module _ {R : Type 0} (cmp : R → R → Ordering) (total : IsTotalOrder cmp) where
  abbrev IsApart : R → R → Type 0
  IsApart a b = cmp a b ≡ Equal → ⊥

  apart_back : (a b : R) → IsApart a b → IsApart b a
  apart_back a b apart ties = apart (total.antisymm a b ∙ ap ordering_reverse ties)

  put_permutes : (row : R) (rows : List R) → AllByRecursion (IsApart row) rows → IsPermutation (row ∷ rows) (put cmp rows row)
  put_permutes row [] apart = IsPermutation-refl (row ∷ [])
  put_permutes row (r ∷ rows) apart = by (put_permutes row rows apart.1) (cmp row r) refl
    where
      by : IsPermutation (row ∷ rows) (put cmp rows row) → (o : Ordering) → cmp row r ≡ o
          → IsPermutation (row ∷ r ∷ rows) (match_ordering o (row ∷ r ∷ rows) (row ∷ rows) (r ∷ put cmp rows row))
      by rest Less is = IsPermutation-refl (row ∷ r ∷ rows)
      by rest Equal is = absurd (apart.0 is)
      by rest Greater is =
          IsPermutation-trans (row ∷ r ∷ rows) (r ∷ row ∷ rows) (r ∷ put cmp rows row)
          (IsPermutation-sym (r ∷ row ∷ rows) (row ∷ r ∷ rows) (IsPermutation-middle (r ∷ []) row rows))
          (IsPermutation-cons r (row ∷ rows) (put cmp rows row) rest)

  among_put : (x row : R) (rows : List R) → AllByRecursion (IsApart row) rows → IsAmong x (row ∷ rows) → IsAmong x (put cmp rows row)
  among_put x row [] apart at = at
  among_put x row (r ∷ rows) apart at = grind (arith, among_put x row rows apart.1)

  -- the rows that are yet to come are apart from those that were put
  still_apart : (row : R) (changed rows : List R) → AllByRecursion (IsApart row) changed → AllByRecursion (λ c. AllByRecursion (IsApart c) rows) changed
      → AllByRecursion (λ c. AllByRecursion (IsApart c) (put cmp rows row)) changed
  still_apart row changed rows from apart =
      AllByRecursion-weaker (λ c two. AllByRecursion-put cmp total row (IsApart c) (apart_back row c two.0) rows two.1) changed
      (AllByRecursion-both (IsApart row) (λ c. AllByRecursion (IsApart c) rows) changed from apart)

  pub put_all_permutes : (changed rows : List R) → EachTwo IsApart changed → AllByRecursion (λ c. AllByRecursion (IsApart c) rows) changed
      → IsPermutation (changed ++ rows) (put_all cmp rows changed)
  put_all_permutes [] rows each apart = IsPermutation-refl rows
  put_all_permutes (c ∷ changed) rows each apart =
      IsPermutation-trans (c ∷ (changed ++ rows)) (changed ++ (c ∷ rows)) (put_all cmp (put cmp rows c) changed)
      (IsPermutation-sym (changed ++ (c ∷ rows)) (c ∷ (changed ++ rows)) (IsPermutation-middle changed c rows))
      (IsPermutation-trans (changed ++ (c ∷ rows)) (changed ++ put cmp rows c) (put_all cmp (put cmp rows c) changed)
      (IsPermutation-append_right changed (c ∷ rows) (put cmp rows c) (put_permutes c rows apart.0))
      (put_all_permutes changed (put cmp rows c) each.1 (still_apart c changed rows each.0 apart.1)))

  pub among_put_all : (x : R) (changed rows : List R) → EachTwo IsApart changed → AllByRecursion (λ c. AllByRecursion (IsApart c) rows) changed
      → IsAmong x changed ⊎ IsAmong x rows → IsAmong x (put_all cmp rows changed)
  among_put_all x [] rows each apart (inl at) = absurd at
  among_put_all x [] rows each apart (inr at) = at
  among_put_all x (c ∷ changed) rows each apart at = grind (arith, among_put_all x changed (put cmp rows c) each.1 (still_apart c changed rows each.0 apart.1), still_apart c changed rows each.0 apart.1, among_put x c rows apart.0)

-- ---- claims have different numbers

claim_ties : (c d : Claimed) → claim_cmp c d ≡ Equal → c.number ≡ d.number
claim_ties c d ties = grind arith

module _ (F : Farm) (steady : IsSteady F) where
  abbrev IsOther : Claimed → Claimed → Type 0
  IsOther c d = c.number ≡ d.number → ⊥

  number_below : (a b : ℕ) → nat_cmp a b ≡ Less → a ≡ b → ⊥
  number_below a b less same = let below = ranked a b Less (sym less) in absurd (omega arith)

  res_claims : EachTwo IsOther (map res_claim (filter is_waiting F.reservations))
  res_claims = each_map (λ a b. res_cmp a b ≡ Less) IsOther res_claim (λ a b less same. number_below a.number b.number less same)
      (filter is_waiting F.reservations) (each_sorted res_cmp is_waiting F.reservations steady.reservations_sorted)

  -- what is known of a job that leads a claim
  leading : AllByRecursion (λ j. (j.number ≡ j.group) × IsNone (res_of F j.number)) (filter (leads_claim F) F.jobs)
  leading = AllByRecursion-weaker (λ j two. ((leads F j two.1).0, two.0.apart)) (filter (leads_claim F) F.jobs)
      (filter_all (IsJobRow F) (leads_claim F) F.jobs steady.jobs)

  group_claims : EachTwo IsOther (map (group_claim F) (filter (leads_claim F) F.jobs))
  group_claims = each_map (λ a b.
      (job_cmp a b ≡ Less) × ((a.number ≡ a.group) × IsNone (res_of F a.number)) × ((b.number ≡ b.group) × IsNone (res_of F b.number)))
      IsOther (group_claim F) (λ a b three same. number_below a.number b.number three.0 (three.1.0 ∙ same ∙ sym three.2.0))
      (filter (leads_claim F) F.jobs)
      (each_with (λ a b. job_cmp a b ≡ Less) (λ j. (j.number ≡ j.group) × IsNone (res_of F j.number)) (filter (leads_claim F) F.jobs)
      (each_sorted job_cmp (leads_claim F) F.jobs steady.jobs_sorted) leading)

  -- no number is a reservation's and a job's
  across : (r : ResRow) (j : JobRow) → res_of F r.number ≡ Some r → (j.number ≡ j.group) × IsNone (res_of F j.number) → r.number ≡ j.group → ⊥
  across r j own lead same =
      let there : res_of F j.number ≡ Some r = ap (res_of F) (lead.0 ∙ sym same) ∙ own in
      true≢false (subst IsNone there lead.1)

  claims_differ : EachTwo IsOther (claims F)
  claims_differ = each_append IsOther (map res_claim (filter is_waiting F.reservations))
      (map (group_claim F) (filter (leads_claim F) F.jobs)) res_claims group_claims
      (AllByRecursion-map (λ r. (res_of F r.number ≡ Some r) × (is_waiting r ≡ true))
      (λ c. AllByRecursion (IsOther c) (map (group_claim F) (filter (leads_claim F) F.jobs))) res_claim
      (λ r own. AllByRecursion-map (λ j. (j.number ≡ j.group) × IsNone (res_of F j.number)) (IsOther (res_claim r)) (group_claim F)
      (λ j lead. across r j own.0 lead)
      (filter (leads_claim F) F.jobs) leading)
      (filter is_waiting F.reservations) (filter_all (λ r. res_of F r.number ≡ Some r) is_waiting F.reservations (own_res F steady)))

  claims_apart : EachTwo (λ c d. claim_cmp c d ≡ Equal → ⊥) (claims F)
  claims_apart =
      each_weaker IsOther (λ c d. claim_cmp c d ≡ Equal → ⊥) (λ c d other ties. other (claim_ties c d ties)) (claims F) claims_differ

  none_before : (cs : List Claimed) → AllByRecursion (λ c. AllByRecursion (λ d. claim_cmp c d ≡ Equal → ⊥) []) cs
  none_before [] = tt
  none_before (c ∷ cs) = (tt, none_before cs)

  pub queue_permutes : IsPermutation (claims F ++ []) (queue F)
  queue_permutes = put_all_permutes claim_cmp claim_total (claims F) [] claims_apart (none_before (claims F))

  -- ---- each claim stands in the queue

  among_claims : (d : Claimed) → IsClaim F d → IsAmong d (claims F)
  among_claims d (inl (r, is)) =
      subst (λ e. IsAmong e (claims F)) (sym is.2)
      (among_append (res_claim r) (map res_claim (filter is_waiting F.reservations)) (map (group_claim F) (filter (leads_claim F) F.jobs))
      (inl (among_map res_claim r (filter is_waiting F.reservations)
      (among_filter is_waiting r F.reservations (among_found (λ q. q.number == r.number) r F.reservations is.0) is.1))))
  among_claims d (inr (j, is)) =
      subst (λ e. IsAmong e (claims F)) (sym is.2)
      (among_append (group_claim F j) (map res_claim (filter is_waiting F.reservations)) (map (group_claim F) (filter (leads_claim F) F.jobs))
      (inr (among_map (group_claim F) j (filter (leads_claim F) F.jobs)
      (among_filter (leads_claim F) j F.jobs (among_found (λ k. k.number == j.number) j F.jobs is.0) is.1))))

  pub among_queue : (d : Claimed) → IsClaim F d → IsAmong d (queue F)
  among_queue d is = among_put_all claim_cmp claim_total d (claims F) [] claims_apart (none_before (claims F)) (inl (among_claims d is))
