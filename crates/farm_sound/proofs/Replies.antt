-- How large the numbers of a pass's reply are, and that a pass leaves the kept replies.
use Rattle.std.proofs.Common.{[], ◌+◌, ◌++◌, ◌∙◌, ◌∷◌, ◌≡◌, ◌≤◌, Bool, List, ap, arith, length, map, not, refl, ℕ}
use Rattle.farm_sound.proofs.Names.{Farm, filter, fold, JobState, length-map, length_put, members}
use Rattle.std.proofs.lemmas.List.{length-append}
use Rattle.farm_types.specs.Names.{checks, claim_cmp, Claimed, claims, claims_taken, collect, group_claim, is_due, is_group, is_waiting}
use Rattle.farm_types.specs.Names.{leads_claim, may_collect, pass_over, put, put_all, queue, res_claim, serve, serve_all, Served}
use Rattle.farm_sound.proofs.Checks.{checks_rest}
use Rattle.farm_sound.proofs.Claims.{claim_total}
use Rattle.farm_sound.proofs.Collect.{collect_is, pairs_for}
use Rattle.farm_sound.proofs.Group.{given_rest}
use Rattle.farm_sound.proofs.Lists.{length_filter}
use Rattle.farm_sound.proofs.Serve.{give_rest}
use Rattle.farm_sound.proofs.Where.{by_cases}

-- ---- a served claim was a claim

length_put_all : (rows changed : List Claimed) → length (put_all claim_cmp rows changed) ≤ length rows + length changed
length_put_all rows [] = omega arith
length_put_all rows (c ∷ changed) = omega (arith, length_put_all (put claim_cmp rows c) changed, length_put claim_cmp claim_total c rows)

few_claims : (F : Farm) → length (queue F) ≤ length F.reservations + length F.jobs
few_claims F =
    let all : length (claims F) ≡ length (filter is_waiting F.reservations) + length (filter (leads_claim F) F.jobs) =
    length-append (map res_claim (filter is_waiting F.reservations)) (map (group_claim F) (filter (leads_claim F) F.jobs))
    ∙ (λ i. length-map (filter is_waiting F.reservations) res_claim i + length-map (filter (leads_claim F) F.jobs) (group_claim F) i) in
    omega (arith, length_put_all [] (claims F), length_filter is_waiting F.reservations, length_filter (leads_claim F) F.jobs)

served_few : (t : ℕ) (cs : List Claimed) (s : Served) → (fold (serve t) s cs).claims ≤ s.claims + length cs
served_few t [] s = omega arith
served_few t (c ∷ cs) s = grind (arith, served_few t cs)

split_length : (test : Claimed → Bool) (cs : List Claimed) → length (filter test cs ++ filter (λ c. not (test c)) cs) ≤ length cs
split_length test [] = omega arith
split_length test (c ∷ cs) = grind (arith, split_length test cs, length-append)

pub few_served : (F : Farm) (group t : ℕ) → (serve_all F group t).claims ≤ length F.reservations + length F.jobs
few_served F group t =
    omega (arith, served_few t (claims_taken F group) (record { farm = F; claims = 0 }), split_length (is_group group) (queue F), few_claims F)

-- ---- the kept replies stay

over_kept : (F : Farm) (c : Claimed) → (pass_over F c).kept ≡ F.kept
over_kept F c = by_cases (λ (G : Farm). G.kept ≡ F.kept) (may_collect F c) (collect F c.number) F
    (λ _. ap (λ (G : Farm). G.kept) (collect_is (members F c.number) F) ∙ ap (λ (G : Farm). G.kept) (given_rest JobState.Scheduling (pairs_for F (members F c.number)) F)) (λ _. refl)

served_kept : (t : ℕ) (cs : List Claimed) (s : Served) → (fold (serve t) s cs).farm.kept ≡ s.farm.kept
served_kept t [] s = refl
served_kept t (c ∷ cs) s = grind (arith, served_kept t cs, over_kept s.farm c, give_rest s.farm c)

pub pass_kept : (F : Farm) (group t : ℕ) → (serve_all (checks F t) group t).farm.kept ≡ F.kept
pass_kept F group t = served_kept t (claims_taken (checks F t) group) (record { farm = checks F t; claims = 0 }) ∙ ap (λ (G : Farm). G.kept) (checks_rest (filter (is_due F t) F.boards) F)
