-- A group that collects stays in the queue.
use Rattle.std.proofs.Common.{◌&&◌, ◌==◌, ◌∙◌, ◌∷◌, ◌≡◌, List, Some, ap, inl, inr, nat_le, length, map, not, refl, sym, true, ℕ, []}
use mathlib.Core.Bool.{true≢false}
use Rattle.farm_pick.proofs.Names.{all_true, AllByRecursion, AllByRecursion-both, AllByRecursion-weaker, among_has, and-true, BoardRow, both, by_cases}
use Rattle.farm_pick.proofs.Names.{filter_all, fold, given, IsClaim, IsGroupClaim, JobRow, JobState, list_all, map_id, only_job, own_job, queue_claims}
use Rattle.farm_pick.proofs.Names.{same_number}
use Rattle.farm_types.specs.Names.{Claimed, collect, Farm, give_member, is_waiting, IsAmong, IsSound, job_of, may_collect, members, pass_over, placed_job}
use Rattle.farm_types.specs.Names.{queue, waits}
use Rattle.farm_sound.proofs.Collect.{collect_is, pairs_for, pairs_of}
use Rattle.farm_sound.proofs.Group.{jobs_given}
use Rattle.farm_sound.proofs.Lists.{all_tested}
use Rattle.farm_pick.proofs.Taking.{given_claim, queue_stays}

abbrev S : JobState
S = JobState.Scheduling

-- a job that waits does so with a board of its own too
given_waits : (ps : List (JobRow × BoardRow)) (m : JobRow) → AllByRecursion (λ p. (m.number == p.0.number) ≡ true → waits m ≡ true) ps → waits (given S ps m) ≡ waits m
given_waits [] m all = refl
given_waits (p ∷ ps) m all =
    by_cases (λ k. waits (given S ps k) ≡ waits m) (m.number == p.0.number) (placed_job S p.1.name m) m
    (λ at. given_waits ps (placed_job S p.1.name m) (AllByRecursion-weaker (λ q _ _. refl) ps all.1) ∙ sym (all.0 at))
    (λ _. given_waits ps m all.1)

-- no reservation changes
kept : (ps : List (JobRow × BoardRow)) (F : Farm) → (fold (give_member S) F ps).reservations ≡ F.reservations
kept [] F = refl
kept (p ∷ ps) F = kept ps (give_member S F (p.0, p.1))

collected_jobs : (F : Farm) (group : ℕ) → (collect F group).jobs ≡ map (given S (pairs_for F (members F group))) F.jobs
collected_jobs F group = ap (λ (G : Farm). G.jobs) (collect_is (members F group) F) ∙ jobs_given S (pairs_for F (members F group)) F

module _ (F : Farm) (sound : IsSound F) where
  group_stays : (c : Claimed) (j : JobRow) → IsGroupClaim F c j → queue (collect F j.group) ≡ queue F
  group_stays c j is = queue_stays F (collect F j.group) (given S ps) (λ r. r)
      (record {
        jobs = collected_jobs F j.group;
        reservations = ap (λ (G : Farm). G.reservations) (collect_is (members F j.group) F) ∙ kept ps F ∙ sym (map_id F.reservations);
        same_job = given_claim S ps;
        same_res = λ r. refl;
        jobs_wait = AllByRecursion-weaker (λ m own. given_waits ps m (wait_too m own) ∙ sym (and-true (waits m))) F.jobs (own_job F sound.steady);
        reservations_wait = AllByRecursion-weaker (λ r _. sym (and-true (is_waiting r))) F.reservations (all_true F.reservations);
      })
    where
      ps : List (JobRow × BoardRow)
      ps = pairs_for F (members F j.group)

      -- each of the group's members waits
      members_wait : AllByRecursion (λ k. waits k ≡ true) (members F j.group)
      members_wait = all_tested waits (members F j.group) (both (j.number == j.group) (list_all waits (members F j.group)) is.1).1

      wait_too : (m : JobRow) → job_of F m.number ≡ Some m → AllByRecursion (λ p. (m.number == p.0.number) ≡ true → waits m ≡ true) ps
      wait_too m own = pairs_of (λ k. (m.number == k.number) ≡ true → waits m ≡ true) (members F j.group) F
          (AllByRecursion-weaker (λ k two at. ap waits (sym (two.1.0 (sym (same_number m.number k.number at)))) ∙ two.0) (members F j.group)
          (AllByRecursion-both (λ k. waits k ≡ true) (λ k. (k.number ≡ m.number → k ≡ m) × ((k.group == j.group) ≡ true)) (members F j.group) members_wait
          (filter_all (λ k. k.number ≡ m.number → k ≡ m) (λ r. r.group == j.group) F.jobs (only_job F sound.steady m.number m own))))

  -- a claim that isn't met
  stays : (c : Claimed) → IsClaim F c → may_collect F c ≡ true → queue (collect F c.number) ≡ queue F
  stays c (inl (r, is)) may =
      let two = both ((F.collector == 0) && not c.reservation) (nat_le 2 (length c.wants)) may in
      absurd (true≢false (sym (both (F.collector == 0) (not c.reservation) two.0).1 ∙ ap (λ (e : Claimed). not e.reservation) is.2))
  stays c (inr (j, is)) may = ap (λ (e : Claimed). queue (collect F e.number)) is.2 ∙ group_stays c j is

  pub collecting_follows : (c : Claimed) → IsAmong c (queue F) → queue (pass_over F c) ≡ queue F
  collecting_follows c at = by_cases (λ G. queue G ≡ queue F) (may_collect F c) (collect F c.number) F
      (stays c (among_has (IsClaim F) c (queue F) (queue_claims F sound.steady) at)) (λ _. refl)
