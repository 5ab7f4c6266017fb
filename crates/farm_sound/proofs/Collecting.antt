-- The group that collects boards, after jobs have changed, and farms with another collector.
use Rattle.std.proofs.Common.{[], ◌<◌, ◌==◌, ◌∙◌, ◌∷◌, ◌≡◌, ◌≤◌, Bool, List, ap, arith, length, map, refl, subst, sym, true, ℕ}
use Rattle.farm_sound.proofs.Names.{AllByRecursion, AllByRecursion-put, AllByRecursion-weaker, Equal, Farm, filter, JobRow, JobState}
use Rattle.farm_sound.proofs.Names.{nat_tests, ranked}
use Rattle.farm_types.specs.Names.{change_where, IsCollecting, IsHeldByKeys, IsJobRow, IsSteady, job_cmp, phase, put}
use Rattle.farm_sound.proofs.Add.{IsHeldByKeys-same_rows, job_total}
use Rattle.farm_sound.proofs.Grow.{IsSteady-edited, no_edit, rows_grow}
use Rattle.farm_sound.proofs.Lists.{none_pass}
use Rattle.farm_sound.proofs.Where.{AllByRecursion-both, AllByRecursion-map, by_cases, changed, changed_keeps, count_map}

-- ---- the same rows with another collector

pub IsSteady-collector : (F : Farm) (c : ℕ) → IsSteady F → IsSteady (record F { collector = c })
IsSteady-collector F c steady = IsSteady-edited (record (no_edit F steady) { farm = record F { collector = c } })
    (rows_grow F (record F { collector = c }) steady)

pub IsHeldByKeys-collector : (F : Farm) (c : ℕ) → IsHeldByKeys F → IsHeldByKeys (record F { collector = c })
IsHeldByKeys-collector F c held = IsHeldByKeys-same_rows F (record F { collector = c }) refl refl refl held

-- ---- jobs that change in their places

pub IsCollecting-map : (c : ℕ) (P : JobRow → Type 0) (f : JobRow → JobRow) (jobs : List JobRow) → AllByRecursion P jobs
    → ((j : JobRow) → (f j).group ≡ j.group)
    → ((j : JobRow) → P j → (f j).state ≡ JobState.Scheduling → j.state ≡ JobState.Scheduling)
    → ((j : JobRow) → P j → 1 ≤ c → j.group ≡ c → phase j.state ≡ 0 → phase (f j).state ≡ 0)
    → IsCollecting c jobs → IsCollecting c (map f jobs)
IsCollecting-map c P f jobs all groups states stays is = record {
  only = AllByRecursion-map (λ j. P j × (j.state ≡ JobState.Scheduling → (1 ≤ c) × (j.group ≡ c)))
      (λ j. j.state ≡ JobState.Scheduling → (1 ≤ c) × (j.group ≡ c)) f
      (λ j two e. let o = two.1 (states j two.0 e) in (o.0, groups j ∙ o.1)) jobs
      (AllByRecursion-both P (λ j. j.state ≡ JobState.Scheduling → (1 ≤ c) × (j.group ≡ c)) jobs all is.only);
  several = λ low. subst (λ n. 2 ≤ n) (sym (count_map (λ (r : JobRow). r.group == c) f (λ r. ap (λ g. g == c) (groups r)) jobs)) (is.several low);
  waits = λ low. AllByRecursion-map (λ j. P j × (j.group ≡ c → phase j.state ≡ 0)) (λ j. j.group ≡ c → phase j.state ≡ 0) f
      (λ j two e. stays j two.0 low (sym (groups j) ∙ e) (two.1 (sym (groups j) ∙ e))) jobs
      (AllByRecursion-both P (λ j. j.group ≡ c → phase j.state ≡ 0) jobs all (is.waits low));
}

-- where jobs that pass change
pub IsCollecting-where : (c : ℕ) (P : JobRow → Type 0) (test : JobRow → Bool) (f : JobRow → JobRow) (jobs : List JobRow) → AllByRecursion P jobs
    → ((j : JobRow) → (f j).group ≡ j.group)
    → ((j : JobRow) → test j ≡ true → P j
    → ((f j).state ≡ JobState.Scheduling → ⊥) × (1 ≤ c → j.group ≡ c → phase j.state ≡ 0 → phase (f j).state ≡ 0))
    → IsCollecting c jobs → IsCollecting c (change_where test f jobs)
IsCollecting-where c P test f jobs all groups passes is = IsCollecting-map c P (changed test f) jobs all (changed_keeps (λ (j : JobRow). j.group) test f groups)
    (λ j p. by_cases (λ (k : JobRow). k.state ≡ JobState.Scheduling → j.state ≡ JobState.Scheduling) (test j) (f j) j
    (λ so e. absurd ((passes j so p).0 e)) (λ _ e. e))
    (λ j p low same waits. by_cases (λ (k : JobRow). phase k.state ≡ 0) (test j) (f j) j (λ so. (passes j so p).1 low same waits) (λ _. waits)) is

-- none collects where no job is Scheduling
pub none_collects : (jobs : List JobRow) → AllByRecursion (λ j. j.state ≡ JobState.Scheduling → ⊥) jobs → IsCollecting 0 jobs
none_collects jobs none = record {
  only = AllByRecursion-weaker (λ j no e. absurd (no e)) jobs none;
  several = λ low. absurd (omega arith);
  waits = λ low. absurd (omega arith);
}

-- and no job is Scheduling where none collects
pub none_scheduling : (c : ℕ) (jobs : List JobRow) → c ≡ 0 → IsCollecting c jobs → AllByRecursion (λ j. j.state ≡ JobState.Scheduling → ⊥) jobs
none_scheduling c jobs zero_is is = AllByRecursion-weaker (λ j only e. let o = (only e).0 in omega arith) jobs is.only

-- ---- a new job

more_put : (test : JobRow → Bool) (row : JobRow) (jobs : List JobRow) → AllByRecursion (λ r. job_cmp row r ≡ Equal → ⊥) jobs
    → length (filter test jobs) ≤ length (filter test (put job_cmp jobs row))
more_put test row [] fresh = omega arith
more_put test row (r ∷ jobs) fresh = grind (arith, more_put test row jobs fresh.1)

pub IsCollecting-add : (F : Farm) (row : JobRow) → IsSteady F → row.number ≡ F.next → (row.state ≡ JobState.Scheduling → ⊥)
    → (1 ≤ F.collector → row.group ≡ F.collector → phase row.state ≡ 0) → IsCollecting F.collector F.jobs
    → IsCollecting F.collector (put job_cmp F.jobs row)
IsCollecting-add F row steady next apart waiting is = record {
  only = AllByRecursion-put job_cmp job_total row (λ j. j.state ≡ JobState.Scheduling → (1 ≤ F.collector) × (j.group ≡ F.collector))
      (λ e. absurd (apart e)) F.jobs is.only;
  several = λ low.
      let two = is.several low in
      let more = more_put (λ r. r.group == F.collector) row F.jobs (AllByRecursion-weaker (λ r one tie. differ r one tie) F.jobs steady.jobs) in
      omega arith;
  waits = λ low. AllByRecursion-put job_cmp job_total row (λ j. j.group ≡ F.collector → phase j.state ≡ 0) (waiting low) F.jobs (is.waits low);
}
  where
    differ : (r : JobRow) → IsJobRow F r → job_cmp row r ≡ Equal → ⊥
    differ r one tie = let same : row.number ≡ r.number = ranked row.number r.number Equal (sym tie) in let low = one.number.1 in omega arith

-- the collector is a number that was given
pub collector_low : (F : Farm) → IsSteady F → IsCollecting F.collector F.jobs → F.collector < F.next
collector_low F steady is = grind (arith, none_pass (λ r. r.group == F.collector) F.jobs, AllByRecursion-weaker, is.several, nat_tests)

-- so the next number is no collector's
pub next_collects_not : (F : Farm) → IsSteady F → IsCollecting F.collector F.jobs → 1 ≤ F.collector → F.next ≡ F.collector → ⊥
next_collects_not F steady is low same = omega (arith, collector_low F steady is)
