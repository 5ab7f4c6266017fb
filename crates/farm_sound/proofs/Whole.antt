-- No group is half started, after jobs have changed.
use Rattle.std.proofs.Common.{◌∙◌, ◌≡◌, Bool, cond, map, refl, sym, true}
use Rattle.farm_sound.proofs.Names.{AllByRecursion, AllByRecursion-put, AllByRecursion-weaker, Farm, JobRow, nat_cmp_total, on_total, true≢false}
use Rattle.farm_types.specs.Names.{AreGroupsInPhase, job_cmp, phase, put}
use Rattle.farm_sound.proofs.Where.{AllByRecursion-both, AllByRecursion-map, by_cases}

-- two jobs of one group are in one phase
abbrev pub Alike : JobRow → JobRow → Type 0
Alike j m = m.group ≡ j.group → phase m.state ≡ phase j.state

-- the jobs that pass change so that those of one group stay in one phase: all of a group in one phase pass, or none
pub Alike-where : (test : JobRow → Bool) (f : JobRow → JobRow) → ((j : JobRow) → (f j).group ≡ j.group)
    → ((j m : JobRow) → test j ≡ true → test m ≡ true → phase (f m).state ≡ phase (f j).state)
    → ((j m : JobRow) → m.group ≡ j.group → phase m.state ≡ phase j.state → test m ≡ test j) → (j m : JobRow) → Alike j m
    → Alike (cond (test j) (f j) j) (cond (test m) (f m) m)
Alike-where test f groups one together j m alike =
    by_cases (λ k. Alike k (cond (test m) (f m) m)) (test j) (f j) j
    (λ so. by_cases (λ n. Alike (f j) n) (test m) (f m) m (λ mso _. one j m so mso)
    (λ other same. let e : m.group ≡ j.group = same ∙ groups j in absurd (true≢false (sym so ∙ sym (together j m e (alike e)) ∙ other))))
    (λ out. by_cases (λ n. Alike j n) (test m) (f m) m
    (λ mso same. let e : m.group ≡ j.group = sym (groups m) ∙ same in absurd (true≢false (sym mso ∙ together j m e (alike e) ∙ out)))
    (λ _. alike))

-- a change that keeps each job's phase
pub Alike-kept : (test : JobRow → Bool) (f : JobRow → JobRow) → ((j : JobRow) → (f j).group ≡ j.group)
    → ((j : JobRow) → test j ≡ true → phase (f j).state ≡ phase j.state) → (j m : JobRow) → Alike j m
    → Alike (cond (test j) (f j) j) (cond (test m) (f m) m)
Alike-kept test f groups kept j m alike =
    by_cases (λ k. Alike k (cond (test m) (f m) m)) (test j) (f j) j
    (λ so. by_cases (λ n. Alike (f j) n) (test m) (f m) m (λ mso same. kept m mso ∙ alike (sym (groups m) ∙ same ∙ groups j) ∙ sym (kept j so))
    (λ _ same. alike (same ∙ groups j) ∙ sym (kept j so)))
    (λ _. by_cases (λ n. Alike j n) (test m) (f m) m (λ mso same. kept m mso ∙ alike (sym (groups m) ∙ same)) (λ _. alike))

-- a change that keeps this of each two, by what is known of each job, keeps it of all
pub AreGroupsInPhase-map_by : (F : Farm) (P : JobRow → Type 0) (f : JobRow → JobRow) → AllByRecursion P F.jobs
    → ((j m : JobRow) → P j → P m → Alike j m → Alike (f j) (f m)) → AreGroupsInPhase F
    → AllByRecursion (λ j. AllByRecursion (Alike j) (map f F.jobs)) (map f F.jobs)
AreGroupsInPhase-map_by F P f all alike whole = AllByRecursion-map (λ j. P j × AllByRecursion (Alike j) F.jobs) (λ j. AllByRecursion (Alike j) (map f F.jobs)) f
    (λ j two. AllByRecursion-map (λ m. P m × Alike j m) (Alike (f j)) f (λ m three. alike j m two.0 three.0 three.1) F.jobs
    (AllByRecursion-both P (Alike j) F.jobs all two.1))
    F.jobs (AllByRecursion-both P (λ j. AllByRecursion (Alike j) F.jobs) F.jobs all whole)

-- a new job that is in one phase with those of its group
pub AreGroupsInPhase-add : (F : Farm) (row : JobRow) → AllByRecursion (λ m. m.group ≡ row.group → phase m.state ≡ phase row.state) F.jobs → AreGroupsInPhase F
    → AllByRecursion (λ j. AllByRecursion (Alike j) (put job_cmp F.jobs row)) (put job_cmp F.jobs row)
AreGroupsInPhase-add F row alike whole =
    let total = on_total (λ (r : JobRow). r.number) nat_cmp_total in
    AllByRecursion-put job_cmp total row (λ j. AllByRecursion (Alike j) (put job_cmp F.jobs row))
    (AllByRecursion-put job_cmp total row (Alike row) (λ same. refl) F.jobs alike) F.jobs
    (AllByRecursion-weaker (λ j two. AllByRecursion-put job_cmp total row (Alike j) (λ same. sym (two.0 (sym same))) F.jobs two.1) F.jobs
    (AllByRecursion-both (λ m. m.group ≡ row.group → phase m.state ≡ phase row.state) (λ j. AllByRecursion (Alike j) F.jobs) F.jobs alike whole))
