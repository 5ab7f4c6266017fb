-- The commands on jobs, from their edits.
use Rattle.std.proofs.Common.{[], ◌≡◌, ℕ, zero, suc, ◌+◌, ◌-◌, ◌<◌, ◌≤◌, ◌==◌, List, ◌∷◌, length, get_or, take, drop, Bool, false, Some, refl, sym}
use Rattle.std.proofs.Common.{ap, ◌∙◌, arith, length-drop, Bor, Option, None, IfSome}
use Rattle.std.proofs.lemmas.List.{get_or-drop}
use Rattle.farm_core.proofs.Names.{Cmd, find, found_passes, IsFitJob, JobRow, JobState, nat_tests, option_map_or}
use Rattle.std.specs.List.{filter}
use Rattle.std.specs.Option.{option_copied}
use Rattle.std.specs.Prelude.{if◌then◌else◌}
use Rattle.farm_types.specs.Names.{act, cancel_group, change_jobs, change_where, done_with, Farm, freed_board, IsSmallJob, job_of}
use Rattle.farm_types.specs.declared.rows.Outcome.{Outcome}
use Rattle.farm_core.specs.declared.edits.JobEdit.{JobEdit}
use Rattle.farm_core.specs.declared.edits.JobFilter.{JobFilter}
use Rattle.farm_core.specs.declared.edits.Placement.{Placement}
use Rattle.farm_core.specs.Edits.{job_passes, job_changed}
use Rattle.farm_core.proofs.EditLemmas.{jobs_alone}

-- a group collects no more, if it did
abbrev pub no_more : ℕ → Farm → Farm
no_more group F = record F { collector = if F.collector == group then 0 else F.collector }

-- the members of a group that were not started end, and then those that run are being canceled
abbrev ended : ℕ → JobEdit
ended group = record { jobs = JobFilter.Unstarted group; state = JobState.Finished; outcome = Some Outcome.Canceled; placement = Placement.Stays }

abbrev stopped : ℕ → JobEdit
stopped group = record { jobs = JobFilter.Running group; state = JobState.Canceling; outcome = None; placement = Placement.Stays }

pub canceled : (F G K H : Farm) (n : ℕ) (j : JobRow) → job_of F n ≡ Some j → G ≡ change_jobs (job_passes (ended j.group).jobs) (job_changed (ended j.group)) freed_board F
    → K ≡ no_more j.group G → H ≡ record K { jobs = change_where (job_passes (stopped j.group).jobs) (job_changed (stopped j.group)) K.jobs }
    → act F [] (Cmd.Cancel n) ≡ done_with j.group H
canceled F G K H n j found first second third =
    ap (λ o. option_map_or (λ (j : JobRow). done_with j.group (cancel_group j.group F)) o (done_with 0 F)) found
    ∙ ap (done_with j.group) (sym (jobs_alone K H (job_passes (stopped j.group).jobs) (job_changed (stopped j.group)) third
    ∙ ap (change_jobs (job_passes (stopped j.group).jobs) (job_changed (stopped j.group)) (λ b. b)) (second ∙ ap (no_more j.group) first)))

-- a job that is found has the number, and small numbers
pub number_found : (jobs : List JobRow) (n : ℕ) (j : JobRow) → find (λ r. r.number == n) jobs ≡ Some j → j.number ≡ n
number_found jobs n j found =
    let passes = found_passes (λ (r : JobRow). r.number == n) j jobs found in
    grind (arith, nat_tests)

-- rows that fail in front and behind are not missed
module _ {R : Type 0} (test : R → Bool) where
  filter_none : (rows : List R) → ((k : ℕ) (d : R) → k < length rows → test (get_or rows k d) ≡ false) → filter test rows ≡ []
  filter_none [] fails = refl
  filter_none (r ∷ rows) fails = rw (fails 0 r (omega arith)) (filter_none rows (λ k d low. fails (suc k) d (omega arith)))

  filter_drop : (n : ℕ) (rows : List R) → ((k : ℕ) (d : R) → k < n → test (get_or rows k d) ≡ false) → n ≤ length rows → filter test (drop n rows) ≡ filter test rows
  filter_drop zero rows fails low = refl
  filter_drop (suc n) [] fails low = refl
  filter_drop (suc n) (r ∷ rows) fails low = rw (fails 0 r (omega arith)) (filter_drop n rows (λ k d less. fails (suc k) d (omega arith)) (omega arith))

  filter_take : (n : ℕ) (rows : List R) → ((k : ℕ) (d : R) → n ≤ k → k < length rows → test (get_or rows k d) ≡ false) → filter test (take n rows) ≡ filter test rows
  filter_take zero rows fails = sym (filter_none rows (λ k d low. fails k d (omega arith) low))
  filter_take (suc n) [] fails = refl
  filter_take (suc n) (r ∷ rows) fails = grind (arith, filter_take n rows (λ k d high low. fails (suc k) d (omega arith) (omega arith)))

  -- rows that fail in front of some rows and behind them are not missed
  pub filter_between : (start end : ℕ) (rows : List R) → start ≤ end → end ≤ length rows → ((k : ℕ) (d : R) → k < start → test (get_or rows k d) ≡ false) → ((k : ℕ) (d : R) → end ≤ k → k < length rows → test (get_or rows k d) ≡ false) → filter test (take (end - start) (drop start rows)) ≡ filter test rows
  filter_between start end rows le high before behind =
      filter_take (end - start) (drop start rows) (λ k d more low. rw (get_or-drop start rows k d) (behind (start + k) d (omega arith) (omega (arith, length-drop start rows))))
      ∙ filter_drop start rows before (omega arith)

pub small_found : (o : Option (Bor JobRow)) (jobs : List JobRow) (n : ℕ) → IfSome o (λ job. IsFitJob job.now) → option_copied o ≡ find (λ r. r.number == n) jobs → IfSome o (λ job. (job.now.number ≡ n) × IsSmallJob job.now)
small_found None jobs n fit found = tt
small_found (Some job) jobs n fit found = (number_found jobs n job.now (sym found), fit.small)
