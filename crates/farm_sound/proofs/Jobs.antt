-- The commands on jobs keep soundness.
use Rattle.std.proofs.Common.{Bool, IsSome, None, Some, ap, arith, cond, false, map, min, nat_lt, refl, subst, sym, true, ℕ, ◌&&◌, ◌+◌, ◌==◌, ◌||◌, ◌∙◌, ◌≡◌}
use Rattle.std.proofs.Common.{◌≤◌}
use Rattle.farm_sound.proofs.Names.{AllByRecursion, AllByRecursion-weaker, BoardRow, false≢true, Farm, found_has, found_passes, Health, Holder, job_of, JobRow}
use Rattle.farm_sound.proofs.Names.{JobState, Outcome, State, type_of}
use Rattle.farm_types.specs.Names.{after_check, after_job, cancel_group, change_jobs, change_where, counts_of, Description, description_of, finish_one}
use Rattle.farm_types.specs.Names.{freed_board, giving_back, graded_board, hold, in_state, is_unstarted, IsBoardRow, IsCollecting, IsDescription, IsSound}
use Rattle.farm_types.specs.Names.{IsWithin, job_gives, job_hold, most_jobs_since, phase, same_health, same_job_state, same_outcome, start_group, unplaced_job}
use Rattle.farm_sound.proofs.Changes.{IsSound-change_jobs}
use Rattle.farm_sound.proofs.Collecting.{IsCollecting-where, none_collects}
use Rattle.farm_sound.proofs.Held.{Leaves}
use Rattle.farm_sound.proofs.Own.{itself, only_job}
use Rattle.farm_sound.proofs.Rows.{board_row_in, job_row_at, job_row_in, leaves_off, leaves_on, leaves_same, still_none}
use Rattle.farm_sound.proofs.Tests.{both, running_from, same_number, scheduling_from}
use Rattle.farm_sound.proofs.Where.{AllByRecursion-map, all_true, by_cases, changed}
use Rattle.farm_sound.proofs.Whole.{Alike, Alike-kept, Alike-where, AreGroupsInPhase-map_by}

-- ---- start and Cancel keep soundness

scheduled_at : (s : JobState) → phase s ≡ 1 → s ≡ JobState.Scheduled
scheduled_at JobState.Scheduled is = refl
scheduled_at s is = absurd (omega arith)

unstarted_phase : (s : JobState) → ((same_job_state s JobState.Submitted || same_job_state s JobState.Scheduling) || same_job_state s JobState.Scheduled) ≡ nat_lt (phase s) 2
unstarted_phase JobState.Submitted = refl
unstarted_phase s = refl

-- ---- Start

pub IsSound-start : (F : Farm) (n : ℕ) (j : JobRow) → job_of F n ≡ Some j → j.state ≡ JobState.Scheduled → IsSound F → IsSound (start_group j.group F)
IsSound-start F n j there ready sound =
    let P = λ (m : JobRow). m.group ≡ j.group → m.state ≡ JobState.Scheduled in
    let test = λ (m : JobRow). m.group == j.group in
    let f = λ (m : JobRow). record m { state = JobState.Running } in
    let alike = found_has (λ k. AllByRecursion (Alike k) F.jobs) (λ r. r.number == n) j F.jobs sound.whole there in
    let ready_all : AllByRecursion P F.jobs = AllByRecursion-weaker (λ m is same. scheduled_at m.state (is same ∙ ap phase ready)) F.jobs alike in
    IsSound-change_jobs F test f (in_state State.Running) P F.collector
    (record {
      jobs = ready_all;
      same = λ m. record { number = refl; group = refl; owner = refl; priority = refl; checking = refl };
      row = λ m so p is.
          let s : m.state ≡ JobState.Scheduled = p (same_number m.group j.group so) in
          job_row_in _ m JobState.Running m.outcome m.board is.board
          (still_none m.outcome m.state JobState.Running (λ e. let x : JobState.Scheduled ≡ JobState.Finished = sym s ∙ e in cc) (λ e. cc) is.outcome)
          (λ _. is.holds (subst (λ x. IsSome (job_gives x)) (sym s) refl)) (λ e. cc) is;
      boards = record { name = λ b. refl; kind = λ b. refl; row = λ b is. board_row_in F b b.holder State.Running is.retired is };
      leaves = λ m so p. subst (λ x. Leaves (hold (Holder.Job m.number) m.board (job_gives x)) (job_hold (f m)) (in_state State.Running))
          (sym (p (same_number m.group j.group so))) (leaves_on (Holder.Job m.number) m.board State.Reserved State.Running);
    })
    (AreGroupsInPhase-map_by F P (changed test f) ready_all
    (λ m k _ _. Alike-where test f (λ m. refl) (λ m k so same. refl) (λ m k same _. ap (λ g. g == j.group) same) m k) sound.whole)
    (IsCollecting-where F.collector P test f F.jobs ready_all (λ m. refl)
    (λ m so p. (λ e. cc, λ low same waits. let s : phase m.state ≡ 1 = ap phase (p (same_number m.group j.group so)) in absurd (omega (arith, s, waits))))
    sound.collecting)
    sound

-- ---- Cancel

-- the farm in which those that have not started are canceled
abbrev unstarted_off : ℕ → Farm → Farm
unstarted_off group F = record (change_jobs (λ j. (j.group == group) && is_unstarted j)
    (λ j. record j { state = JobState.Finished; outcome = Some Outcome.Canceled }) freed_board F) {
      collector = cond (F.collector == group) 0 F.collector;
    }

abbrev canceled : ℕ → JobRow → JobRow
canceled group j = cond ((j.group == group) && is_unstarted j) (record j { state = JobState.Finished; outcome = Some Outcome.Canceled }) j

-- a job that is Scheduling afterwards was so before, and in another group
canceled_scheduling : (group : ℕ) (j : JobRow) → (canceled group j).state ≡ JobState.Scheduling
    → (j.state ≡ JobState.Scheduling) × ((j.group == group) ≡ false)
canceled_scheduling group j = grind arith

collecting_canceled : (F : Farm) (group : ℕ) → IsSound F → IsCollecting (cond (F.collector == group) 0 F.collector) (map (canceled group) F.jobs)
collecting_canceled F group sound = by (F.collector == group) refl
  where
    by : (v : Bool) → (F.collector == group) ≡ v → IsCollecting (cond v 0 F.collector) (map (canceled group) F.jobs)
    by true at = none_collects (map (canceled group) F.jobs)
        (AllByRecursion-map (λ j. j.state ≡ JobState.Scheduling → (1 ≤ F.collector) × (j.group ≡ F.collector)) (λ j. j.state ≡ JobState.Scheduling → ⊥)
        (canceled group)
        (λ j only e.
        let two = canceled_scheduling group j e in
        false≢true (sym two.1 ∙ ap (λ g. g == group) (only two.0).1 ∙ at))
        F.jobs sound.collecting.only)
    by false at = IsCollecting-where F.collector (λ j. Unit {0}) (λ j. (j.group == group) && is_unstarted j)
        (λ j. record j { state = JobState.Finished; outcome = Some Outcome.Canceled }) F.jobs (all_true F.jobs) (λ j. refl)
        (λ j so _. (λ e. cc, λ low same _. absurd (false≢true (sym at ∙ ap (λ g. g == group) (sym same) ∙ (both (j.group == group) (is_unstarted j) so).0))))
        sound.collecting

cancel_unstarted : (F : Farm) (group : ℕ) → IsSound F → IsSound (unstarted_off group F)
cancel_unstarted F group sound =
    let test = λ (m : JobRow). (m.group == group) && is_unstarted m in
    let f = λ (m : JobRow). record m { state = JobState.Finished; outcome = Some Outcome.Canceled } in
    IsSound-change_jobs F test f freed_board (λ m. Unit {0}) (cond (F.collector == group) 0 F.collector)
    (record {
      jobs = all_true F.jobs;
      same = λ m. record { number = refl; group = refl; owner = refl; priority = refl; checking = refl };
      row = λ m so p is. job_row_in _ m JobState.Finished (Some Outcome.Canceled) m.board is.board (λ _. refl, λ _. refl) (λ e. absurd (false≢true e))
          (λ e. cc) is;
      boards = record { name = λ b. refl; kind = λ b. refl; row = λ b is. board_row_in F b Holder.Nobody State.Idle (λ _. refl) is };
      leaves = λ m so p. leaves_off (job_hold m) (Holder.Job m.number) m.board freed_board (λ b. refl) (λ b. refl);
    })
    (AreGroupsInPhase-map_by F (λ m. Unit {0}) (changed test f) (all_true F.jobs)
    (λ m k _ _. Alike-where test f (λ m. refl) (λ m k so same. refl)
    (λ m k same phased. (λ i. (same i == group) && is_unstarted k)
    ∙ ap (λ v. (m.group == group) && v) (unstarted_phase k.state ∙ ap (λ p. nat_lt p 2) phased ∙ sym (unstarted_phase m.state))) m k) sound.whole)
    (collecting_canceled F group sound)
    sound

cancel_running : (F : Farm) (group : ℕ) → IsSound F
    → IsSound (change_jobs (λ j. (j.group == group) && same_job_state j.state JobState.Running) (λ j. record j { state = JobState.Canceling })
    (λ b. b) F)
cancel_running F group sound =
    let test = λ (m : JobRow). (m.group == group) && same_job_state m.state JobState.Running in
    let f = λ (m : JobRow). record m { state = JobState.Canceling } in
    let running = λ (m : JobRow) (so : test m ≡ true). running_from m.state (both (m.group == group) (same_job_state m.state JobState.Running) so).1 in
    IsSound-change_jobs F test f (λ b. b) (λ m. Unit {0}) F.collector
    (record {
      jobs = all_true F.jobs;
      same = λ m. record { number = refl; group = refl; owner = refl; priority = refl; checking = refl };
      row = λ m so p is.
          let s : m.state ≡ JobState.Running = running m so in
          job_row_in _ m JobState.Canceling m.outcome m.board is.board
          (still_none m.outcome m.state JobState.Canceling (λ e. let x : JobState.Running ≡ JobState.Finished = sym s ∙ e in cc) (λ e. cc) is.outcome)
          (λ _. is.holds (subst (λ x. IsSome (job_gives x)) (sym s) refl)) (λ e. cc) is;
      boards = record { name = λ b. refl; kind = λ b. refl; row = λ b is. is };
      leaves = λ m so p. subst (λ x. Leaves (hold (Holder.Job m.number) m.board (job_gives x)) (job_hold (f m)) (λ b. b)) (sym (running m so))
          (leaves_same (job_hold (f m)));
    })
    (AreGroupsInPhase-map_by F (λ m. Unit {0}) (changed test f) (all_true F.jobs)
    (λ m k _ _. Alike-kept test f (λ m. refl) (λ m so. ap phase (sym (running m so))) m k) sound.whole)
    (IsCollecting-where F.collector (λ m. Unit {0}) test f F.jobs (all_true F.jobs) (λ m. refl)
    (λ m so _. (λ e. cc, λ low same waits. let s : phase m.state ≡ 2 = ap phase (running m so) in absurd (omega (arith, s, waits))))
    sound.collecting)
    sound

pub IsSound-cancel : (F : Farm) (group : ℕ) → IsSound F → IsSound (cancel_group group F)
IsSound-cancel F group sound = cancel_running (unstarted_off group F) group (cancel_unstarted F group sound)

-- ---- the collector gives its boards back

-- each job in it is Scheduling
pub IsSound-back : (F : Farm) → IsSound F → IsSound (giving_back F)
IsSound-back F sound =
    let test = λ (m : JobRow). (m.group == F.collector) && same_job_state m.state JobState.Scheduling in
    let scheduling = λ (m : JobRow) (so : test m ≡ true). scheduling_from m.state (both (m.group == F.collector) (same_job_state m.state JobState.Scheduling) so).1 in
    IsSound-change_jobs F test unplaced_job freed_board (λ m. Unit {0}) 0
    (record {
      jobs = all_true F.jobs;
      same = λ m. record { number = refl; group = refl; owner = refl; priority = refl; checking = refl };
      row = λ m so p is.
          let s : m.state ≡ JobState.Scheduling = scheduling m so in
          job_row_at _ m JobState.Submitted m.outcome None tt
          (still_none m.outcome m.state JobState.Submitted (λ e. let x : JobState.Scheduling ≡ JobState.Finished = sym s ∙ e in cc) (λ e. cc) is.outcome)
          (λ e. absurd (false≢true e)) (λ _. refl) (λ yes _. (is.check yes).state (ap phase s)) is;
      boards = record { name = λ b. refl; kind = λ b. refl; row = λ b is. board_row_in F b Holder.Nobody State.Idle (λ _. refl) is };
      leaves = λ m so p. leaves_off (job_hold m) (Holder.Job m.number) None freed_board (λ b. refl) (λ b. refl);
    })
    (AreGroupsInPhase-map_by F (λ m. Unit {0}) (changed test unplaced_job) (all_true F.jobs)
    (λ m k _ _. Alike-kept test unplaced_job (λ m. refl) (λ m so. ap phase (sym (scheduling m so))) m k) sound.whole)
    (none_collects (change_where test unplaced_job F.jobs)
    (AllByRecursion-map (λ j. j.state ≡ JobState.Scheduling → (1 ≤ F.collector) × (j.group ≡ F.collector)) (λ j. j.state ≡ JobState.Scheduling → ⊥)
    (λ m. cond (test m) (unplaced_job m) m) (λ j only. none_left j only (test j) refl) F.jobs sound.collecting.only))
    sound
  where
    none_left : (j : JobRow) → (j.state ≡ JobState.Scheduling → (1 ≤ F.collector) × (j.group ≡ F.collector)) → (v : Bool)
        → ((j.group == F.collector) && same_job_state j.state JobState.Scheduling) ≡ v → (cond v (unplaced_job j) j).state ≡ JobState.Scheduling → ⊥
    none_left j only true at e = cc
    none_left j only false at e =
        let both_true : ((j.group == F.collector) && same_job_state j.state JobState.Scheduling) ≡ true =
        (λ i. ((only e).1 i == F.collector) && same_job_state (e i) JobState.Scheduling) ∙ ap (λ v. v && true) (itself F.collector) in
        false≢true (sym at ∙ both_true)

-- ---- finish keeps soundness

-- ---- the board afterwards

-- what a board keeps after a job
record Used (F : Farm) (b c : BoardRow) : Type 0 where
  pub same : description_of c ≡ description_of b
  pub counts : AllByRecursion IsWithin (counts_of c)
  pub checked : c.last_check ≤ F.clock

used_graded : (F : Farm) (h : Health) (b c : BoardRow) → Used F b c → Used F b (graded_board h c)
used_graded F h b c is = by_cases (Used F b) (same_health c.health Health.Good || same_health c.health Health.Unknown) (record c { health = h }) c
    (λ _. record { same = is.same; counts = is.counts; checked = is.checked }) (λ _. is)

used_job : (F : Farm) (o : Outcome) (b : BoardRow) → IsBoardRow F b → Used F b (after_job o b)
used_job F o b is =
    let used : Used F b (record b { jobs_since = min (b.jobs_since + 1) most_jobs_since }) =
    record { same = refl; counts = grind (arith, is.counts); checked = is.checked } in
    by_cases (Used F b) (same_outcome o Outcome.Infra) (graded_board Health.Unknown (record b { jobs_since = min (b.jobs_since + 1) most_jobs_since }))
    (record b { jobs_since = min (b.jobs_since + 1) most_jobs_since })
    (λ _. used_graded F Health.Unknown b (record b { jobs_since = min (b.jobs_since + 1) most_jobs_since }) used) (λ _. used)

used_check : (F : Farm) (o : Outcome) (b : BoardRow) → IsBoardRow F b → Used F b (after_check o F.clock b)
used_check F Outcome.Complete b is =
    used_graded F Health.Good b (record b { jobs_since = 0; last_check = F.clock })
    (record { same = refl; counts = grind (arith, is.counts); checked = omega arith })
used_check F Outcome.Canceled b is = record { same = refl; counts = is.counts; checked = is.checked }
used_check F o b is = used_graded F Health.Bad b b (record { same = refl; counts = is.counts; checked = is.checked })

idle_row : (F : Farm) (b c : BoardRow) → Used F b c → IsBoardRow F b → IsBoardRow F (freed_board c)
idle_row F b c used is = record {
  words = subst IsDescription (sym used.same) is.words;
  kind = subst (λ (d : Description). IsSome (type_of F d.kind)) (sym used.same) is.kind;
  counts = used.counts;
  checked = used.checked;
  retired = λ _. refl;
}

-- ---- the job

-- a job that is Running or Canceling is over, and its board is free
module _ (F : Farm) (n : ℕ) (j : JobRow) (named : Outcome) (there : job_of F n ≡ Some j) (started : phase j.state ≡ 2)
    (going : j.state ≡ JobState.Finished → ⊥) where
  abbrev outcome : Outcome
  outcome = cond (same_job_state j.state JobState.Canceling) Outcome.Canceled named

  abbrev after : BoardRow → BoardRow
  after b = cond j.checking (after_check outcome F.clock b) (after_job outcome b)

  abbrev over : JobRow → JobRow
  over m = record m { state = JobState.Finished; outcome = Some outcome }

  used_after : (b : BoardRow) → IsBoardRow F b → Used F b (after b)
  used_after b is = by_cases (Used F b) j.checking (after_check outcome F.clock b) (after_job outcome b) (λ _. used_check F outcome b is)
      (λ _. used_job F outcome b is)

  description_after : (b : BoardRow) → description_of (after b) ≡ description_of b
  description_after b = grind arith

  alike_over : (k m : JobRow) → (k.number ≡ j.number → k ≡ j) → (m.number ≡ j.number → m ≡ j) → Alike k m
      → Alike (cond (k.number == j.number) (over k) k) (cond (m.number == j.number) (over m) m)
  alike_over k m ok om alike =
      by_cases (λ x. Alike x (cond (m.number == j.number) (over m) m)) (k.number == j.number) (over k) k
      (λ kso. by_cases (λ y. Alike (over k) y) (m.number == j.number) (over m) m (λ _ _. refl)
      (λ _ same. alike same ∙ ap (λ (x : JobRow). phase x.state) (ok (same_number k.number j.number kso)) ∙ started))
      (λ _. by_cases (λ y. Alike k y) (m.number == j.number) (over m) m
      (λ mso same. sym started ∙ sym (ap (λ (x : JobRow). phase x.state) (om (same_number m.number j.number mso))) ∙ alike same)
      (λ _. alike))

  pub IsSound-finish : IsSound F → IsSound (finish_one F.clock named F j)
  IsSound-finish sound =
      let at : j.number ≡ n = same_number j.number n (found_passes (λ (r : JobRow). r.number == n) j F.jobs there) in
      let only = only_job F sound.steady j.number j (ap (job_of F) at ∙ there) in
      IsSound-change_jobs F (λ m. m.number == j.number) over (λ b. freed_board (after b)) (λ m. Unit {0}) F.collector
      (record {
        jobs = all_true F.jobs;
        same = λ m. record { number = refl; group = refl; owner = refl; priority = refl; checking = refl };
        row = λ m so _ is. job_row_in _ m JobState.Finished (Some outcome) m.board is.board (λ _. refl, λ _. refl) (λ e. absurd (false≢true e)) (λ e. cc) is;
        boards = record {
          name = λ b. ap (λ (d : Description). d.name) (description_after b);
          kind = λ b. ap (λ (d : Description). d.kind) (description_after b);
          row = λ b is. idle_row F b (after b) (used_after b is) is;
        };
        leaves = λ m so p. leaves_off (job_hold m) (Holder.Job m.number) m.board (λ b. freed_board (after b)) (λ b. refl) (λ b. refl);
      })
      (AreGroupsInPhase-map_by F (λ m. m.number ≡ j.number → m ≡ j) (λ m. cond (m.number == j.number) (over m) m) only alike_over sound.whole)
      (IsCollecting-where F.collector (λ m. m.number ≡ j.number → m ≡ j) (λ m. m.number == j.number) over F.jobs only (λ m. refl)
      (λ m so p. (
        λ e. cc,
        λ low same waits. let s : phase m.state ≡ 2 = ap (λ (k : JobRow). phase k.state) (p (same_number m.number j.number so)) ∙ started in absurd (omega (arith, s, waits)),
      ))
      sound.collecting)
      sound
