-- What each command leaves of the queue.
use Rattle.std.proofs.Common.{[], ◌&&◌, ◌+◌, ◌==◌, ◌||◌, ◌∙◌, ◌∷◌, ◌≡◌, ◌≢◌, ◌≤◌, Bool, List, None, Option, Some, ap, arith, cond, false, is_none, length, not}
use Rattle.std.proofs.Common.{refl, sym, true, ℕ}
use Rattle.farm_pick.proofs.Names.{all_true, AllByRecursion, AllByRecursion-weaker, and-true, BoardRow, both, by_cases, bytes_eq, found_has, found_passes}
use Rattle.farm_pick.proofs.Names.{JobRow, JobState, map-map, map_id, nat_tests, only_job, option_map_or, ResRow, same_number, State, Want}
use Rattle.farm_types.specs.Names.{act, after_check, after_job, board_of, cancel_group, change_jobs, change_res, done_with, Farm, farm_at_call, finish_one}
use Rattle.farm_types.specs.Names.{first_code, forbidden, freed_board, giving_back, in_state, is_alive, is_dead, is_proper_cmd, is_unstarted, is_waiting}
use Rattle.farm_types.specs.Names.{is_word, IsSound, job_of, longest_key, longest_name, moment, new_res, no_job, no_reservation, own_refusal, owned_by, phase}
use Rattle.farm_types.specs.Names.{put_board, queue, reasons, refusal, res_claim, res_is, res_of, res_reasons, reservation_expired, same_job_state}
use Rattle.farm_types.specs.Names.{same_res_state, start_group, unplaced_job, waits, wrong_job_state, wrong_reservation_state}
use Rattle.farm_types.specs.declared.calls.Call.{Call}
use Rattle.farm_types.specs.declared.calls.Cmd.{Cmd}
use Rattle.farm_types.specs.declared.rows.Outcome.{Outcome}
use Rattle.farm_types.specs.declared.rows.ResState.{ResState}
use Rattle.farm_sound.proofs.Answered.{unrefused}
use Rattle.farm_sound.proofs.Clear.{first_clear, passes, some_of}
use Rattle.farm_sound.proofs.Own.{only_res}
use Rattle.farm_sound.proofs.Step.{IsSound-moved_to}
use Rattle.farm_sound.proofs.Tests.{acquired_from, allocated_from, scheduled_from, scheduling_from, started_from}
use Rattle.farm_sound.proofs.Whole.{Alike}
use Rattle.farm_pick.specs.Follow.{queue_after, queue_without}
use Rattle.farm_pick.proofs.Putting.{reserve_puts, submit_puts}
use Rattle.farm_pick.proofs.Taking.{SameClaim, and_other, other, queue_stays, queue_takes, reservations_go, same_claim, same_then, takes_reservations}
use Rattle.farm_pick.proofs.Taking.{groups_differ, reservations_differ}

-- ---- states

-- whether a job of the state waits for boards
abbrev pub in_queue : JobState → Bool
in_queue s = same_job_state s JobState.Submitted || same_job_state s JobState.Scheduling

-- it does so in its first phase
pub waits_by_phase : (s : JobState) → in_queue s ≡ (phase s == 0)
waits_by_phase s = grind arith

-- the two steps of a canceled group, at one job
abbrev ended : ℕ → JobRow → JobRow
ended g m = cond ((m.group == g) && is_unstarted m) (record m { state = JobState.Finished; outcome = Some Outcome.Canceled }) m

abbrev stopped : ℕ → JobRow → JobRow
stopped g m = cond ((m.group == g) && same_job_state m.state JobState.Running) (record m { state = JobState.Canceling }) m

ended_same : (g : ℕ) (m : JobRow) → SameClaim m (ended g m)
ended_same g m = by_cases (SameClaim m) ((m.group == g) && is_unstarted m) (record m { state = JobState.Finished; outcome = Some Outcome.Canceled }) m
    (λ _. record { number = refl; group = refl; owner = refl; priority = refl; want = refl }) (λ _. same_claim m)

stopped_same : (g : ℕ) (m : JobRow) → SameClaim m (stopped g m)
stopped_same g m = by_cases (SameClaim m) ((m.group == g) && same_job_state m.state JobState.Running) (record m { state = JobState.Canceling }) m
    (λ _. record { number = refl; group = refl; owner = refl; priority = refl; want = refl }) (λ _. same_claim m)

canceled_waits : (g : ℕ) (m : JobRow) → waits (stopped g (ended g m)) ≡ (waits m && other g m.group)
canceled_waits g m = grind arith

-- ---- rows that wait as before

module _ (F : Farm) where
  jobs_stay : (test : JobRow → Bool) (f : JobRow → JobRow) (g : BoardRow → BoardRow) → ((j : JobRow) → SameClaim j (f j))
      → AllByRecursion (λ j. test j ≡ true → waits (f j) ≡ waits j) F.jobs → queue (change_jobs test f g F) ≡ queue F
  jobs_stay test f g same stay = queue_stays F (change_jobs test f g F) (λ j. cond (test j) (f j) j) (λ r. r)
      (record {
        jobs = refl;
        reservations = sym (map_id F.reservations);
        same_job = λ j. by_cases (SameClaim j) (test j) (f j) j (λ _. same j) (λ _. same_claim j);
        same_res = λ r. refl;
        jobs_wait = AllByRecursion-weaker (λ j stays. by_cases (λ k. waits k ≡ (waits j && true)) (test j) (f j) j
            (λ so. stays so ∙ sym (and-true (waits j))) (λ _. sym (and-true (waits j)))) F.jobs stay;
        reservations_wait = AllByRecursion-weaker (λ r _. sym (and-true (is_waiting r))) F.reservations (all_true F.reservations);
      })

  reservations_stay : (test : ResRow → Bool) (f : ResRow → ResRow) (g : BoardRow → BoardRow) → ((r : ResRow) → res_claim (f r) ≡ res_claim r)
      → AllByRecursion (λ r. test r ≡ true → is_waiting (f r) ≡ is_waiting r) F.reservations → queue (change_res test f g F) ≡ queue F
  reservations_stay test f g same stay = queue_stays F (change_res test f g F) (λ j. j) (λ r. cond (test r) (f r) r)
      (takes_reservations F (change_res test f g F) (λ _. true) test f refl refl same (AllByRecursion-weaker (λ j _. refl) F.jobs (all_true F.jobs))
      (AllByRecursion-weaker (λ r stays. ((λ so. stays so ∙ sym (and-true (is_waiting r))), (λ _. refl))) F.reservations stay))

-- the collecting group that gives its boards back waits on
pub backs_follow : (F : Farm) → queue (giving_back F) ≡ queue F
backs_follow F =
    jobs_stay F (λ j. (j.group == F.collector) && same_job_state j.state JobState.Scheduling) unplaced_job freed_board
    (λ j. record { number = refl; group = refl; owner = refl; priority = refl; want = refl })
    (AllByRecursion-weaker (λ j _ so. sym (ap in_queue (scheduling_from j.state
    (both (j.group == F.collector) (same_job_state j.state JobState.Scheduling) so).1))) F.jobs (all_true F.jobs))

module _ (F : Farm) (sound : IsSound F) where
  -- ---- jobs

  start_follows : (n : ℕ) (j : JobRow) → job_of F n ≡ Some j → j.state ≡ JobState.Scheduled → queue (start_group j.group F) ≡ queue F
  start_follows n j there ready =
      jobs_stay F (λ m. m.group == j.group) (λ m. record m { state = JobState.Running }) (in_state State.Running)
      (λ m. record { number = refl; group = refl; owner = refl; priority = refl; want = refl })
      (AllByRecursion-weaker
      (λ m alike so. sym (waits_by_phase m.state ∙ ap (λ p. p == 0) (alike (same_number m.group j.group so)) ∙ ap (λ s. phase s == 0) ready)) F.jobs
      (found_has (λ k. AllByRecursion (Alike k) F.jobs) (λ r. r.number == n) j F.jobs sound.whole there))

  finish_follows : (n t : ℕ) (j : JobRow) (named : Outcome) → job_of F n ≡ Some j → phase j.state ≡ 2 → queue (finish_one t named F j) ≡ queue F
  finish_follows n t j named there started =
      let outcome : Outcome = cond (same_job_state j.state JobState.Canceling) Outcome.Canceled named in
      let at : j.number ≡ n = same_number j.number n (found_passes (λ (r : JobRow). r.number == n) j F.jobs there) in
      jobs_stay F (λ m. m.number == j.number) (λ m. record m { state = JobState.Finished; outcome = Some outcome })
      (λ b. freed_board (cond j.checking (after_check outcome t b) (after_job outcome b)))
      (λ m. record { number = refl; group = refl; owner = refl; priority = refl; want = refl })
      (AllByRecursion-weaker
      (λ m only so. sym (ap waits (only (same_number m.number j.number so ∙ at)) ∙ waits_by_phase j.state ∙ ap (λ p. p == 0) started))
      F.jobs (only_job F sound.steady n j there))

  cancel_follows : (n : ℕ) (j : JobRow) → job_of F n ≡ Some j → queue (cancel_group j.group F) ≡ queue_without j.group (queue F)
  cancel_follows n j there =
      queue_takes F (cancel_group j.group F) (other j.group) (λ m. stopped j.group (ended j.group m)) (λ r. r)
      (record {
        jobs = map-map (stopped j.group) (ended j.group) F.jobs;
        reservations = sym (map_id F.reservations);
        same_job = λ m. same_then m (ended j.group m) (stopped j.group (ended j.group m)) (ended_same j.group m) (stopped_same j.group (ended j.group m));
        same_res = λ r. refl;
        jobs_wait = AllByRecursion-weaker (λ m _. canceled_waits j.group m) F.jobs (all_true F.jobs);
        reservations_wait = AllByRecursion-weaker (λ r differs. and_other (is_waiting r) r.number j.group differs) F.reservations
            (reservations_differ F sound.steady n j there);
      })
      sound.steady

  -- ---- reservations

  -- one that didn't wait, and doesn't
  moved_follows : (n : ℕ) (r : ResRow) (f : ResRow → ResRow) (g : BoardRow → BoardRow) → res_of F n ≡ Some r → is_waiting r ≡ false
      → ((q : ResRow) → res_claim (f q) ≡ res_claim q) → ((q : ResRow) → is_waiting (f q) ≡ false) → queue (change_res (λ q. q.number == n) f g F) ≡ queue F
  moved_follows n r f g there was same now =
      reservations_stay F (λ q. q.number == n) f g same
      (AllByRecursion-weaker (λ q only so. now q ∙ sym (ap is_waiting (only (same_number q.number n so)) ∙ was)) F.reservations (only_res F sound.steady n r there))

  refresh_follows : (n d : ℕ) → queue (change_res (λ r. r.number == n) (λ r. record r { deadline = d }) (λ b. b) F) ≡ queue F
  refresh_follows n d = reservations_stay F (λ r. r.number == n) (λ r. record r { deadline = d }) (λ b. b) (λ r. refl)
      (AllByRecursion-weaker (λ r _ so. refl) F.reservations (all_true F.reservations))

  cancel_res_follows : (n : ℕ) (r : ResRow) → res_of F n ≡ Some r
      → queue (change_res (λ q. q.number == n) (λ q. record q { state = ResState.Canceled }) freed_board F) ≡ queue_without n (queue F)
  cancel_res_follows n r there = reservations_go F (change_res (λ q. q.number == n) (λ q. record q { state = ResState.Canceled }) freed_board F) (other n) (λ q. q.number == n)
      (λ q. record q { state = ResState.Canceled }) sound.steady refl refl (λ q. refl) (λ q. refl)
      (AllByRecursion-weaker (λ j differs. ap not differs) F.jobs (groups_differ F sound.steady n r there)) (AllByRecursion-weaker (λ q _. refl) F.reservations (all_true F.reservations))

-- ---- each command

-- the reservation of one of the four commands is there, and in a right state
right_res : (F : Farm) (t n : ℕ) (mine right : ResRow → Bool) → first_code (res_reasons F t n mine right) ≡ None
    → (r : ResRow) × (res_of F n ≡ Some r) × (right r ≡ true)
right_res F t n mine right is =
    let late = res_is F n (λ r. same_res_state r.state ResState.Expired || is_dead t r) in
    let there = first_clear (is_none (res_of F n)) no_reservation ((not (res_is F n mine), forbidden) ∷ (late, reservation_expired) ∷ (not (res_is F n right), wrong_reservation_state) ∷ []) is in
    let owned = first_clear (not (res_is F n mine)) forbidden ((late, reservation_expired) ∷ (not (res_is F n right), wrong_reservation_state) ∷ []) there.1 in
    let alive = first_clear late reservation_expired ((not (res_is F n right), wrong_reservation_state) ∷ []) owned.1 in
    let r = some_of (res_of F n) there.0 in
    (r.0, r.1, passes right (res_of F n) r.0 r.1 (first_clear (not (res_is F n right)) wrong_reservation_state [] alive.1).0)

-- the job of Start or Finish is there, and in a right state
right_job : (F : Farm) (n : ℕ) (right : JobRow → Bool)
    → first_code ((is_none (job_of F n), no_job) ∷ (not (option_map_or right (job_of F n) false), wrong_job_state) ∷ []) ≡ None
    → (j : JobRow) × (job_of F n ≡ Some j) × (right j ≡ true)
right_job F n right is =
    let wrong = not (option_map_or right (job_of F n) false) in
    let there = first_clear (is_none (job_of F n)) no_job ((wrong, wrong_job_state) ∷ []) is in
    let j = some_of (job_of F n) there.0 in
    (j.0, j.1, passes right (job_of F n) j.0 j.1 (first_clear wrong wrong_job_state [] there.1).0)

-- a proper group has some wants, and as many roles
proper_group : (priority : ℕ) (wants : List Want) (roles : List (Option (List ℕ))) (body : List ℕ) → is_proper_cmd (Cmd.Submit priority wants roles body) ≡ true
    → (1 ≤ length wants) × (length roles ≡ length wants)
unfolding is_proper_cmd
proper_group priority wants roles body is = grind (arith, nat_tests)

module _ (F : Farm) (t : ℕ) (caller : List ℕ) (sound : IsSound F) where
  board_by : (f : BoardRow → BoardRow) (o : Option BoardRow) → queue (option_map_or (λ b. put_board F (f b)) o F) ≡ queue F
  board_by f None = refl
  board_by f (Some b) = refl

  -- what a command leaves of the queue
  abbrev Leaves : Cmd → Type 0
  Leaves cmd = queue (act F caller cmd).farm ≡ queue_after F caller cmd

  -- a command that is proper and has no reason against it
  command_follows : (cmd : Cmd) → is_proper_cmd cmd ≡ true → first_code (reasons F t caller cmd) ≡ None → cmd ≢ Cmd.Pass → Leaves cmd
  command_follows (Cmd.AddType name check) proper clear command = refl
  command_follows (Cmd.AddBoard name kind tags) proper clear command = refl
  command_follows (Cmd.SetTags name tags) proper clear command = board_by (λ b. record b { tags = tags }) (board_of F name)
  command_follows (Cmd.SetHealth name health) proper clear command = board_by (λ b. record b { health = health }) (board_of F name)
  command_follows (Cmd.Submit priority wants roles body) proper clear command =
      let is = proper_group priority wants roles body proper in
      submit_puts F sound caller priority wants roles body is.0 is.1
  command_follows (Cmd.Cancel n) proper clear command = grind (arith, cancel_follows F sound n)
  command_follows (Cmd.Start n) proper clear command =
      let j = right_job F n (λ j. same_job_state j.state JobState.Scheduled) clear in
      ap (λ o. queue (option_map_or (λ j. done_with j.group (start_group j.group F)) o (done_with 0 F)).farm) j.1
      ∙ start_follows F sound n j.0 j.1 (scheduled_from j.0.state j.2)
  command_follows (Cmd.Finish n outcome) proper clear command =
      let j = right_job F n (λ j. same_job_state j.state JobState.Running || same_job_state j.state JobState.Canceling) clear in
      ap (λ o. queue (option_map_or (λ j. done_with n (finish_one F.clock outcome F j)) o (done_with 0 F)).farm) j.1
      ∙ finish_follows F sound n F.clock j.0 outcome j.1 (started_from j.0.state j.2).0
  command_follows (Cmd.Reserve priority tags) proper clear command =
      reserve_puts F sound (new_res F.next caller priority tags (F.clock + 60)) (F.next + 1) refl refl
  command_follows (Cmd.Acquire n) proper clear command =
      let r = right_res F t n (λ r. bytes_eq caller r.owner) (λ r. same_res_state r.state ResState.Allocated) clear in
      moved_follows F sound n r.0 (λ q. record q { state = ResState.Acquired }) (in_state State.Running) r.1
      (ap (λ s. same_res_state s ResState.Waiting) (allocated_from r.0.state r.2)) (λ q. refl) (λ q. refl)
  command_follows (Cmd.Release n) proper clear command =
      let r = right_res F t n (λ r. owned_by caller r.owner) (λ r. same_res_state r.state ResState.Acquired) clear in
      moved_follows F sound n r.0 (λ q. record q { state = ResState.Allocated; deadline = F.clock + 60 }) (in_state State.Reserved) r.1
      (ap (λ s. same_res_state s ResState.Waiting) (acquired_from r.0.state r.2)) (λ q. refl) (λ q. refl)
  command_follows (Cmd.Refresh n) proper clear command = refresh_follows F sound n (F.clock + 60)
  command_follows (Cmd.CancelRes n) proper clear command =
      let r = right_res F t n (λ r. owned_by caller r.owner) is_alive clear in
      cancel_res_follows F sound n r.0 r.1
  command_follows Cmd.Pass proper clear command = absurd (command refl)

-- ---- in a farm whose clock has moved

-- the reasons are those of the farm before
reasons_moved : (F : Farm) (clock t : ℕ) (caller : List ℕ) (cmd : Cmd) → first_code (reasons F t caller cmd) ≡ None
    → first_code (reasons (record F { clock = clock }) t caller cmd) ≡ None
reasons_moved F clock t caller Cmd.Pass is = is
reasons_moved F clock t caller cmd is = is

unreasoned : (F : Farm) (call : Call) → None ≡ refusal F call → first_code (reasons F (moment F call) call.caller call.cmd) ≡ None
unfolding own_refusal
unreasoned F call clear = (unrefused F call clear).own

pub commands_follow : (F : Farm) (call : Call) → IsSound F → None ≡ refusal F call → call.cmd ≢ Cmd.Pass
    → queue (act (farm_at_call F call) call.caller call.cmd).farm ≡ queue_after (farm_at_call F call) call.caller call.cmd
commands_follow F call sound clear command =
    command_follows (farm_at_call F call) (moment F call) call.caller (IsSound-moved_to F call clear sound) call.cmd
    (both (is_word longest_name call.caller && option_map_or (is_word longest_key) call.key true) (is_proper_cmd call.cmd) call.proper).1
    (reasons_moved F (moment F call) (moment F call) call.caller call.cmd (unreasoned F call clear)) command
