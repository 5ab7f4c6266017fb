-- Free boards are given to claims.
use Rattle.std.proofs.Common.{◌+◌, ◌==◌, ◌∙◌, ◌∷◌, ◌≡◌, ◌≤◌, ◌⊎◌, IsSome, List, None, Some, ap, arith, false, inl, inr, refl, subst, sym, true, ℕ}
use Rattle.farm_sound.proofs.Names.{AllByRecursion-weaker, board_of, BoardRow, bytes_eq, bytes_eq-Decides, Farm, found_passes, Health, Holder, job_of, JobRow}
use Rattle.farm_sound.proofs.Names.{JobState, option_map, option_map_or, res_of, ResRow, ResState, State}
use Rattle.farm_types.specs.Names.{allocated_reservation, change_where, give_member, give_res, held_board, hold, hold_of, IsBoardRow, IsHeldByKeys, IsJobRow}
use Rattle.farm_types.specs.Names.{IsSound, IsSteady, job_gives, job_hold, phase, placed_job, res_gives, res_hold}
use Rattle.farm_sound.proofs.Held.{IsHeldByKeys-given}
use Rattle.farm_sound.proofs.Mapped.{IsSteady-boards, IsSteady-jobs, IsSteady-reservations}
use Rattle.farm_sound.proofs.Own.{itself, only_board, only_job}
use Rattle.farm_sound.proofs.Rows.{board_row_in, hold_nothing, job_row_at, res_row_in, still_none}
use Rattle.farm_sound.proofs.Tests.{same_number}
use Rattle.farm_sound.proofs.Where.{AllByRecursion-both, changed, either, find_touched, find_untouched, find_where}

-- the board is there, in nobody's hands, and in use
pub record IsFreeBoard (F : Farm) (b : BoardRow) : Type 0 where
  pub there : board_of F b.name ≡ Some b
  pub nobody : b.holder ≡ Holder.Nobody
  pub kept : b.health ≡ Health.Retired → ⊥

-- the farm in which h has got the board b
abbrev pub given_to : Holder → BoardRow → Farm → Farm
given_to h b F = record F { boards = change_where (λ c. bytes_eq c.name b.name) (held_board h State.Reserved) F.boards }

module _ (F : Farm) (h : Holder) (b : BoardRow) where
  pub IsSteady-given_to : IsFreeBoard F b → IsSteady F → IsSteady (given_to h b F)
  IsSteady-given_to free steady = IsSteady-boards F steady (λ c. bytes_eq c.name b.name) (held_board h State.Reserved) (λ c. refl) (λ c. refl)
      (AllByRecursion-weaker
      (λ c two so. board_row_in F c h State.Reserved
      (λ retired. absurd (free.kept (sym (ap (λ (x : BoardRow). x.health) (two.0 ((bytes_eq-Decides c.name b.name).0 so))) ∙ retired))) two.1)
      F.boards (AllByRecursion-both (λ c. c.name ≡ b.name → c ≡ b) (IsBoardRow F) F.boards (only_board F steady b free.there) steady.boards))

  pub boards_on : (name : List ℕ) → board_of (given_to h b F) name ≡ option_map (changed (λ c. bytes_eq c.name b.name) (held_board h State.Reserved)) (board_of F name)
  boards_on name = find_where (λ r. bytes_eq r.name name) (λ c. bytes_eq c.name b.name) (held_board h State.Reserved) (λ c. refl) F.boards

  pub still_there : IsFreeBoard F b → IsSome (board_of (given_to h b F) b.name)
  still_there free = subst IsSome (sym (boards_on b.name ∙ ap (option_map (changed (λ c. bytes_eq c.name b.name) (held_board h State.Reserved))) free.there)) refl

  -- another board is found as before
  pub still_board : (c : BoardRow) → bytes_eq c.name b.name ≡ false → board_of F c.name ≡ Some c → board_of (given_to h b F) c.name ≡ Some c
  still_board c other there =
      find_untouched (λ r. bytes_eq r.name c.name) (λ r. bytes_eq r.name b.name) (held_board h State.Reserved) (λ r. refl)
      (λ r at. ap (λ n. bytes_eq n b.name) ((bytes_eq-Decides r.name c.name).0 at) ∙ other) F.boards ∙ there

-- ---- to a reservation

module _ (F : Farm) (number : ℕ) (r : ResRow) (b : BoardRow) (bs : List BoardRow) (t : ℕ) (there : res_of F number ≡ Some r)
    (waits : r.state ≡ ResState.Waiting) (free : IsFreeBoard F b) where
  pub res_at : (n : ℕ) → res_of (give_res F number (b ∷ bs) t) n ≡ option_map (changed (λ q. q.number == number) (allocated_reservation b.name t)) (res_of F n)
  res_at n = find_where (λ q. q.number == n) (λ q. q.number == number) (allocated_reservation b.name t) (λ q. refl) F.reservations

  IsSteady-give_res : t ≤ F.clock → IsSteady F → IsSteady (give_res F number (b ∷ bs) t)
  IsSteady-give_res low steady =
      let first = IsSteady-given_to F (Holder.Res number) b free steady in
      IsSteady-reservations (given_to (Holder.Res number) b F) first (λ q. q.number == number) (allocated_reservation b.name t) (λ q. refl)
      (AllByRecursion-weaker
      (λ q is so. res_row_in (given_to (Holder.Res number) b F) q ResState.Allocated (t + 60) (Some b.name) (omega arith) (still_there F (Holder.Res number) b free)
      (λ e. cc) (λ _. refl) is)
      F.reservations first.reservations)

  IsHeldByKeys-give_res : IsHeldByKeys F → IsHeldByKeys (give_res F number (b ∷ bs) t)
  IsHeldByKeys-give_res held_in =
      IsHeldByKeys-given F (give_res F number (b ∷ bs) t) (Holder.Res number) b
      (record {
        free = free.nobody;
        there = free.there;
        nothing = ap (λ o. option_map_or res_hold o None) there ∙ ap (λ x. hold (Holder.Res r.number) r.board (res_gives x)) waits
            ∙ hold_nothing (Holder.Res r.number) r.board;
        gets = ap (λ o. option_map_or res_hold o None)
            (find_touched (λ q. q.number == number) (λ q. q.number == number) (allocated_reservation b.name t) (λ q. refl) r F.reservations there at)
            ∙ ap (λ n. Some (record { board = b.name; holder = Holder.Res n; state = State.Reserved })) (same_number r.number number at);
        stays = stays;
        boards = boards_on F (Holder.Res number) b;
        rows = refl;
      })
      held_in
    where
      at : (r.number == number) ≡ true
      at = found_passes (λ (q : ResRow). q.number == number) r F.reservations there

      stays : (h : Holder) → (hold_of (give_res F number (b ∷ bs) t) h ≡ hold_of F h) ⊎ (h ≡ Holder.Res number)
      stays (Holder.Res n) = either (n == number) (λ same. inr (ap Holder.Res (same_number n number same)))
          (λ other. inl (ap (λ o. option_map_or res_hold o None)
          (find_untouched (λ q. q.number == n) (λ q. q.number == number) (allocated_reservation b.name t) (λ q. refl)
          (λ q is. ap (λ k. k == number) (same_number q.number n is) ∙ other) F.reservations)))
      stays h = inl refl

  pub IsSound-give_res : t ≤ F.clock → IsSound F → IsSound (give_res F number (b ∷ bs) t)
  IsSound-give_res low sound = record { steady = IsSteady-give_res low sound.steady; held = IsHeldByKeys-give_res sound.held; whole = sound.whole; collecting = sound.collecting }

-- ---- to a member of a group

-- it becomes Scheduled or Scheduling
pub record IsPlaced (state : JobState) : Type 0 where
  pub gives : job_gives state ≡ Some State.Reserved
  pub waits : state ≡ JobState.Submitted → ⊥
  pub ends : state ≡ JobState.Finished → ⊥

module _ (state : JobState) (placing : IsPlaced state) (F : Farm) (j : JobRow) (b : BoardRow) (there : job_of F j.number ≡ Some j) (waits : j.state ≡ JobState.Submitted) (free : IsFreeBoard F b) where
  pub IsSteady-give_member : IsSteady F → IsSteady (give_member state F (j, b))
  IsSteady-give_member steady =
      let first = IsSteady-given_to F (Holder.Job j.number) b free steady in
      IsSteady-jobs (given_to (Holder.Job j.number) b F) first (λ q. q.number == j.number) (placed_job state b.name)
      (λ q. record { number = refl; group = refl; owner = refl; priority = refl; checking = refl })
      (AllByRecursion-weaker
      (λ q two so.
      let is = two.1 in
      let s : q.state ≡ JobState.Submitted = ap (λ (k : JobRow). k.state) (two.0 (same_number q.number j.number so)) ∙ waits in
      job_row_at (given_to (Holder.Job j.number) b F) q state q.outcome (Some b.name) (still_there F (Holder.Job j.number) b free)
      (still_none q.outcome q.state state (λ e. let x : JobState.Submitted ≡ JobState.Finished = sym s ∙ e in cc)
      placing.ends is.outcome) (λ _. refl) (λ e. absurd (placing.waits e)) (λ yes _. (is.check yes).state (ap phase s)) is)
      F.jobs (AllByRecursion-both (λ q. q.number ≡ j.number → q ≡ j) (IsJobRow (given_to (Holder.Job j.number) b F)) F.jobs (only_job F steady j.number j there) first.jobs))

  -- another job is found as before
  job_elsewhere : (n : ℕ) → (n == j.number) ≡ false → job_of (give_member state F (j, b)) n ≡ job_of F n
  job_elsewhere n other = find_untouched (λ q. q.number == n) (λ q. q.number == j.number) (placed_job state b.name) (λ q. refl)
      (λ q is. ap (λ k. k == j.number) (same_number q.number n is) ∙ other) F.jobs

  pub other_job : (k : JobRow) → (k.number == j.number) ≡ false → job_of F k.number ≡ Some k → job_of (give_member state F (j, b)) k.number ≡ Some k
  other_job k other is = job_elsewhere k.number other ∙ is

  pub IsHeldByKeys-give_member : IsHeldByKeys F → IsHeldByKeys (give_member state F (j, b))
  IsHeldByKeys-give_member held_in =
      IsHeldByKeys-given F (give_member state F (j, b)) (Holder.Job j.number) b
      (record {
        free = free.nobody;
        there = free.there;
        nothing = ap (λ o. option_map_or job_hold o None) there ∙ ap (λ x. hold (Holder.Job j.number) j.board (job_gives x)) waits
            ∙ hold_nothing (Holder.Job j.number) j.board;
        gets = ap (λ o. option_map_or job_hold o None)
            (find_touched (λ q. q.number == j.number) (λ q. q.number == j.number) (placed_job state b.name) (λ q. refl) j F.jobs there (itself j.number))
            ∙ ap (hold (Holder.Job j.number) (Some b.name)) placing.gives;
        stays = stays;
        boards = boards_on F (Holder.Job j.number) b;
        rows = refl;
      })
      held_in
    where
      stays : (h : Holder) → (hold_of (give_member state F (j, b)) h ≡ hold_of F h) ⊎ (h ≡ Holder.Job j.number)
      stays (Holder.Job n) = either (n == j.number) (λ same. inr (ap Holder.Job (same_number n j.number same)))
          (λ other. inl (ap (λ o. option_map_or job_hold o None) (job_elsewhere n other)))
      stays h = inl refl

  pub other_board : (c : BoardRow) → bytes_eq c.name b.name ≡ false → IsFreeBoard F c → IsFreeBoard (give_member state F (j, b)) c
  other_board c other is = record { there = still_board F (Holder.Job j.number) b c other is.there; nobody = is.nobody; kept = is.kept }
