-- Soundness is kept where jobs or reservations that pass a test change, and the boards that they hold.
use Rattle.std.proofs.Common.{◌==◌, ◌∙◌, ◌≡◌, Bool, None, ap, false, refl, subst, sym, true, ℕ}
use Rattle.farm_sound.proofs.Names.{AllByRecursion, AllByRecursion-weaker, BoardRow, bytes_eq, Farm, find, found_has, Holder, job_of, JobRow, option_map_or}
use Rattle.farm_sound.proofs.Names.{res_of, ResRow}
use Rattle.farm_types.specs.Names.{AreGroupsInPhase, change_jobs, change_res, change_where, held_board, hold_of, is_job_so, is_res_so, IsBoardRow, IsCollecting}
use Rattle.farm_types.specs.Names.{IsHeldByKeys, IsJobRow, IsResRow, IsSound, IsSteady, job_hold, res_hold}
use Rattle.farm_sound.proofs.Collecting.{IsHeldByKeys-collector, IsSteady-collector}
use Rattle.farm_sound.proofs.Held.{IsHeldByKeys-regiven, IsMoved, Leaves, moved_row, not_moved}
use Rattle.farm_sound.proofs.Mapped.{IsSteady-boards, IsSteady-jobs, IsSteady-reservations, SameJob}
use Rattle.farm_sound.proofs.Where.{AllByRecursion-both, find_where}

-- the boards of holders that pass change
module _ (F : Farm) (so : Holder → Bool) (g : BoardRow → BoardRow) where
  abbrev pub boards_changed : Farm
  boards_changed = record F { boards = change_where (λ b. so b.holder) g F.boards }

  pub record ChangesBoards : Type 0 where
    pub name : (b : BoardRow) → (g b).name ≡ b.name
    pub kind : (b : BoardRow) → (g b).kind ≡ b.kind
    pub row : (b : BoardRow) → IsBoardRow F b → IsBoardRow F (g b)

  IsSteady-boards_changed : ChangesBoards → IsSteady F → IsSteady boards_changed
  IsSteady-boards_changed ch steady = IsSteady-boards F steady (λ b. so b.holder) g ch.name ch.kind
      (AllByRecursion-weaker (λ b is _. ch.row b is) F.boards steady.boards)

  -- in G the rows of those holders have changed too
  IsHeldByKeys-changed : (G : Farm) → ChangesBoards → G.boards ≡ boards_changed.boards → so Holder.Nobody ≡ false
      → ((h : Holder) → IsMoved (so h) (hold_of F h) (hold_of G h) g) → IsHeldByKeys F → IsHeldByKeys G
  IsHeldByKeys-changed G ch same nobody rows held_board = IsHeldByKeys-regiven F G so g
      (record {
        nobody = nobody;
        name = ch.name;
        boards = λ name. ap (find (λ (r : BoardRow). bytes_eq r.name name)) same
            ∙ find_where (λ r. bytes_eq r.name name) (λ b. so b.holder) g (λ b. ap (λ n. bytes_eq n name) (ch.name b)) F.boards;
        rows = rows;
      }) same held_board

-- ---- jobs

module _ (F : Farm) (test : JobRow → Bool) (f : JobRow → JobRow) (g : BoardRow → BoardRow) (P : JobRow → Type 0) where
  abbrev pub job_boards : Farm
  job_boards = boards_changed F (is_job_so F test) g

  pub record ChangesJobs : Type 0 where
    pub jobs : AllByRecursion P F.jobs
    pub same : (j : JobRow) → SameJob j (f j)
    pub row : (j : JobRow) → test j ≡ true → P j → IsJobRow job_boards j → IsJobRow job_boards (f j)
    pub boards : ChangesBoards F (is_job_so F test) g
    pub leaves : (j : JobRow) → test j ≡ true → P j → Leaves (job_hold j) (job_hold (f j)) g

  IsSteady-change_jobs : ChangesJobs → IsSteady F → IsSteady (change_jobs test f g F)
  IsSteady-change_jobs ch steady =
      let first = IsSteady-boards_changed F (is_job_so F test) g ch.boards steady in
      IsSteady-jobs job_boards first test f ch.same
      (AllByRecursion-weaker (λ j two so. ch.row j so two.0 two.1) F.jobs (AllByRecursion-both P (IsJobRow job_boards) F.jobs ch.jobs first.jobs))

  moved_jobs : ChangesJobs → (h : Holder) → IsMoved (is_job_so F test h) (hold_of F h) (hold_of (change_jobs test f g F) h) g
  moved_jobs ch (Holder.Job n) = subst (λ o. IsMoved (is_job_so F test (Holder.Job n)) (hold_of F (Holder.Job n)) (option_map_or job_hold o None) g)
      (sym (find_where (λ r. r.number == n) test f (λ r. ap (λ m. m == n) (ch.same r).number) F.jobs))
      (moved_row job_hold test f g (job_of F n) (λ j there so. ch.leaves j so (found_has P (λ r. r.number == n) j F.jobs ch.jobs there)))
  moved_jobs ch h = not_moved (hold_of F h) g

  -- the collector may become another, or none
  pub IsSound-change_jobs : (c : ℕ) → ChangesJobs → AreGroupsInPhase (change_jobs test f g F) → IsCollecting c (change_where test f F.jobs) → IsSound F
      → IsSound (record (change_jobs test f g F) { collector = c })
  IsSound-change_jobs c ch whole collecting sound = record {
    steady = IsSteady-collector (change_jobs test f g F) c (IsSteady-change_jobs ch sound.steady);
    held = IsHeldByKeys-collector (change_jobs test f g F) c
        (IsHeldByKeys-changed F (is_job_so F test) g (change_jobs test f g F) ch.boards refl refl (moved_jobs ch) sound.held);
    whole = whole;
    collecting = collecting;
  }

-- ---- reservations

module _ (F : Farm) (test : ResRow → Bool) (f : ResRow → ResRow) (g : BoardRow → BoardRow) (P : ResRow → Type 0) where
  abbrev pub res_boards : Farm
  res_boards = boards_changed F (is_res_so F test) g

  pub record ChangesRes : Type 0 where
    pub reservations : AllByRecursion P F.reservations
    pub same : (r : ResRow) → (f r).number ≡ r.number
    pub row : (r : ResRow) → test r ≡ true → P r → IsResRow res_boards r → IsResRow res_boards (f r)
    pub boards : ChangesBoards F (is_res_so F test) g
    pub leaves : (r : ResRow) → test r ≡ true → P r → Leaves (res_hold r) (res_hold (f r)) g

  IsSteady-change_res : ChangesRes → IsSteady F → IsSteady (change_res test f g F)
  IsSteady-change_res ch steady =
      let first = IsSteady-boards_changed F (is_res_so F test) g ch.boards steady in
      IsSteady-reservations res_boards first test f ch.same
      (AllByRecursion-weaker (λ r two so. ch.row r so two.0 two.1) F.reservations
      (AllByRecursion-both P (IsResRow res_boards) F.reservations ch.reservations first.reservations))

  moved_reservations : ChangesRes → (h : Holder) → IsMoved (is_res_so F test h) (hold_of F h) (hold_of (change_res test f g F) h) g
  moved_reservations ch (Holder.Res n) = subst (λ o. IsMoved (is_res_so F test (Holder.Res n)) (hold_of F (Holder.Res n)) (option_map_or res_hold o None) g)
      (sym (find_where (λ r. r.number == n) test f (λ r. ap (λ m. m == n) (ch.same r)) F.reservations))
      (moved_row res_hold test f g (res_of F n) (λ r there so. ch.leaves r so (found_has P (λ q. q.number == n) r F.reservations ch.reservations there)))
  moved_reservations ch h = not_moved (hold_of F h) g

  pub IsSound-change_res : ChangesRes → IsSound F → IsSound (change_res test f g F)
  IsSound-change_res ch sound = record {
    steady = IsSteady-change_res ch sound.steady;
    held = IsHeldByKeys-changed F (is_res_so F test) g (change_res test f g F) ch.boards refl refl (moved_reservations ch) sound.held;
    whole = sound.whole;
    collecting = sound.collecting;
  }
