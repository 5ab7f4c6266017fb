-- What the edits of jobs, reservations and boards keep.
use Rattle.std.proofs.Common.{[], ◌≡◌, ℕ, ◌+◌, List, ◌∷◌, min, Bool, true, false, IfSome, refl, ◌∙◌, arith}
use Rattle.farm_types.specs.Names.{after_check, after_job, change_jobs, change_res, change_where, Farm, freed_board, graded_board, is_job_so, is_res_so}
use Rattle.farm_types.specs.Names.{IsSmall, IsSmallBoard, IsSmallRes, most_jobs_since}
use Rattle.farm_core.proofs.Names.{BoardRow, IsFitJob, JobRow, ResRow}
use Rattle.farm_types.specs.declared.rows.Health.{Health}
use Rattle.farm_types.specs.declared.rows.Outcome.{Outcome}
use Rattle.farm_core.specs.declared.board_effect.BoardEffect.{BoardEffect}
use Rattle.farm_core.specs.declared.edits.JobEdit.{JobEdit}
use Rattle.farm_core.specs.declared.edits.ResEdit.{ResEdit}
use Rattle.farm_table.specs.Tabled.{KeepsKeys}
use Rattle.farm_core.specs.Edits.{IsSmallEffect, job_changed, res_changed, board_after}

-- a job goes on to fit
pub keeps_fit : (e : JobEdit) (j : JobRow) → IsFitJob j → IsFitJob (job_changed e j)
keeps_fit e j fit = record { small = record { number = fit.small.number; group = fit.small.group }; near = fit.near }

-- and so does a reservation
pub keeps_small : (e : ResEdit) → IfSome e.deadline IsSmall → (r : ResRow) → IsSmallRes r → IsSmallRes (res_changed e r)
keeps_small e low r small = grind arith

graded_by : (P : BoardRow → Type 0) (h : Health) (b : BoardRow) → P b → P (record b { health = h }) → P (graded_board h b)
graded_by P h b same other = grind arith

job_by : (P : BoardRow → Type 0) (outcome : Outcome) (b : BoardRow) → ((h : Health) → P (record b { jobs_since = min (b.jobs_since + 1) most_jobs_since; health = h })) → P (after_job outcome b)
job_by P outcome b each = grind arith

check_by : (P : BoardRow → Type 0) (outcome : Outcome) (t : ℕ) (b : BoardRow) → ((h : Health) → P (record b { health = h })) → ((h : Health) → P (record b { jobs_since = 0; last_check = t; health = h })) → P (after_check outcome t b)
check_by P Outcome.Complete t b each fresh = graded_by P Health.Good (record b { jobs_since = 0; last_check = t }) (fresh b.health) (fresh Health.Good)
check_by P Outcome.Incomplete t b each fresh = graded_by P Health.Bad b (each b.health) (each Health.Bad)
check_by P Outcome.Infra t b each fresh = graded_by P Health.Bad b (each b.health) (each Health.Bad)
check_by P Outcome.Canceled t b each fresh = each b.health

pub keeps_board : (e : BoardEffect) (b : BoardRow) → (board_after e b).name ≡ b.name
keeps_board BoardEffect.Free b = refl
keeps_board (BoardEffect.State state) b = refl
keeps_board (BoardEffect.Reserve holder) b = refl
keeps_board (BoardEffect.End true outcome t) b = check_by (λ x. x.name ≡ b.name) outcome t b (λ h. refl) (λ h. refl)
keeps_board (BoardEffect.End false outcome t) b = job_by (λ x. x.name ≡ b.name) outcome b (λ h. refl)

-- a change that changes nothing
same_rows : {R : Type 0} (test : R → Bool) (rows : List R) → rows ≡ change_where test (λ r. r) rows
same_rows test [] = refl
same_rows {R = R} test (r ∷ rows) = grind (arith, same_rows test rows)

-- a change that leaves the boards
pub jobs_alone : (F G : Farm) (test : JobRow → Bool) (f : JobRow → JobRow) → G ≡ record F { jobs = change_where test f F.jobs } → G ≡ change_jobs test f (λ b. b) F
jobs_alone F G test f is = is ∙ (λ i. record F { jobs = change_where test f F.jobs; boards = same_rows (λ (b : BoardRow). is_job_so F test b.holder) F.boards i })

-- each small board stays small
pub small_board : (e : BoardEffect) → IsSmallEffect e → (b : BoardRow) → IsSmallBoard b → IsSmallBoard (board_after e b)
small_board BoardEffect.Free low b s = record { held_by = omega arith; numbers = s.numbers }
small_board (BoardEffect.State state) low b s = record { held_by = s.held_by; numbers = s.numbers }
small_board (BoardEffect.Reserve holder) low b s = record { held_by = low; numbers = s.numbers }
small_board (BoardEffect.End true outcome t) low b s = check_by (λ x. IsSmallBoard (freed_board x)) outcome t b (λ h. record { held_by = omega arith; numbers = s.numbers }) (λ h. record { held_by = omega arith; numbers = (low, grind (arith, s.numbers.1)) })
small_board (BoardEffect.End false outcome t) low b s = job_by (λ x. IsSmallBoard (freed_board x)) outcome b (λ h. record { held_by = omega arith; numbers = (s.numbers.0, grind (arith, s.numbers.1)) })

pub keeps_boards : (e : BoardEffect) → IsSmallEffect e → KeepsKeys (λ (b : BoardRow). b.name) IsSmallBoard (board_after e)
keeps_boards e low = record { key = keeps_board e; fits = small_board e low }

pub reservations_alone : (F G : Farm) (test : ResRow → Bool) (f : ResRow → ResRow) → G ≡ record F { reservations = change_where test f F.reservations } → G ≡ change_res test f (λ b. b) F
reservations_alone F G test f is = is ∙ (λ i. record F { reservations = change_where test f F.reservations; boards = same_rows (λ (b : BoardRow). is_res_so F test b.holder) F.boards i })
