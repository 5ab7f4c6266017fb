use Rattle.std.proofs.Common.{◌==◌}
use Rattle.farm_sound.proofs.Names.{bytes_eq}
use Rattle.farm_types.specs.Names.{board_cmp, job_cmp, res_cmp}
use Rattle.farm_sound.proofs.Add.{job_total, res_total}
use Rattle.farm_sound.proofs.Boards.{board_total}
use Rattle.farm_sound.proofs.Puts.{put_is_change, job_keeps, res_keeps, board_keeps, numbers_apart, names_apart}
use Rattle.farm_sound.proofs.laws.change_is_a_put.Goals as goal

pub returns-clause-job : goal.returns-clause-job
returns-clause-job c = λ F f n j keeps sorted there.
    put_is_change job_cmp job_total (λ k. k.number == n) f (job_keeps f keeps) (λ x y. numbers_apart n x.number y.number) j F.jobs sorted there

pub returns-clause-reservation : goal.returns-clause-reservation
returns-clause-reservation c = λ F f n r keeps sorted there.
    put_is_change res_cmp res_total (λ q. q.number == n) f (res_keeps f keeps) (λ x y. numbers_apart n x.number y.number) r F.reservations sorted there

pub returns-clause-board : goal.returns-clause-board
returns-clause-board c = λ F f name b keeps sorted there.
    put_is_change board_cmp board_total (λ d. bytes_eq d.name name) f (board_keeps f keeps) (λ x y. names_apart name x.name y.name) b F.boards sorted there
