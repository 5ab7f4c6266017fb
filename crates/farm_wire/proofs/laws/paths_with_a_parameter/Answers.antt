use Rattle.std.proofs.Common.{codes, refl}
use Rattle.matchit.specs.Route.{scan}
use Rattle.farm_wire.specs.Routes.{rows}
use Rattle.farm_wire.proofs.PathLaws.{between_route, board_fork, job_fork, job_route, reservation_fork}
use Rattle.farm_wire.proofs.laws.paths_with_a_parameter.Goals as goal

pub returns : goal.returns
unfolding rows scan
returns c = record {
  tags = λ b s small none. between_route (codes "/boards/") (codes "tags") _ b s none (board_fork b s small) refl;
  health = λ b s small none. between_route (codes "/boards/") (codes "health") _ b s none (board_fork b s small) refl;
  job = job_route;
  cancel = λ b s small none. between_route (codes "/jobs/") (codes "cancel") _ b s none (job_fork b s small) refl;
  start = λ b s small none. between_route (codes "/jobs/") (codes "start") _ b s none (job_fork b s small) refl;
  finish = λ b s small none. between_route (codes "/jobs/") (codes "finish") _ b s none (job_fork b s small) refl;
  acquire = λ b s small none. between_route (codes "/reservations/") (codes "acquire") _ b s none (reservation_fork b s small) refl;
  release = λ b s small none. between_route (codes "/reservations/") (codes "release") _ b s none (reservation_fork b s small) refl;
  refresh = λ b s small none. between_route (codes "/reservations/") (codes "refresh") _ b s none (reservation_fork b s small) refl;
  cancel_reservation = λ b s small none. between_route (codes "/reservations/") (codes "cancel") _ b s none (reservation_fork b s small) refl;
}
