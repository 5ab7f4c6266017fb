use Rattle.farm_types.specs.Names.{board_cmp, job_cmp, res_cmp}
use Rattle.farm_sound.proofs.Add.{job_total, res_total}
use Rattle.farm_sound.proofs.Boards.{board_total}
use Rattle.farm_sound.proofs.Puts.{puts_are_change, job_keeps, res_keeps, board_keeps}
use Rattle.farm_sound.proofs.laws.changes_are_puts.Goals as goal

pub returns-clause-jobs : goal.returns-clause-jobs
returns-clause-jobs c = λ test f rows keeps sorted. puts_are_change job_cmp job_total test f (job_keeps f keeps) rows sorted

pub returns-clause-reservations : goal.returns-clause-reservations
returns-clause-reservations c = λ test f rows keeps sorted. puts_are_change res_cmp res_total test f (res_keeps f keeps) rows sorted

pub returns-clause-boards : goal.returns-clause-boards
returns-clause-boards c = λ test f rows keeps sorted. puts_are_change board_cmp board_total test f (board_keeps f keeps) rows sorted
