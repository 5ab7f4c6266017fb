use Rattle.farm_types.specs.Names.{board_cmp, job_cmp, kept_cmp, res_cmp, type_cmp}
use Rattle.farm_sound.proofs.Add.{job_total, res_total}
use Rattle.farm_sound.proofs.Boards.{type_total, board_total}
use Rattle.farm_sound.proofs.Commute.{puts_commute}
use Rattle.farm_sound.proofs.Numbers.{kept_total}
use Rattle.farm_sound.proofs.laws.puts_commute.Goals as goal

pub returns-clause-types : goal.returns-clause-types
returns-clause-types c = λ rows a b apart. puts_commute type_cmp type_total a b apart rows

pub returns-clause-boards : goal.returns-clause-boards
returns-clause-boards c = λ rows a b apart. puts_commute board_cmp board_total a b apart rows

pub returns-clause-jobs : goal.returns-clause-jobs
returns-clause-jobs c = λ rows a b apart. puts_commute job_cmp job_total a b apart rows

pub returns-clause-reservations : goal.returns-clause-reservations
returns-clause-reservations c = λ rows a b apart. puts_commute res_cmp res_total a b apart rows

pub returns-clause-kept : goal.returns-clause-kept
returns-clause-kept c = λ rows a b apart. puts_commute kept_cmp kept_total a b apart rows
