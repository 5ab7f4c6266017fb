use Rattle.farm_core.proofs.EditLemmas.{keeps_boards}
use Rattle.farm_core.proofs.tables.Tables.edit_reservation_and_board.Goals as goal

pub change_where-requires : goal.change_where-requires
change_where-requires c = keeps_boards c.args.effect c.requires.small
