use Rattle.farm_store.proofs.RowSelects.{boards_in}
use Rattle.farm_store.proofs.boards.BoardRowStored.query.Goals as goal

pub returns : goal.returns
returns c = boards_in c.args._edition
