use Rattle.farm_store.proofs.RowSelects.{types_in}
use Rattle.farm_store.proofs.types.TypeRowStored.query.Goals as goal

pub returns : goal.returns
returns c = types_in c.args._edition
