use Rattle.farm_store.proofs.RowSelects.{kept_in}
use Rattle.farm_store.proofs.kept.KeptRowStored.query.Goals as goal

pub returns : goal.returns
returns c = kept_in c.args._edition
