use Rattle.farm_store.proofs.RowSelects.{reservations_in}
use Rattle.farm_store.proofs.reservations.ResRowStored.query.Goals as goal

pub returns : goal.returns
returns c = reservations_in c.args._edition
