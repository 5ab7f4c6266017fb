use Rattle.farm_store.specs.declared.edition.Edition.{Edition}
use Rattle.farm_store.proofs.OneFarm.{one_farm_in}
use Rattle.farm_store.proofs.laws.first_tables_lose_nothing.Goals as goal

pub returns : goal.returns
returns c = one_farm_in Edition.First
