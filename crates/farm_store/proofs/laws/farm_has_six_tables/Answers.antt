use Rattle.std.proofs.Common.{refl}
use Rattle.farm_store.specs.Schema.{meta_table}
use Rattle.farm_store.proofs.laws.farm_has_six_tables.Goals as goal

pub returns : goal.returns
returns c columns = (columns.types, columns.boards, columns.jobs, columns.reservations, columns.kept, meta_table.columns, refl)
