-- The farm's schema, part by part.
use Rattle.std.proofs.Common.{refl, ◌≡◌, []}
use Rattle.std.specs.Fmt.{digits}
use Rattle.farm_store.specs.Schema.{farm_indexes, farm_schema}

pub schema_is : farm_schema ≡ record { tables = farm_schema.tables; indexes = farm_indexes; views = [] }
unfolding digits
schema_is = refl
