use Rattle.farm_store.proofs.RowSelects.{schema_from_version, version_from_schema}
use Rattle.farm_store.proofs.laws.versions_agree.Goals as goal

pub returns-clause-may : goal.returns-clause-may
returns-clause-may c = schema_from_version

pub returns-clause-has : goal.returns-clause-has
returns-clause-has c = version_from_schema
