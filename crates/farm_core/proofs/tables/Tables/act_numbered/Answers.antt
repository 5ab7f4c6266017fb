use Rattle.farm_core.proofs.Small.{is_frequency_of, roles_of}
use Rattle.farm_core.proofs.tables.Tables.act_numbered.Goals as goal

pub add_type-requires : goal.add_type-requires
add_type-requires c = is_frequency_of c.args.call.now _ _ c.in-AddType.is

pub submit-requires-clause-roles : goal.submit-requires-clause-roles
submit-requires-clause-roles c = roles_of c.args.call.now _ _ _ _ c.in-Submit.is
