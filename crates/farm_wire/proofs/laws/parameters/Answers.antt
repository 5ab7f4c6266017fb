use Rattle.farm_wire.proofs.ParameterLemmas.{middle_parameter, last_parameter}
use Rattle.farm_wire.proofs.laws.parameters.Goals as goal

pub returns : goal.returns
returns c = record { middle = middle_parameter; last = last_parameter }
