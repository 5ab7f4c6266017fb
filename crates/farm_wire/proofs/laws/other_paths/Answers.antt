-- Computed.
use Rattle.std.proofs.Common.{refl}
use Rattle.matchit.proofs.OnLiterals.{matchit_on_literals}
use Rattle.farm_wire.specs.Routes.{rows}
use Rattle.farm_wire.proofs.laws.other_paths.Goals as goal

pub returns : goal.returns
unfolding rows matchit_on_literals
returns c = record { empty = refl; slash = refl; star = refl; root = refl; absolute = refl }
