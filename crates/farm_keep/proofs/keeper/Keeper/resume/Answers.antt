use Rattle.std.proofs.Common.{arith}
use Rattle.farm_keep.proofs.keeper.Keeper.resume.Goals as goal

pub returns-clause-resumed : goal.returns-clause-resumed
returns-clause-resumed g c = record { adopted = c.in_ok-keeper.keeper; adopts = c.in_ok-keeper.ensures.adopted; runs = c.run-end.ensures }

pub returns-clause-version : goal.returns-clause-version
returns-clause-version g c = λ clean. c.in_ok-keeper.ensures.version (omega (arith, c.run-end.ensures.clean, clean))
