use Rattle.std.proofs.Common.{subst}
use Rattle.sqlite.specs.Held.{state}
use Rattle.farm_keep.specs.First.{Migrates}
use Rattle.farm_keep.proofs.keeper.opening.upgrade.Goals as goal

pub returns-in-Ok-clause-raised : goal.returns-in-Ok-clause-raised
returns-in-Ok-clause-raised g c = subst (λ r. Migrates (state g.S.Store c.args.conn) (state g.S.Store c.migrate.new.conn) r) c.in-Ok.is c.migrate.ensures

pub returns-in-Err-clause-refused : goal.returns-in-Err-clause-refused
returns-in-Err-clause-refused g c = subst (λ r. Migrates (state g.S.Store c.args.conn) (state g.S.Store c.migrate.new.conn) r) c.in-Err.is c.migrate.ensures
