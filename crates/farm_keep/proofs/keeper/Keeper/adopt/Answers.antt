use Rattle.std.proofs.Common.{refl, subst}
use Rattle.std.specs.Result.{result_err}
use Rattle.sqlite.specs.Held.{state}
use Rattle.farm_keep.specs.Found.{LooksForFarm}
use Rattle.farm_keep.proofs.LifeLemmas.{denies}
use Rattle.farm_keep.proofs.keeper.Keeper.adopt.Goals as goal

pub returns-in-Ok-clause-adopted : goal.returns-in-Ok-clause-adopted
returns-in-Ok-clause-adopted g c = record {
  opened = refl;
  sound = c.in-Ok.ensures.working.1;
  clean = c.found.ensures.only.clean;
  ours = c.in-Ok.ensures.ours;
  left = c.found.ensures.only.left;
  stands = λ clean. c.found.ensures.only.stands clean _;
  rows = λ clean. (c.in-Ok.ensures.finds clean).rows;
  exact = λ clean. (c.in-Ok.ensures.finds clean).exact;
}

pub returns-in-Err-clause-denied : goal.returns-in-Err-clause-denied
returns-in-Err-clause-denied g c = λ clean.
    denies (state g.S.Store c.args.conn) c.in-Err.fault c.found.result c.in-Err.is (c.found.ensures.finds clean)

pub returns-in-Ok-clause-version : goal.returns-in-Ok-clause-version
returns-in-Ok-clause-version g c = λ clean.
    subst (λ r. LooksForFarm (result_err r) (state g.S.Store c.args.conn).now) c.in-Ok.is (c.found.ensures.finds clean).version

pub returns-in-Err-clause-version : goal.returns-in-Err-clause-version
returns-in-Err-clause-version g c = λ clean.
    subst (λ r. LooksForFarm (result_err r) (state g.S.Store c.args.conn).now) c.in-Err.is (c.found.ensures.finds clean).version
