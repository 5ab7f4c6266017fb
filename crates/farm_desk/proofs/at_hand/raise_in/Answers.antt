use Rattle.std.proofs.Common.{Err, ap}
use Rattle.std.proofs.lemmas.Result.{IfErr-weaker, IfOk-weaker}
use Rattle.farm_desk.proofs.FileLemmas.{ok_err_match, denies_raise, raises_tables}
use Rattle.farm_desk.proofs.at_hand.raise_in.Goals as goal

pub returns-clause-raised : goal.returns-clause-raised
returns-clause-raised g c =
    IfOk-weaker c.upgrade.result _ _ (λ new it. raises_tables g.S.Store c.args.conn new c.opened_stands.ensures it.clean it.ok it.only) c.upgrade.ensures.raised

pub returns-clause-denied : goal.returns-clause-denied
returns-clause-denied g c =
    IfErr-weaker c.upgrade.result _ _ (λ u it clean. denies_raise g.S.Store c.args.conn u.fault c.opened_stands.ensures (λ same. it.bad clean (ap Err same)) (λ same. it.newer clean (ap Err same))) c.upgrade.ensures.refused

pub returns-clause-version : goal.returns-clause-version
returns-clause-version g c =
    ok_err_match c.upgrade.result _ _ _ _ c.upgrade.ensures.raised c.upgrade.ensures.refused (λ new it clean. it.version clean) (λ u it clean. it.version clean)

pub returns-clause-clean : goal.returns-clause-clean
returns-clause-clean g c = IfErr-weaker c.upgrade.result _ _ (λ u it. it.clean) c.upgrade.ensures.refused

pub returns-clause-fault : goal.returns-clause-fault
returns-clause-fault g c = IfErr-weaker c.upgrade.result _ _ (λ u it. it.fault) c.upgrade.ensures.refused
