use Rattle.std.proofs.lemmas.Result.{IfErr-weaker, IfOk-weaker}
use Rattle.farm_desk.proofs.FileLemmas.{denies_tables, finds_tables}
use Rattle.farm_desk.proofs.at_hand.find_in.Goals as goal

pub returns-clause-found : goal.returns-clause-found
returns-clause-found g c =
    IfOk-weaker c.adopt.result _ _ (λ k made. finds_tables g.S.Store c.args.conn k c.opened_stands.ensures made) c.adopt.ensures.adopted

pub returns-clause-denied : goal.returns-clause-denied
returns-clause-denied g c =
    IfErr-weaker c.adopt.result _ _ (λ u denied clean. denies_tables g.S.Store c.args.conn u.fault c.opened_stands.ensures (denied clean)) c.adopt.ensures.denied
