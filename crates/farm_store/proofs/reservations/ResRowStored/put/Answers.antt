use Rattle.sqlite.specs.Held.{state}
use Rattle.farm_store.proofs.Executed.{on_executed}
use Rattle.farm_store.proofs.RowPuts.{puts_reservation}
use Rattle.farm_store.proofs.reservations.ResRowStored.put.Goals as goal

pub returns-clause-put : goal.returns-clause-put
returns-clause-put g c clean =
    on_executed _ _ (state g.S.Store c.args.tx.now.conn.now) (state g.S.Store c.execute.new.self.conn.now) c.execute.result (c.execute.ensures.runs clean)
    (λ count ran T at. puts_reservation c.args.self.now _ _ count T at (rw c.res_columns.ensures at (ran at.inside)))
