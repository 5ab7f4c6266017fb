use Rattle.sqlite.specs.Held.{state}
use Rattle.farm_store.proofs.ChangeMeta.{changes_numbers}
use Rattle.farm_store.proofs.meta.change_numbers.Goals as goal

pub returns-clause-put : goal.returns-clause-put
returns-clause-put g c clean T old at is =
    changes_numbers (state g.S.Store c.args.tx.now.conn.now) (state g.S.Store c.execute.new.self.conn.now) c.args.numbers old _ T at is
    (rw (c.number.ensures, c.number-2.ensures, c.number-3.ensures, c.number-4.ensures) at (c.in_ok-execute.ensures.runs clean at.inside))
