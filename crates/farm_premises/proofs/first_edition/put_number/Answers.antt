use Rattle.sqlite.specs.Held.{state}
use Rattle.farm_store.proofs.RowPuts.{puts_number}
use Rattle.farm_premises.proofs.first_edition.put_number.Goals as goal

pub returns-clause-put : goal.returns-clause-put
returns-clause-put g c clean T at =
    puts_number c.args.name.now c.args.value (state g.S.Store c.args.tx.now.conn.now) (state g.S.Store c.execute.new.self.conn.now) _ T at
    (rw (c.text.ensures, c.number.ensures) at (c.in_ok-execute.ensures.runs clean at.inside))
