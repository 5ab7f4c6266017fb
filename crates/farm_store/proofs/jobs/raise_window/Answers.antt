use Rattle.sqlite.specs.Held.{state}
use Rattle.farm_store.proofs.RaisesJobs.{raises_window}
use Rattle.farm_store.proofs.jobs.raise_window.Goals as goal

pub returns-clause-raised : goal.returns-clause-raised
returns-clause-raised g c clean T jobs at =
    raises_window (state g.S.Store c.args.tx.now.conn.now) (state g.S.Store c.execute.new.self.conn.now) _ c.args.from c.args.end _ T jobs c.bounds.ensures c.requires.in_order at (c.in_ok-execute.ensures.runs clean at.inside)
