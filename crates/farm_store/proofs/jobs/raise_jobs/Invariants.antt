use Rattle.farm_store.proofs.Names.{Edition, GoesOn, HasCleanDisk, IsInside, IsSmall, raised_below, state, TableRows, tables_with_jobs}
use Rattle.farm_store.proofs.jobs.raise_jobs.Given as goal

abbrev pub invariant-loop-at : goal.invariant-loop-at
invariant-loop-at g l = record {
  goes_on : GoesOn g.S.Store l.fn.tx l.tx;
  small : IsSmall l.from;
  raised : HasCleanDisk (state g.S.Store l.tx.conn.now) → (T : TableRows) → IsInside (state g.S.Store l.fn.tx.conn.now) (tables_with_jobs Edition.First l.rows T) → IsInside (state g.S.Store l.tx.conn.now) (raised_below l.from l.rows T);
}
