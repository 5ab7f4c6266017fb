use Rattle.std.proofs.Common.{take, map}
use Rattle.farm_store.proofs.Names.{Edition, GoesOn, HasCleanDisk, IsInside, put_at, state, TableRows, untagged}
use Rattle.farm_store.proofs.upserts.put_rows.Given as goal

abbrev pub invariant-loop-tagged : goal.invariant-loop-tagged
invariant-loop-tagged g l = record {
  goes_on : GoesOn g.S.Store l.fn.tx l.tx;
  put : HasCleanDisk (state g.S.Store l.tx.conn.now) → (T : TableRows) → IsInside (state g.S.Store l.fn.tx.conn.now) T → IsInside (state g.S.Store l.tx.conn.now) (put_at (g.R.Stored.place Edition.Second) T (map (g.R.Stored.columns Edition.Second) (take l.tagged-index (untagged l.rows))));
}
