use Rattle.std.proofs.Common.{◌≡◌, [], List, ℕ}
use Rattle.sqlite.specs.Given.{HasGiven}
use Rattle.farm_store.proofs.Names.{AsksFor, HasCleanDisk, IsUnchanged, ReadsOnly, Row, state, table_columns_in}
use Rattle.farm_store.proofs.ReadRows.{SoFar}
use Rattle.farm_store.proofs.queries.rows.read.Given as goal

abbrev pub invariant-rows : goal.invariant-rows
invariant-rows g l =
    let old = state g.S.Store l.fn.conn in
    let now = state g.S.Store l.rows.conn.now in
    record {
      same_reference : l.rows.conn.ghost_name ≡ l.initial.rows.conn.ghost_name;
      only : ReadsOnly old now;
      given : HasCleanDisk now → IsUnchanged old now
          × ((text : List ℕ) × AsksFor (table_columns_in l.fn.edition) (g.R.Stored.place l.fn.edition) text
          × ((given : List Row) × HasGiven g.S.Store text [] l.rows.conn.now given × SoFar (g.R.Stored.IsGood l.fn.edition) (g.R.Stored.columns l.fn.edition) (g.R.Stored.place l.fn.edition).width given l.all.items));
      edition : l.reader.edition ≡ l.fn.edition;
    }
