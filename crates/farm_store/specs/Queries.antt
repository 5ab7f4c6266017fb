-- What a query of a whole table shows.
use Rattle.std.specs.Prelude.{◌≡◌, false, List, [], ◌++◌, ℕ, None, Ok}
use Rattle.std.specs.List.{AllByRecursion}
use Rattle.sqlite.specs.Effect.{Database, Reads, ReadsFirst}
use Rattle.sqlite.specs.Listing.{understood, reads_listing}
use Rattle.sqlite.specs.Order.{Row}
use Rattle.sqlite.specs.Schema.{Schema}
use Rattle.sqlite_resolve.specs.declared.compiled.Compiled.{Compiled}
use Rattle.farm_store.specs.Columns.{TableRows}
use Rattle.farm_store.specs.Holds.{ShowsTablesWith}
use Rattle.farm_store.specs.Places.{TableSlot}
use Rattle.farm_store.specs.Schema.{TableColumns}
use Rattle.farm_store.specs.Stored.{IsWide}

-- the query shows these rows of the database
pub record ReturnsRows (text : List ℕ) (db : Database) (rows : List Row) : Type 0 where
  pub query : Compiled
  pub is : understood db.schema text ≡ Ok query
  pub reads : Reads query.command db [] rows

-- what it shows begins with these rows
pub record ReturnsFirstRows (text : List ℕ) (db : Database) (rows : List Row) : Type 0 where
  pub query : Compiled
  pub is : understood db.schema text ≡ Ok query
  pub reads : ReadsFirst query.command db [] rows

-- whatever the schema is, the query reads its own tables, writes nothing and asks for no time
abbrev pub OnlyReads : List ℕ → Type 0
OnlyReads text = (schema : Schema) (c : Compiled) → understood schema text ≡ Ok c
    → (reads_listing schema text ≡ false) × (c.returning ≡ None) × (c.formats ≡ [])

-- of a farm's tables with these columns the query shows all rows at this place, in order of their
-- keys
pub record AsksFor (columns : TableColumns) (p : TableSlot) (text : List ℕ) : Type 0 where
  pub only_reads : OnlyReads text
  pub all : (db : Database) (T : TableRows) (rows : List Row) → ShowsTablesWith columns db T
      → ReturnsRows text db rows → rows ≡ p.rows T
  pub first : (db : Database) (T : TableRows) (rows : List Row) → ShowsTablesWith columns db T
      → ReturnsFirstRows text db rows → (more : List Row) × (p.rows T ≡ rows ++ more)
  pub wide : (db : Database) (T : TableRows) → ShowsTablesWith columns db T
      → AllByRecursion (IsWide p.width) (p.rows T)
