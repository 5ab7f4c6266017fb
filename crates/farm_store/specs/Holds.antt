-- What a store holds, and what a stop may leave of it.
use Rattle.std.specs.Prelude.{◌≡◌, ◌≤◌, ◌⊎◌, false, IsTrue}
use Rattle.sqlite.specs.Effect.{Database}
use Rattle.sqlite.specs.Tree.{Trees}
use Rattle.sqlite.specs.State.{State, HasCleanDisk}
use Rattle.sqlite_catalog.specs.Listing.{AreListed}
use Rattle.sqlite_trees.specs.Objects.{catalog_tree}
use Rattle.sqlite_trees.specs.View.{doubt}
use Rattle.farm_store.specs.Schema.{HasSixTables, TableColumns, farm_columns, schema_with}
use Rattle.farm_store.specs.Columns.{TableRows, rows_of}
use Rattle.farm_store.specs.Places.{HoldsAt, of_types_with, of_boards_with, of_jobs_with, of_reservations_with, of_kept_with, of_meta}
use Rattle.farm_types.specs.Names.{empty_farm, Farm}

-- the trees list a farm's six tables with these columns, and they have these rows
pub record HoldsWith (columns : TableColumns) (db : Trees) (T : TableRows) : Type 0 where
  pub listed : AreListed (db catalog_tree) (schema_with columns)
  pub types : HoldsAt (of_types_with columns.types) db T
  pub boards : HoldsAt (of_boards_with columns.boards) db T
  pub jobs : HoldsAt (of_jobs_with columns.jobs) db T
  pub reservations : HoldsAt (of_reservations_with columns.reservations) db T
  pub kept : HoldsAt (of_kept_with columns.kept) db T
  pub meta : HoldsAt of_meta db T

-- a database that is the farm's, with these tables
pub record ShowsTablesWith (columns : TableColumns) (db : Database) (T : TableRows) : Type 0 where
  pub schema : db.schema ≡ schema_with columns
  pub holds : HoldsWith columns db.trees T

-- no transaction is begun, the connection, while it is open, shows these tables as they were
-- committed, and a stop now leaves these alone
pub record StandsWith (columns : TableColumns) (s : State) (T : TableRows) : Type 0 where
  pub autocommit : s.in_transaction ≡ false
  pub same : IsTrue s.is_open → s.now ≡ s.committed
  pub shown : IsTrue s.is_open → ShowsTablesWith columns s.now T
  pub left : (db : Trees) → s.may_leave db → HoldsWith columns db T

-- the same of tables with this version's columns
abbrev pub Holds : Trees → TableRows → Type 0
Holds = HoldsWith farm_columns

abbrev pub ShowsTables : Database → TableRows → Type 0
ShowsTables = ShowsTablesWith farm_columns

abbrev pub Stands : State → TableRows → Type 0
Stands = StandsWith farm_columns

-- the connection sees a farm's six tables while it is open, whatever columns and rows they have
abbrev pub SeesSixTables : State → Type 0
SeesSixTables s = IsTrue s.is_open → HasSixTables s.now.schema

-- a transaction sees these tables, while it is open
pub record IsInside (s : State) (T : TableRows) : Type 0 where
  pub inside : IsTrue s.in_transaction
  pub shown : IsTrue s.is_open → ShowsTables s.now T

-- a stop now leaves the one or the other
abbrev pub LeavesEither : State → TableRows → TableRows → Type 0
LeavesEither s R T = (db : Trees) → s.may_leave db → Holds db R ⊎ Holds db T

-- a stop now leaves no more than a stop then
abbrev pub LeavesNoMore : State → State → Type 0
LeavesNoMore old new = (db : Trees) → new.may_leave db → old.may_leave db

-- once the disk has returned what was not written, that is not forgotten: a connection that is
-- clean now was clean then
abbrev pub KeepsDoubt : State → State → Type 0
KeepsDoubt old new = doubt old.is_clean ≤ doubt new.is_clean

-- what a call that only reads leaves, whatever comes of it: no transaction is begun, what stood
-- there stands, whatever its columns, and a stop leaves no more than before
pub record ReadsOnly (old new : State) : Type 0 where
  pub autocommit : new.in_transaction ≡ false
  pub clean : KeepsDoubt old new
  pub left : HasCleanDisk new → LeavesNoMore old new
  pub stands : HasCleanDisk new → (columns : TableColumns) (T : TableRows)
      → StandsWith columns old T → StandsWith columns new T

-- the connection stands for the farm, where its disk has returned what was written
abbrev pub StandsFor : State → Farm → Type 0
StandsFor s F = HasCleanDisk s → Stands s (rows_of F)

-- the store stood for no tables, and these are those of the empty farm
pub record IsMadeIn (s : State) (db : Trees) : Type 0 where
  pub free : (T : TableRows) → ¬ Stands s T
  pub made : Holds db (rows_of empty_farm)
