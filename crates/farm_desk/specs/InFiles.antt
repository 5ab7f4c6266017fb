-- Which farm a file and the log beside it hold, and how one of the first edition comes to this one.
use Rattle.std.specs.Prelude.{◌≡◌, ◌≤◌, ◌<◌, ◌+◌, ℕ, Bool, IsTrue, true, List, [], length, take, Result, Ok, Err, ⊤, ◌⊎◌}
use Rattle.sqlite.specs.Closing.{IsCopied}
use Rattle.sqlite.specs.Effect.{Database, IsDatabase}
use Rattle.sqlite.specs.Files.{HoldsDatabase, over_files, file_state, AreFoundIn, Finds, IsOpened}
use Rattle.sqlite.specs.Held.{Held, state}
use Rattle.sqlite.specs.Start.{FindsIn}
use Rattle.sqlite.specs.State.{HasCleanDisk, IsLive, Opens}
use Rattle.sqlite.specs.Tree.{Trees}
use Rattle.sqlite_catalog.specs.Listing.{AreListed}
use Rattle.sqlite_disk.specs.declared.Disk.{Ghosts}
use Rattle.sqlite_disk.specs.declared.Files.{Files}
use Rattle.sqlite.specs.Schema.{Schema}
use Rattle.sqlite_store.specs.declared.store.FileStore.{FileStore}
use Rattle.sqlite_store.specs.FileStore as files
use Rattle.sqlite_trees.specs.View.{IsClean, doubt}
use Rattle.sqlite_trees.specs.Objects.{catalog_tree}
use Rattle.sqlite_trees.specs.declared.store.Store as store
use Rattle.sqlite_wal.specs.Reads.{AreClean}
use Rattle.sqlite_wal.specs.Recovery.{Image}
use Rattle.farm_store.specs.Columns.{IsOfSchema, TableRows, first_schema, rows_of, first_rows_of, second_schema}
use Rattle.farm_store.specs.Holds.{Holds, LeavesEither, Stands}
use Rattle.farm_store.specs.Schema.{farm_schema, no_schema}
use Rattle.farm_types.specs.Names.{empty_farm, Farm, IsSound, run}
use Rattle.farm_types.specs.declared.calls.Call.{Call}
use Rattle.farm_keep.specs.Faults.{IsFindFault, IsMigrateFault}
use Rattle.farm_keep.specs.Headline.{Runs}
use Rattle.farm_keep.specs.KeeperState.{KeeperState, KeepsOwnFarm, KeepsFarm, UnkeptState}
use Rattle.farm_keep.specs.Lives.{LeavesDone}
use Rattle.farm_keep.specs.declared.fault.KeepFault.{KeepFault}
use Rattle.farm_keep.specs.declared.keeper.run.RunEnd.{RunEnd}
use Rattle.farm_keep.specs.First.{IsSoundFirst}
use Rattle.farm_serve.specs.Connections.{AreServedInTurn, Connection}
use Rattle.farm_serve.specs.Imports.{IsImport}
use Rattle.farm_serve.specs.Stops.{Do, GivesImported}
use Rattle.farm_serve.specs.declared.fault.DeskFault.{DeskFault}
use Rattle.farm_serve.specs.declared.lab_import.ImportEnd.{ImportEnd}

-- ---- what the files hold

-- they hold a database with these tables
pub record HoldsTables (image : Image) (T : TableRows) : Type 0 where
  pub trees : Trees
  pub database : HoldsDatabase image trees
  pub holds : Holds trees T

-- with the farm's tables
abbrev pub HoldsFarm : Image → Farm → Type 0
HoldsFarm image F = HoldsTables image (rows_of F)

-- ---- the keeper over files that were opened

-- an open keeper has this farm, and its store keeps it
pub record HasFarm {D : Type 0} {g : Ghosts D} (k : KeeperState (FileStore D g)) (F : Farm)
    : Type 0 where
  pub farm : k.farm.farm ≡ F
  pub keeps : KeepsFarm over_files k F

-- the trees list the farm's six tables, and no other table, column, index or view
abbrev pub ListFarm : Trees → Type 0
ListFarm trees = AreListed (trees catalog_tree) farm_schema

-- the files are this farm's: what they recover to lists the farm's tables, so does whatever
-- database they hold, and they hold no other tables than those of this farm
pub record AreFarms (image : Image) (F : Farm) : Type 0 where
  pub found : (trees : Trees) × AreFoundIn image trees × ListFarm trees
  pub ours : (trees : Trees) → HoldsDatabase image trees → ListFarm trees
  pub rows : (T : TableRows) → HoldsTables image T → T ≡ rows_of F

-- where the files held a sound farm, an open keeper has that farm, and its store keeps it; and the
-- files held no other than the keeper's
pub record FindsFarm {D : Type 0} {g : Ghosts D} (image : Image) (k : KeeperState (FileStore D g))
    : Type 0 where
  pub opened : k.is_open ≡ true
  pub sound : IsSound k.farm.farm
  pub finds : HasCleanDisk (file_state k.conn) → (F : Farm) → IsSound F → HoldsFarm image F
      → HasFarm k F
  pub only : HasCleanDisk (file_state k.conn) → AreFarms image k.farm.farm

-- the trees list no table, and no index or view
abbrev pub ListNothing : Trees → Type 0
ListNothing trees = AreListed (trees catalog_tree) no_schema

-- the files were free: what they recover to lists no table, nor does whatever database they hold,
-- and they hold no farm's tables
pub record AreFree (image : Image) : Type 0 where
  pub found : (trees : Trees) × AreFoundIn image trees × ListNothing trees
  pub free : (trees : Trees) → HoldsDatabase image trees → ListNothing trees
  pub tables : (T : TableRows) → ¬ HoldsTables image T

-- an open keeper has the empty farm, its store keeps that, and the files were free
pub record MakesFarm {D : Type 0} {g : Ghosts D} (image : Image) (k : KeeperState (FileStore D g))
    : Type 0 where
  pub opened : k.is_open ≡ true
  pub has : HasFarm k empty_farm
  pub only : HasCleanDisk (file_state k.conn) → AreFree image

-- ---- why there is none

-- memory or the store failed, or the tables are those of no farm
abbrev pub IsOpenFault : DeskFault → Type 0
IsOpenFault (DeskFault.Keep fault) = IsFindFault fault
IsOpenFault fault = ⊥

-- where these tables are held, they are bad only if they are no sound farm's, and their schema is
-- old only if they are of the first edition
abbrev pub DeniesFarm : (TableRows → Type 0) → DeskFault → Type 0
DeniesFarm Are (DeskFault.Keep KeepFault.BadStore) = (F : Farm) → IsSound F → ¬ Are (rows_of F)
DeniesFarm Are (DeskFault.Keep KeepFault.OldSchema) = (T : TableRows) → Are T
    → IsOfSchema first_schema T
DeniesFarm Are other = ⊤

-- what was made of a connection, or the fault that came in its place
abbrev pub handed_on : {S A : Type 0} → Result A (UnkeptState S) → Result A DeskFault
handed_on (Ok made) = Ok made
handed_on (Err unkept) = Err (DeskFault.Keep unkept.fault)

-- ---- which version they have

-- an open finds this database in the files: its trees are what they recover to, and whatever
-- database they hold, and these list its schema and no other
pub record IsFoundIn (image : Image) (db : Database) : Type 0 where
  pub found : AreFoundIn image db.trees
  pub ours : (trees : Trees) → HoldsDatabase image trees → db.trees ≡ trees
  pub sound : IsDatabase db
  pub only : (schema : Schema) → AreListed (db.trees catalog_tree) schema → schema ≡ db.schema

-- a database is found in the files, and its version was looked at before anything else of it
abbrev pub LooksAtFiles : Image → (Database → Type 0) → Type 0
LooksAtFiles image Looks = (db : Database) × IsFoundIn image db × Looks db

-- ---- the same of any store

-- a connection that was just opened shows what the files held
pub record ShowsFiles {D : Type 0} {g : Ghosts D} (image : Image) (conn : Held (FileStore D g))
    : Type 0 where
  pub opened : HasCleanDisk (file_state conn) → IsOpened conn
  pub found : HasCleanDisk (file_state conn) → FindsIn image (file_state conn)

-- a connection was just opened on these tables
pub record OpensTables {S : Type 0} (g : store.Ghosts S) (conn : Held S) (T : TableRows)
    : Type 0 where
  pub opens : Opens (state g conn)
  pub live : IsLive (state g conn)
  pub holds : Holds (state g conn).committed.trees T

-- an open keeper was made from a connection: where that was just opened on the tables of a sound
-- farm, the keeper has that farm, and its store keeps it; and the connection had the farm's six
-- tables, with no other rows than the keeper's
pub record FindsTables {S : Type 0} (g : store.Ghosts S) (conn : Held S) (k : KeeperState S)
    : Type 0 where
  pub opened : k.is_open ≡ true
  pub sound : IsSound k.farm.farm
  pub clean : doubt (state g conn).is_clean ≤ doubt (state g k.conn).is_clean
  pub exact : HasCleanDisk (state g k.conn) → (F : Farm) → IsSound F
      → OpensTables g conn (rows_of F) → k.farm.farm ≡ F
  pub keeps : (F : Farm) → OpensTables g conn (rows_of F) → KeepsFarm g k F
  pub ours : (state g conn).now.schema ≡ farm_schema
  pub rows : HasCleanDisk (state g k.conn) → (T : TableRows) → OpensTables g conn T
      → T ≡ rows_of k.farm.farm

-- ---- the file alone

-- the file, beside which there is no log
abbrev pub without_log : Image → Image
without_log image = record image { log = [] }

-- a log that is too short to have a page: its own head has 32 bytes, and that of a page 24
abbrev pub IsShort : List ℕ → Type 0
IsShort log = length log < 32 + 24

-- what an open gives: a connection that shows what the files held, and whether their log was short
pub record OpensFiles {D : Type 0} {g : Ghosts D} (image : Image)
    (opened : Held (FileStore D g) × Bool) : Type 0 where
  pub shows : ShowsFiles image opened.0
  pub short : IsTrue opened.1 → HasCleanDisk (file_state opened.0) → IsShort image.log

-- a store was closed, which copied its log into its file, and the same files were opened again
pub record IsCarried {D : Type 0} {g : Ghosts D} (closed opened : Held (FileStore D g))
    : Type 0 where
  pub files : Files D
  pub copied : AreClean g files.log files.db → IsCopied closed files
  pub opens : HasCleanDisk (file_state opened) → IsOpened opened
  pub found : HasCleanDisk (file_state opened) → Finds files opened

-- a keeper was closed so, and this one was made over what was opened
pub record IsFoundAgain {D : Type 0} {g : Ghosts D} (closed k : KeeperState (FileStore D g))
    : Type 0 where
  pub conn : Held (FileStore D g)
  pub carried : IsCarried closed.conn conn
  pub made : FindsTables over_files conn k

-- files were opened with this image, and the keeper was made of what they held: a farm that the files
-- had held before any of this is in the one file alone, without the log
pub record BeginsAlone {D : Type 0} {g : Ghosts D} (before : Image)
    (k : KeeperState (FileStore D g)) : Type 0 where
  pub image : Image
  pub conn : Held (FileStore D g)
  pub shows : ShowsFiles image conn
  pub made : FindsTables over_files conn k
  pub alone : HasCleanDisk (file_state k.conn) → (F : Farm) → HoldsFarm before F
      → ∥ HoldsFarm (without_log image) F ∥₁

-- an open keeper has the empty farm, and its store keeps that; its connection showed no table at
-- all, and was opened on no farm's tables
pub record MakesTables {S : Type 0} (g : store.Ghosts S) (conn : Held S) (k : KeeperState S)
    : Type 0 where
  pub opened : k.is_open ≡ true
  pub farm : k.farm.farm ≡ empty_farm
  pub keeps : KeepsFarm g k empty_farm
  pub clean : doubt (state g conn).is_clean ≤ doubt (state g k.conn).is_clean
  pub bare : (state g conn).now.schema ≡ no_schema
  pub free : HasCleanDisk (state g k.conn) → (T : TableRows) → ¬ OpensTables g conn T

-- ---- after a stop

-- they hold the farm after so many of the calls as a stop after this run leaves done
pub record HoldsRun (image : Image) (F : Farm) (end : RunEnd) (calls : List Call) : Type 0 where
  pub done : ℕ
  pub counts : LeavesDone end done
  pub holds : HoldsFarm image (run F (take done calls))

-- what a stop leaves of the files of this store, which the keeper had: each holds the farm after
-- the calls that were done
abbrev pub LeavesFiles : {D : Type 0} {g : Ghosts D} → KeeperState (FileStore D g) → FileStore D g
    → Type 0
LeavesFiles k it =
    IsClean (files.view it) → (old : KeeperState _) (end : RunEnd) (calls : List Call)
    → KeepsOwnFarm over_files old → Runs over_files old k end calls
    → (image : Image) → (files.state it).may_leave image
    → ∥ HoldsRun image old.farm.farm end calls ∥₁

-- they hold the farm after the calls that these connections asked and did, with every call among
-- them that was answered
pub record HoldsServed (image : Image) (F : Farm) (connections : List Connection) : Type 0 where
  pub done : List Call
  pub does : Do F connections done
  pub holds : HoldsFarm image (run F done)

-- what a stop leaves of the files of this store, which the keeper had once connections were served:
-- each holds the farm after what they did
abbrev pub LeavesServedFiles : {D : Type 0} {g : Ghosts D} → Type 0 → KeeperState (FileStore D g)
    → FileStore D g → Type 0
LeavesServedFiles Sure k it =
    IsClean (files.view it) → (old : KeeperState _) (connections : List Connection)
    → KeepsOwnFarm over_files old → AreServedInTurn over_files Sure connections old k
    → (image : Image) → (files.state it).may_leave image
    → ∥ HoldsServed image old.farm.farm connections ∥₁

-- and once a lab file's text was imported: each holds the farm after the calls of it that were done
abbrev pub LeavesImportedFiles : {D : Type 0} {g : Ghosts D} → KeeperState (FileStore D g)
    → FileStore D g → Type 0
LeavesImportedFiles k it =
    IsClean (files.view it) → (old : KeeperState _) (text : List ℕ) (now : ℕ) (end : ImportEnd)
    → KeepsOwnFarm over_files old → IsImport over_files old k text now end
    → (image : Image) → (files.state it).may_leave image
    → ∥ GivesImported (HoldsFarm image) old.farm.farm text now end end.fault ∥₁

-- ---- the first edition's farm, brought to this edition

-- they hold the first edition's tables of this farm
abbrev pub HoldsFirst : Image → Farm → Type 0
HoldsFirst image F = HoldsTables image (first_rows_of F)

-- they hold the farm's tables, of the first edition or of this one
abbrev pub FilesHoldEither : Image → Farm → Type 0
FilesHoldEither image F = HoldsFirst image F ⊎ HoldsFarm image F

-- these tables are those of a sound farm in the first edition
abbrev pub AreFirst : TableRows → Type 0
AreFirst T = (F : Farm) × IsSoundFirst F × (T ≡ first_rows_of F)

-- where the files held a sound farm of the first edition, the store now represents its tables of
-- this edition; and the files held no other tables
pub record RaisesFarm {D : Type 0} {g : Ghosts D} (image : Image) (conn : Held (FileStore D g))
    : Type 0 where
  pub raised : HasCleanDisk (file_state conn) → (F : Farm) → IsSoundFirst F → HoldsFirst image F
      → Stands (file_state conn) (rows_of F)
  pub only : HasCleanDisk (file_state conn) → (T : TableRows) → HoldsTables image T → AreFirst T

-- memory or the store failed, or the tables are those of no farm of the first edition
abbrev pub IsUpgradeFault : DeskFault → Type 0
IsUpgradeFault (DeskFault.Keep fault) = IsMigrateFault fault
IsUpgradeFault fault = ⊥

-- where these tables are held, they are bad only if they are no sound farm's of the first edition,
-- and their schema is new only if they are of this one
abbrev pub DeniesUpgrade : (TableRows → Type 0) → DeskFault → Type 0
DeniesUpgrade Are (DeskFault.Keep KeepFault.BadStore) = (F : Farm) → IsSoundFirst F
    → ¬ Are (first_rows_of F)
DeniesUpgrade Are (DeskFault.Keep KeepFault.NewSchema) = (T : TableRows) → Are T
    → IsOfSchema second_schema T
DeniesUpgrade Are other = ⊤

-- a connection was made from one: where that was just opened on the first edition's tables of a
-- sound farm, it now represents its tables of this edition; and it was opened on no other tables
pub record RaisesTables {S : Type 0} (g : store.Ghosts S) (conn new : Held S) : Type 0 where
  pub clean : doubt (state g conn).is_clean ≤ doubt (state g new).is_clean
  pub raised : HasCleanDisk (state g new) → (F : Farm) → IsSoundFirst F
      → OpensTables g conn (first_rows_of F) → Stands (state g new) (rows_of F)
  pub only : HasCleanDisk (state g new) → (T : TableRows) → OpensTables g conn T → AreFirst T

-- what a stop leaves of the files of this store, which the connection had: where a stop may leave
-- no more of the connection than a farm's tables of either edition, each holds these
abbrev pub LeavesEitherFile : {D : Type 0} {g : Ghosts D} → Held (FileStore D g) → FileStore D g
    → Type 0
LeavesEitherFile conn it =
    IsClean (files.view it) → (F : Farm)
    → LeavesEither (file_state conn) (first_rows_of F) (rows_of F)
    → (image : Image) → (files.state it).may_leave image
    → ∥ FilesHoldEither image F ∥₁
