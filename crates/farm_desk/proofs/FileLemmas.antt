-- From a store that was opened to the farm of its files, and to the raised farm of them.
use Rattle.std.proofs.Common.{◌≡◌, sym, ap, subst, ◌∙◌, arith, ◌⊎◌, inl, inr, refl}
use Rattle.std.specs.Prelude.{Result, Ok, Err, IfErr, IfOk, MatchResult, ◌≤◌}
use Rattle.sqlite.specs.Effect.{Database}
use Rattle.sqlite.specs.Files.{file_state, over_files, HoldsDatabase}
use Rattle.sqlite.specs.Held.{Held, state}
use Rattle.sqlite.specs.Schema.{Schema}
use Rattle.sqlite.specs.State.{HasCleanDisk, IsLive, Opens}
use Rattle.sqlite.specs.Tree.{Trees}
use Rattle.sqlite_catalog.specs.Listing.{AreListed}
use Rattle.sqlite_disk.specs.declared.Disk.{Ghosts}
use Rattle.sqlite_store.specs.declared.store.FileStore.{FileStore}
use Rattle.sqlite_trees.specs.Objects.{catalog_tree}
use Rattle.sqlite_trees.specs.declared.store.Store as store
use Rattle.sqlite_wal.specs.Recovery.{Image}
use Rattle.farm_store.specs.Columns.{TableRows, rows_of, IsOfSchema, first_rows_of, second_schema}
use Rattle.farm_store.specs.Holds.{Holds, Stands}
use Rattle.farm_store.specs.Schema.{farm_schema, no_schema}
use Rattle.farm_store.proofs.Listed.{lists_one}
use Rattle.farm_keep.specs.Headline.{Adopts, GivesNoKeeper}
use Rattle.farm_keep.specs.KeeperState.{KeeperState, UnkeptState}
use Rattle.farm_keep.specs.declared.fault.KeepFault.{KeepFault}
use Rattle.farm_desk.specs.InFiles.{AreFarms, AreFree, DeniesFarm, FindsFarm, FindsTables, HoldsTables, IsFoundIn, ListFarm, ListNothing, MakesFarm}
use Rattle.farm_desk.specs.InFiles.{MakesTables, OpensTables, ShowsFiles, handed_on, AreFirst, DeniesUpgrade, FilesHoldEither, RaisesFarm, RaisesTables}
use Rattle.farm_serve.specs.declared.fault.DeskFault.{DeskFault}
use Rattle.sqlite_trees.specs.View.{doubt}
use Rattle.farm_types.specs.Names.{Farm}
use Rattle.farm_keep.specs.First.{IsSoundFirst}

-- ---- two facts of one result

pub both_err : {A E : Type 0} (r : Result A E) (P Q R : E → Type 0) → IfErr r P → IfErr r Q → ((e : E) → P e → Q e → R e) → IfErr r R
both_err (Ok a) P Q R p q f = tt
both_err (Err e) P Q R p q f = f e p q

pub both_match : {A E : Type 0} (r : Result A E) (C P Q : A → Type 0) (N M R : E → Type 0) → IfOk r C → IfErr r N → MatchResult r P M → ((a : A) → C a → P a → Q a) → ((e : E) → N e → M e → R e)
    → MatchResult r Q R
both_match (Ok a) C P Q N M R ok err h f g = f a ok h
both_match (Err e) C P Q N M R ok err h f g = g e err h

pub ok_err_match : {A E : Type 0} (r : Result A E) (P Q : A → Type 0) (M R : E → Type 0) → IfOk r P → IfErr r M → ((a : A) → P a → Q a) → ((e : E) → M e → R e) → MatchResult r Q R
ok_err_match (Ok a) P Q M R ok err f g = f a ok
ok_err_match (Err e) P Q M R ok err f g = g e err

-- what holds of what was made holds of it handed on, and what holds of each fault of why nothing was
pub handed_ok : {S A : Type 0} (made : Result A (UnkeptState S)) (result : Result A DeskFault) (P Q : A → Type 0) → result ≡ handed_on made → IfOk made P → ((a : A) → P a → Q a)
    → IfOk result Q
handed_ok (Ok a) result P Q is ok f = subst (λ (r : Result _ DeskFault). IfOk r Q) (sym is) (f a ok)
handed_ok (Err u) result P Q is ok f = subst (λ (r : Result _ DeskFault). IfOk r Q) (sym is) tt

pub handed_err : {S A : Type 0} (made : Result A (UnkeptState S)) (result : Result A DeskFault) (P : KeepFault → Type 0) (Q : DeskFault → Type 0) → result ≡ handed_on made
    → IfErr made (λ u. P u.fault) → ((fault : KeepFault) → P fault → Q (DeskFault.Keep fault)) → IfErr result Q
handed_err (Ok a) result P Q is err f = subst (λ (r : Result _ DeskFault). IfErr r Q) (sym is) tt
handed_err (Err u) result P Q is err f = subst (λ (r : Result _ DeskFault). IfErr r Q) (sym is) (f u.fault err)

-- ---- any store

-- a connection that was opened on tables represents them
abbrev pub IsStanding : {S : Type 0} → store.Ghosts S → Held S → Type 0
IsStanding {S} g conn = Opens (state g conn) → IsLive (state g conn) → (T : TableRows) → Holds (state g conn).committed.trees T → Stands (state g conn) T

pub stands_on : {S : Type 0} (g : store.Ghosts S) (conn : Held S) (T : TableRows) → IsStanding g conn → OpensTables g conn T → Stands (state g conn) T
stands_on g conn T standing on = standing on.opens on.live T on.holds

-- a keeper that was adopted has the farm that the connection was opened on
pub finds_tables : {S : Type 0} (g : store.Ghosts S) (conn : Held S) (k : KeeperState S) → IsStanding g conn → Adopts g conn k → FindsTables g conn k
finds_tables g conn k standing made = record {
  opened = made.opened;
  sound = made.sound;
  clean = made.clean;
  exact = λ clean F sound on. made.exact clean F sound (stands_on g conn (rows_of F) standing on);
  keeps = λ F on clean. made.stands clean (rows_of F) (stands_on g conn (rows_of F) standing on);
  ours = made.ours;
  rows = λ clean T on. sym (made.rows clean T (stands_on g conn T standing on));
}

-- a store of which no keeper is made was opened on no such tables
pub denies_tables : {S : Type 0} (g : store.Ghosts S) (conn : Held S) (fault : KeepFault) → IsStanding g conn → GivesNoKeeper (state g conn) fault
    → DeniesFarm (OpensTables g conn) (DeskFault.Keep fault)
denies_tables g conn KeepFault.BadStore standing denied = λ F sound on. denied F sound (stands_on g conn (rows_of F) standing on)
denies_tables g conn KeepFault.OldSchema standing denied = λ T on. denied T (stands_on g conn T standing on)
denies_tables g conn other standing denied = tt

-- where the tables are made, it was opened on none
pub makes_free : {S : Type 0} (g : store.Ghosts S) (conn : Held S) → IsStanding g conn → ((T : TableRows) → ¬ Stands (state g conn) T)
    → (T : TableRows) → ¬ OpensTables g conn T
makes_free g conn standing free T on = free T (stands_on g conn T standing on)

-- ---- over files

-- a connection that was just opened on files with these tables was opened on the tables
pub opens_tables : {D : Type 0} {g : Ghosts D} (image : Image) (conn : Held (FileStore D g)) (T : TableRows) → ShowsFiles image conn
    → HasCleanDisk (file_state conn) → HoldsTables image T → OpensTables over_files conn T
opens_tables image conn T shows clean held =
    let open_now = shows.opened clean in
    record {
      opens = open_now.0;
      live = open_now.1;
      holds = subst (λ (t : Trees). Holds t T) (sym ((shows.found clean).holds held.trees held.database)) held.holds;
    }

-- a connection that was just opened lists its schema
lists_shown : {D : Type 0} {g : Ghosts D} (image : Image) (conn : Held (FileStore D g)) (schema : Schema) → ShowsFiles image conn
    → HasCleanDisk (file_state conn) → (file_state conn).now.schema ≡ schema → AreListed ((file_state conn).committed.trees catalog_tree) schema
lists_shown image conn schema shows clean is =
    let open_now = shows.opened clean in
    let same : (file_state conn).committed.schema ≡ schema = ap (λ (d : Database). d.schema) (sym open_now.0.clean) ∙ is in
    subst (λ (s : Schema). AreListed ((file_state conn).committed.trees catalog_tree) s) same
    (open_now.1 open_now.0.is_open).1.lists.listed

-- a connection that was just opened shows the database that is found in its files
pub found_in : {D : Type 0} {g : Ghosts D} (image : Image) (conn : Held (FileStore D g)) → ShowsFiles image conn
    → HasCleanDisk (file_state conn) → IsFoundIn image (file_state conn).now
found_in image conn shows clean =
    let open_now = shows.opened clean in
    let sound = (open_now.1 open_now.0.is_open).1 in
    subst (λ (d : Database). IsFoundIn image d) (sym open_now.0.clean)
    (record {
      found = (shows.found clean).reads;
      ours = (shows.found clean).holds;
      sound = sound;
      only = λ schema listed.
          let db = (file_state conn).committed in
          lists_one (db.trees catalog_tree) schema db.schema listed sound.lists.listed;
    })

-- the files of a connection on which a farm was found hold that farm
pub are_farms : {D : Type 0} {g : Ghosts D} (image : Image) (conn : Held (FileStore D g)) (k : KeeperState (FileStore D g))
    → FindsTables over_files conn k → ShowsFiles image conn → HasCleanDisk (file_state k.conn) → AreFarms image k.farm.farm
are_farms image conn k made shows clean =
    let early : HasCleanDisk (file_state conn) = omega (arith, made.clean) in
    let listed = lists_shown image conn farm_schema shows early made.ours in
    record {
      found = ((file_state conn).committed.trees, (shows.found early).reads, listed);
      ours = λ trees database. subst (λ (t : Trees). ListFarm t) ((shows.found early).holds trees database) listed;
      rows = λ T held. made.rows clean T (opens_tables image conn T shows early held);
    }

-- a keeper that was adopted from a store that was opened has the farm of its files
pub finds_farm : {D : Type 0} {g : Ghosts D} (image : Image) (conn : Held (FileStore D g)) (k : KeeperState (FileStore D g))
    → FindsTables over_files conn k → ShowsFiles image conn → FindsFarm image k
finds_farm image conn k made shows = record {
  opened = made.opened;
  sound = made.sound;
  finds = λ clean F sound held.
      let early : HasCleanDisk (file_state conn) = omega (arith, made.clean) in
      let on = opens_tables image conn (rows_of F) shows early held in
      record { farm = made.exact clean F sound on; keeps = made.keeps F on };
  only = are_farms image conn k made shows;
}

-- files of whose store no keeper is made hold no such farm
pub denies_farm : {D : Type 0} {g : Ghosts D} (image : Image) (conn : Held (FileStore D g)) (fault : DeskFault)
    → HasCleanDisk (file_state conn) → DeniesFarm (OpensTables over_files conn) fault → ShowsFiles image conn → DeniesFarm (HoldsTables image) fault
denies_farm image conn (DeskFault.Keep KeepFault.BadStore) clean denied shows = λ F sound held.
    denied F sound (opens_tables image conn (rows_of F) shows clean held)
denies_farm image conn (DeskFault.Keep KeepFault.OldSchema) clean denied shows = λ T held.
    denied T (opens_tables image conn T shows clean held)
denies_farm image conn other clean denied shows = tt

-- the files of a connection that showed no table were free
are_free : {D : Type 0} {g : Ghosts D} (image : Image) (conn : Held (FileStore D g)) (k : KeeperState (FileStore D g))
    → MakesTables over_files conn k → ShowsFiles image conn → HasCleanDisk (file_state k.conn) → AreFree image
are_free image conn k made shows clean =
    let early : HasCleanDisk (file_state conn) = omega (arith, made.clean) in
    let listed = lists_shown image conn no_schema shows early made.bare in
    record {
      found = ((file_state conn).committed.trees, (shows.found early).reads, listed);
      free = λ trees database. subst (λ (t : Trees). ListNothing t) ((shows.found early).holds trees database) listed;
      tables = λ T held. made.free clean T (opens_tables image conn T shows early held);
    }

-- a keeper that was made in a store that was opened has the empty farm, and keeps it
pub makes_farm : {D : Type 0} {g : Ghosts D} (image : Image) (conn : Held (FileStore D g)) (k : KeeperState (FileStore D g))
    → MakesTables over_files conn k → ShowsFiles image conn → MakesFarm image k
makes_farm image conn k made shows = record {
  opened = made.opened;
  has = record { farm = made.farm; keeps = made.keeps };
  only = are_free image conn k made shows;
}

-- ---- a farm of the first edition

-- a connection that was opened and raised
pub raises_tables : {S : Type 0} (g : store.Ghosts S) (conn new : Held S) → IsStanding g conn
    → doubt (state g conn).is_clean ≤ doubt (state g new).is_clean
    → (HasCleanDisk (state g new) → (F : Farm) → IsSoundFirst F → Stands (state g conn) (first_rows_of F) → Stands (state g new) (rows_of F))
    → (HasCleanDisk (state g new) → (T : TableRows) → Stands (state g conn) T → AreFirst T)
    → RaisesTables g conn new
raises_tables g conn new standing quiet raised only = record {
  clean = quiet;
  raised = λ clean F sound on. raised clean F sound (stands_on g conn (first_rows_of F) standing on);
  only = λ clean T on. only clean T (stands_on g conn T standing on);
}

-- one that isn't raised was opened on no such tables
pub denies_raise : {S : Type 0} (g : store.Ghosts S) (conn : Held S) (fault : KeepFault) → IsStanding g conn
    → (fault ≡ KeepFault.BadStore → (F : Farm) → IsSoundFirst F → ¬ Stands (state g conn) (first_rows_of F))
    → (fault ≡ KeepFault.NewSchema → (T : TableRows) → Stands (state g conn) T → IsOfSchema second_schema T)
    → DeniesUpgrade (OpensTables g conn) (DeskFault.Keep fault)
denies_raise g conn KeepFault.BadStore standing bad newer = λ F sound on. bad refl F sound (stands_on g conn (first_rows_of F) standing on)
denies_raise g conn KeepFault.NewSchema standing bad newer = λ T on. newer refl T (stands_on g conn T standing on)
denies_raise g conn other standing bad newer = tt

-- a connection that was raised represents the farm of its files
pub raises_farm : {D : Type 0} {g : Ghosts D} (image : Image) (conn new : Held (FileStore D g))
    → RaisesTables over_files conn new → ShowsFiles image conn → RaisesFarm image new
raises_farm image conn new made shows = record {
  raised = λ clean F sound held.
      made.raised clean F sound (opens_tables image conn (first_rows_of F) shows (omega (arith, made.clean)) held);
  only = λ clean T held. made.only clean T (opens_tables image conn T shows (omega (arith, made.clean)) held);
}

-- files whose store isn't raised hold no such farm
pub denies_upgrade : {D : Type 0} {g : Ghosts D} (image : Image) (conn : Held (FileStore D g)) (fault : DeskFault)
    → HasCleanDisk (file_state conn) → DeniesUpgrade (OpensTables over_files conn) fault → ShowsFiles image conn → DeniesUpgrade (HoldsTables image) fault
denies_upgrade image conn (DeskFault.Keep KeepFault.BadStore) clean denied shows = λ F sound held.
    denied F sound (opens_tables image conn (first_rows_of F) shows clean held)
denies_upgrade image conn (DeskFault.Keep KeepFault.NewSchema) clean denied shows = λ T held.
    denied T (opens_tables image conn T shows clean held)
denies_upgrade image conn other clean denied shows = tt

pub either_held : (image : Image) (F : Farm) (db : Trees) → HoldsDatabase image db → Holds db (first_rows_of F) ⊎ Holds db (rows_of F)
    → FilesHoldEither image F
either_held image F db database (inl old) = inl (record { trees = db; database = database; holds = old })
either_held image F db database (inr new) = inr (record { trees = db; database = database; holds = new })
