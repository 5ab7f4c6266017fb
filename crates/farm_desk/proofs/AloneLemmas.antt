-- A farm that its file has alone: where the log is too short for a page, and where it was carried.
use Rattle.std.proofs.Common.{◌≡◌, ◌∙◌, ℕ, zero, suc, List, [], ◌∷◌, length, refl, sym, ap, subst, inl, inr, arith}
use Rattle.std.proofs.Math.Logic.{∥∥₁_map}
use Rattle.sqlite.proofs.Callers.{finds_again}
use Rattle.sqlite.specs.Closing.{IsCopied}
use Rattle.sqlite.specs.Effect.{Database}
use Rattle.sqlite.specs.Files.{file_state, image_of, over_files, HoldsDatabase}
use Rattle.sqlite.specs.Held.{Held}
use Rattle.sqlite.specs.State.{HasCleanDisk}
use Rattle.sqlite.specs.Tree.{Trees}
use Rattle.sqlite_disk.specs.declared.Disk.{Ghosts}
use Rattle.sqlite_pool.specs.Stored.{Adopts, stored_size}
use Rattle.sqlite_store.specs.declared.store.FileStore.{FileStore}
use Rattle.sqlite_wal.specs.Recovery.{Image, Pages, Recovers, Replays, pages_after}
use Rattle.farm_store.specs.Columns.{TableRows, rows_of}
use Rattle.farm_store.specs.Holds.{Holds}
use Rattle.farm_keep.specs.KeeperState.{KeeperState}
use Rattle.farm_types.specs.Names.{Farm}
use Rattle.farm_desk.specs.InFiles.{BeginsAlone, FindsFarm, FindsTables, HoldsFarm, IsCarried, IsShort, OpensTables, ShowsFiles, without_log}
use Rattle.farm_desk.proofs.FileLemmas.{are_farms, opens_tables}

-- ---- a log that is too short

no_frames : (size : ℕ) (log : List ℕ) (k : ℕ) → IsShort log → Replays size log k → k ≡ 0
no_frames size log k short (inl ignored) = ignored.1
no_frames size log zero short (inr it) = refl
no_frames size log (suc k) short (inr it) =
    let within = (it.0.valid 0 (omega arith)).within in
    absurd (omega (arith, within, short))

same_pages : (size : ℕ) (log db : List ℕ) → pages_after size [] db 0 ≡ pages_after size log db 0
unfolding pages_after
same_pages size log db = refl

recovers_alone : (size : ℕ) (image : Image) (pages : Pages) → IsShort image.log → Recovers size image pages → Recovers size (without_log image) pages
recovers_alone size image pages short it = record {
  frames = 0;
  replays = inl (inl (omega arith), refl);
  present = it.present;
  gives = same_pages size image.log image.db ∙ ap (pages_after size image.log image.db) (sym (no_frames size image.log it.frames short it.replays)) ∙ it.gives;
}

none_of : {A : Type 0} (xs : List A) → length xs ≡ 0 → xs ≡ []
none_of [] is = refl
none_of (x ∷ xs) is = absurd (omega arith)

adopts_alone : (size : ℕ) (image : Image) (pages : Pages) → IsShort image.log → Adopts size image pages → Adopts size (without_log image) pages
adopts_alone size image pages short it = record {
  stored = it.stored;
  found = recovers_alone (stored_size size) image it.stored short it.found;
  whole = it.whole;
  numbers = [];
  frames = (inl (inl (omega arith), refl), λ i low. absurd (omega arith));
  sealed = rw (none_of it.numbers (no_frames (stored_size size) image.log (length it.numbers) short it.frames.0)) at it.sealed;
  shows = it.shows;
}

holds_alone : (image : Image) (db : Trees) → IsShort image.log → HoldsDatabase image db → HoldsDatabase (without_log image) db
holds_alone image db short it =
    let held = it.2 in (
      it.0,
      it.1,
      record {
        pages = held.pages;
        wanted = held.wanted;
        schema = held.schema;
        found = adopts_alone it.0 image held.pages short held.found;
        ours = held.ours;
        reads = held.reads;
        sound = held.sound;
      },
    )

-- the farm of files whose log is too short for a page is in the file alone
pub begins_short : {D : Type 0} {g : Ghosts D} (image : Image) (conn : Held (FileStore D g)) (k : KeeperState (FileStore D g))
    → FindsTables over_files conn k → ShowsFiles image conn → (HasCleanDisk (file_state conn) → IsShort image.log) → BeginsAlone image k
begins_short image conn k made shows short = record {
  image = image;
  conn = conn;
  shows = shows;
  made = made;
  alone = λ clean F held.
      ∣ record {
        trees = held.trees;
        database = holds_alone image held.trees (short (omega (arith, made.clean, clean))) held.database;
        holds = held.holds;
      } ∣₁;
}

-- ---- a log that was carried into its file

module _ {D : Type 0} {g : Ghosts D} (image : Image) (conn new : Held (FileStore D g)) (k again : KeeperState (FileStore D g)) (made : FindsTables over_files conn k) (shows : ShowsFiles image conn)
    (carried : IsCarried k.conn new) (found : FindsTables over_files new again) where
  late : HasCleanDisk (file_state again.conn) → HasCleanDisk (file_state new)
  late clean = omega (arith, found.clean, clean)

  copied : HasCleanDisk (file_state again.conn) → IsCopied k.conn carried.files
  copied clean = carried.copied (carried.found (late clean)).honest

  early : HasCleanDisk (file_state again.conn) → HasCleanDisk (file_state conn)
  early clean = omega (arith, made.clean, (copied clean).was_clean)

  -- what was closed had the tables of a farm that the files held
  closed_holds : HasCleanDisk (file_state again.conn) → (F : Farm) → OpensTables over_files conn (rows_of F) → Holds (file_state k.conn).committed.trees (rows_of F)
  closed_holds clean F on =
      let stands = made.keeps F on (copied clean).was_clean in
      subst (λ (d : Database). Holds d.trees (rows_of F)) (stands.same (copied clean).was_open) (stands.shown (copied clean).was_open).holds

  -- and so has what was opened again
  opens_again : HasCleanDisk (file_state again.conn) → (F : Farm) → OpensTables over_files conn (rows_of F) → OpensTables over_files new (rows_of F)
  opens_again clean F on =
      let open_now = carried.opens (late clean) in
      let same = finds_again k.conn new carried.files carried.copied (carried.found (late clean)) in
      record {
        opens = open_now.0;
        live = open_now.1;
        holds = subst (λ (t : Trees). Holds t (rows_of F)) (sym same) (closed_holds clean F on);
      }

  pub finds_carried : FindsFarm image again
  finds_carried = record {
    opened = found.opened;
    sound = found.sound;
    finds = λ clean F sound held.
        let on = opens_again clean F (opens_tables image conn (rows_of F) shows (early clean) held) in
        record { farm = found.exact clean F sound on; keeps = found.keeps F on };
    only = λ clean.
        let first = are_farms image conn k made shows (copied clean).was_clean in
        record {
          found = first.found;
          ours = first.ours;
          rows = λ T held.
              let was : T ≡ rows_of k.farm.farm = first.rows T held in
              let on : OpensTables over_files conn (rows_of k.farm.farm) = subst (λ (R : TableRows). OpensTables over_files conn R) was (opens_tables image conn T shows (early clean) held) in
              was ∙ found.rows clean (rows_of k.farm.farm) (opens_again clean k.farm.farm on);
        };
  }

  -- the farm of files whose log was carried into the file is in the file alone
  pub begins_carried : BeginsAlone image again
  begins_carried = record {
    image = image_of g carried.files;
    conn = new;
    shows = record { opened = carried.opens; found = λ clean. record { holds = (carried.found clean).holds; reads = (carried.found clean).reads } };
    made = found;
    alone = λ clean F held.
        ∥∥₁_map (copied clean).seen.alone (λ database.
        let now : HoldsFarm (without_log (image_of g carried.files)) F = record {
          trees = (file_state k.conn).committed.trees;
          database = database;
          holds = closed_holds clean F (opens_tables image conn (rows_of F) shows (early clean) held);
        } in now);
  }
