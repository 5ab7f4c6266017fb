-- The tables are made.
use Rattle.std.proofs.Common.{◌≡◌, ◌⊎◌, ℕ, List, [], ◌∷◌, true, false, Ok, is_ok, refl, sym, ap, subst, ◌∙◌}
use Rattle.sqlite.specs.Table.{Table}
use Rattle.farm_store.proofs.Names.{AreListed, boards_table, catalog_tree, command_of, CreateTable, Database, farm_schema, HasRun, IsDatabase, IsInside}
use Rattle.farm_store.proofs.Names.{IsPlain, jobs_table, kept_table, lacks_sequence, ListsRows, meta_table, no_rows, no_schema, of_meta, reservations_table}
use Rattle.farm_store.proofs.Names.{runs_as, statement_of, TableRows, TableSlot, Tally, Trees, types_table}
use Rattle.sqlite.specs.Schema.{Schema}
use Rattle.sqlite.specs.Compile.{table_defined_by}
use Rattle.sqlite.specs.Change.{created, next_tree, KeepsRows}
use Rattle.sqlite_tied.specs.Compute.{everything}
use Rattle.sqlite.specs.Listing.{understood}
use Rattle.sqlite.specs.State.{State, Writes, ExecutesIn}
use Rattle.farm_store.specs.declared.types.TheConstants.{MAKE as MAKE_TYPES}
use Rattle.farm_store.specs.declared.boards.TheConstants.{MAKE as MAKE_BOARDS}
use Rattle.farm_store.specs.declared.jobs.TheConstants.{MAKE as MAKE_JOBS}
use Rattle.farm_store.specs.declared.reservations.TheConstants.{MAKE as MAKE_RESERVATIONS}
use Rattle.farm_store.specs.declared.kept.TheConstants.{MAKE as MAKE_KEPT}
use Rattle.farm_store.specs.declared.meta.TheConstants.{MAKE as MAKE_META}
use Rattle.farm_store.proofs.PutAt.{of_types, of_boards, of_jobs, of_reservations, of_kept}
use Rattle.farm_store.proofs.Replace.{went, same_value}

pub record Makes (old new : State) (schema : Schema) (table : Table) : Type 0 where
  pub is : new.now.schema ≡ created schema table
  pub empty : new.now.trees (next_tree schema) ≡ []
  pub others : KeepsRows schema.tables old.now.trees new.now.trees
  pub sound : IsDatabase new.now

makes : (old new : State) (text : List ℕ) (s : Schema) (t : Table) → old.now.schema ≡ s → HasRun text old new → command_of (understood s text) ≡ CreateTable → statement_of text (understood s text) ≡ text → IsPlain (understood s text)
    → table_defined_by text ≡ Ok t → lacks_sequence (created s t) ≡ false → Makes old new s t
makes old new text s t has ran is whole plain defined no_sequence =
    let w = subst (λ u. Writes old new Rattle.std.proofs.Common.None CreateTable u [] ran.0) whole (runs_as text [] old new s has CreateTable is plain ran.0 ran.1) in
    let all = went w.changed in
    let first = went all.1 in
    let made = first.1 in
    let both : Ok made.table ≡ Ok t = sym made.defined ∙ defined in
    let same : made.table ≡ t = same_value both in
    let schema : first.0.schema ≡ created s t = made.is ∙ ap (λ u. created u made.table) has ∙ ap (created s) same in
    let none : lacks_sequence first.0.schema ≡ false = ap lacks_sequence schema ∙ no_sequence in
    let now : new.now ≡ first.0 = ap (λ (p : Tally × Database). p.1) (same_value all.2) ∙ same_value (rw none at first.2) in
    record {
      is = ap (λ (d : Database). d.schema) now ∙ schema;
      empty = ap (λ (d : Database). d.trees (next_tree s)) now ∙ subst (λ u. first.0.trees (next_tree u) ≡ []) has made.empty;
      others = subst (λ (d : Database). KeepsRows s.tables old.now.trees d.trees) (sym now) (subst (λ (u : Schema). KeepsRows u.tables old.now.trees first.0.trees) has made.others);
      sound = w.sound;
    }

none_at : (p : TableSlot) (db : Trees) → db p.tree ≡ [] → ListsRows p.cmp p.show p.width (db p.tree) []
none_at p db is = subst (λ raws. ListsRows p.cmp p.show p.width raws []) (sym is) (record { ordered = tt; keyed = tt; apart = tt; strict = tt; wide = tt; sound = λ r none. absurd none; complete = λ raw none. absurd none })

-- the six tables are made, and have no rows
pub makes_all : (a b c d e f h : State) → a.now.schema ≡ no_schema → HasRun MAKE_TYPES.now a b → HasRun MAKE_BOARDS.now b c → HasRun MAKE_JOBS.now c d → HasRun MAKE_RESERVATIONS.now d e → HasRun MAKE_KEPT.now e f → HasRun MAKE_META.now f h → IsInside h no_rows
unfolding understood everything
makes_all a b c d e f h has one two three four five six =
    let p = makes a b MAKE_TYPES.now no_schema types_table has one refl refl (refl, refl) refl refl in
    let q = makes b c MAKE_BOARDS.now _ boards_table p.is two refl refl (refl, refl) refl refl in
    let r = makes c d MAKE_JOBS.now _ jobs_table q.is three refl refl (refl, refl) refl refl in
    let s = makes d e MAKE_RESERVATIONS.now _ reservations_table r.is four refl refl (refl, refl) refl refl in
    let t = makes e f MAKE_KEPT.now _ kept_table s.is five refl refl (refl, refl) refl refl in
    let u = makes f h MAKE_META.now _ meta_table t.is six refl refl (refl, refl) refl refl in
    let types : h.now.trees 0 ≡ [] = u.others.0 ∙ t.others.0 ∙ s.others.0 ∙ r.others.0 ∙ q.others.0 ∙ p.empty in
    let boards : h.now.trees 2 ≡ [] = u.others.1.0 ∙ t.others.1.0 ∙ s.others.1.0 ∙ r.others.1.0 ∙ q.empty in
    let jobs : h.now.trees 4 ≡ [] = u.others.1.1.0 ∙ t.others.1.1.0 ∙ s.others.1.1.0 ∙ r.empty in
    let reservations : h.now.trees 5 ≡ [] = u.others.1.1.1.0 ∙ t.others.1.1.1.0 ∙ s.empty in
    let kept : h.now.trees 6 ≡ [] = u.others.1.1.1.1.0 ∙ t.empty in
    record {
      inside = six.4;
      shown = λ still_open. record {
        schema = u.is;
        holds = record {
          listed = subst (AreListed (h.now.trees catalog_tree)) u.is u.sound.lists.listed;
          types = none_at of_types h.now.trees types;
          boards = none_at of_boards h.now.trees boards;
          jobs = none_at of_jobs h.now.trees jobs;
          reservations = none_at of_reservations h.now.trees reservations;
          kept = none_at of_kept h.now.trees kept;
          meta = none_at of_meta h.now.trees u.empty;
        };
      };
    }

-- ---- where the tables are there already

taken : (old new : State) (text : List ℕ) (s : Schema) → is_ok (understood s text) ≡ false → old.now.schema ≡ s → HasRun text old new → ⊥
unfolding ExecutesIn
taken old new text s refused has ran =
    let known : Ok ran.1.0 ≡ understood s text = sym ran.1.1.is ∙ ap (λ u. understood u text) has in
    let no : true ≡ false = ap is_ok known ∙ refused in cc

-- the first table is not made over the farm's
pub tables_taken : (old new : State) (T : TableRows) → IsInside old T → HasRun MAKE_TYPES.now old new → ⊥
unfolding understood everything
tables_taken old new T at ran = taken old new MAKE_TYPES.now farm_schema refl (at.shown ran.2).schema ran
