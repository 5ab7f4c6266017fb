-- What INSERT of one row makes of the tables; and with ON CONFLICT, in a table that is keyed by its first column, a text: the row is written over the one that has the key, or is new.
use native.Mathlib.Omega.{arith}
use Rattle.std.proofs.Common.{[], ◌≡◌, inl, inr, ℕ, ℤ, List, ◌∷◌, ◌++◌, false, length, ◌/◌, slice_get, Option, Some, None, Ok, sym, ap, subst, ◌∙◌, refl, ◌||◌}
use Rattle.std.proofs.Common.{true, ap₂, is_eq, Equal}
use Rattle.farm_store.proofs.Names.{Abort, agree, all_has, AreConflicts, AreListed, AtPlace, by_first, cases_Bool, cast_row, catalog_tree, Chosen, Column}
use Rattle.farm_store.proofs.Names.{command_of, conflicts, Database, Does, farm_schema, Given, Has, HasInt, HoldsAt, ids_of, InsertOr, int_is, is_int, IsInside}
use Rattle.farm_store.proofs.Names.{IsPlain, IsWide, Keys, ListsRows, next_rowid, one_step, OnRows, Order, overlay, plain, put, put_at, Row, row_less_rowid}
use Rattle.farm_store.proofs.Names.{rowid, runs_as, statement_of, strict_table, TableRows, TableSlot, Tally, Term, tied_back, tied_same, Trees, Upsert, Value}
use Rattle.farm_store.proofs.Names.{value_rows, works}
use Rattle.sqlite.specs.Table.{Table}
use Rattle.sqlite.specs.Source.TheVariants.{Values}
use Rattle.sqlite.specs.Listing.{understood}
use Rattle.sqlite.specs.Edit.{with_rowid, edit_of, are_fresh, without_all, put_all, id_in, taken_by}
use Rattle.sqlite.specs.Rows.{Task, Written, Upserts, Judged, Tries, TriesEach, InsertsOr, count_of, mended, nothing, passes_over, Then, Gives, Edited, shown}
use Rattle.sqlite.specs.Rows.{Updates, Puts, Meets}
use Rattle.sqlite.specs.State.{State, mode_of, ExecutesInside}
use Rattle.sqlite.specs.declared.run.Mode.{Mode}
use Rattle.sqlite_schema.specs.declared.command.Conflict.{Conflict}
use Rattle.sqlite_rules.specs.declared.error.Refusal.{Refusal}
use Rattle.farm_store.proofs.PutAt.{IsKnown, stands_rewritten}
use Rattle.farm_store.proofs.Replace.{TableBecomes, went, same_value, eq_is, apart_same, cast_int, from_put, clears}
use Rattle.sqlite.specs.declared.types.Value.TheVariants.{Null, Int, Text}
use Rattle.sqlite_sql.specs.Term.{eval_all}
use Rattle.sqlite_value.specs.Order.{column, value_cmp}
use Rattle.farm_store.proofs.Sorted.{tie_same}
use Rattle.farm_store.proofs.Keys.{first_total, by_next, or_false, agree_one, agree_next}
use Rattle.farm_store.proofs.Stays.{all_fit, all_stay}
use Rattle.farm_store.proofs.Clause.{is_text, query, clause, rowid_alone, others_fail, itself_passes, shows_one}

abbrev pub task_of : Option ℕ → Mode → Table → Row → Task
task_of limit mode table params = record { limit = limit; keys = mode.keys; schema = farm_schema; table = table; params = params }

module _ (p : TableSlot) (known : IsKnown p) (name : List ℕ) (columns : List Column) (key : Option ℕ) (primary : List ℕ) (uniques : List (List ℕ)) (orders : List Order) (way : Conflict) (clauses : List Upsert) (strict : (why : Refusal) → passes_over way why ≡ false) where
  abbrev table : Table
  table = strict_table name p.tree columns key primary uniques orders

  -- what becomes of the row says what becomes of the trees
  module _ (limit : Option ℕ) (mode : Mode) (params : Row) (db : Trees) (new : Row) (Makes : Trees → Type 0) (judge : (w : Written) → Upserts (task_of limit mode table params) way new db clauses (Ok w) → Makes w.trees) where
    abbrev task : Task
    task = task_of limit mode table params

    judged : (verdict : Option Refusal) (w : Written) → Judged task way clauses new db verdict (Ok w) → Makes w.trees
    judged None w h = judge w h
    judged (Some why) w h = absurd (let e = rw (strict why) at h in cc)

    tried : (w : Written) → Tries task way clauses new db (Ok w) → Makes w.trees
    tried w (inl h) = absurd (let e = h.1 in cc)
    tried w (inr h) = judged h.0 w h.2

    inserted : (terms : List Term) (width : ℕ) (source : Row) → value_rows (params ++ []) width (length terms / width) terms ≡ source ∷ [] → with_rowid Chosen (db p.tree) (cast_row table (mended way table source)) ≡ new
        → (w : Written) → InsertsOr task way clauses (Values terms width) db (Ok w) → Makes w.trees
    inserted terms width source source_is new_is w h =
        let sourced = went h in
        let counted = went sourced.2 in
        let each = went counted.2 in
        let settled = went each.2 in
        let trees : w.trees ≡ each.0.0.trees = ap (λ (it : Written). it.trees) (same_value settled.2) ∙ same_value settled.1 in
        let one = went (subst (λ rows. TriesEach task way clauses rows (count_of counted.0) (nothing db) (Ok each.0)) (sourced.1.1 ∙ source_is) each.1) in
        let last : each.0.0.trees ≡ one.0.trees = ap (λ (it : Written × ℤ). it.0.trees) (same_value one.2) in
        subst (λ (t : Trees). Makes t) (sym (trees ∙ last)) (tried one.0 (subst (λ n. Tries task way clauses n db (Ok one.0)) new_is one.1))

  -- the statement puts one row at the place
  pub inserts : (at : ℕ) (text : List ℕ) (terms : List Term) (wide : ℕ) → slice_get farm_schema.tables at ≡ Some table → command_of (understood farm_schema text) ≡ InsertOr at way (Values terms wide) clauses → IsPlain (understood farm_schema text)
      → (old new : State) (x source row : Row) → value_rows (x ++ []) wide (length terms / wide) terms ≡ source ∷ [] → with_rowid Chosen (old.now.trees p.tree) (cast_row table (mended way table source)) ≡ row
      → (count : ℕ) (T : TableRows) → IsInside old T → ExecutesInside 0 text x old new (Ok count)
      → (HoldsAt p old.now.trees T → (w : Written) → Upserts (task_of old.step_limit (mode_of old) table x) way row old.now.trees clauses (Ok w) → TableBecomes p.cmp p.show p.width p.tree old.now.trees (put p.cmp (p.rows T) x) w.trees)
      → IsInside new (put_at p T (x ∷ []))
  inserts at text terms wide there is plain old new x source row source_is row_is count T inside ran judge =
      let see = inside.shown ran.1.was_open in
      let db = old.now.trees in
      let mode = mode_of old in
      let rows = put p.cmp (p.rows T) x in
      let command = InsertOr at way (Values terms wide) clauses in
      let run = runs_as text x old new farm_schema see.schema command is plain count ran.0 in
      let sql = statement_of text (understood farm_schema text) in
      let changed = subst (λ s. Does old.step_limit mode x (record old.now { schema = s }) sql None command (Ok (run.tally, new.now))) see.schema run.changed in
      let done = went (subst (λ o. AtPlace {X = Table} (λ t. OnRows (task_of old.step_limit mode t x) mode None command db) o (Ok (run.tally, new.now))) there changed) in
      let tested = went done.2 in
      let showed = went tested.2 in
      let now = ap (λ (p : Tally × Database). p.1) (same_value showed.2) in
      let schema = ap (λ (d : Database). d.schema) now in
      let made = inserted old.step_limit mode x db row (TableBecomes p.cmp p.show p.width p.tree db rows) (judge (known.find db T see.holds)) terms wide source source_is row_is done.0 done.1 in
      let becomes = subst (λ (t : Trees). TableBecomes p.cmp p.show p.width p.tree db rows t) (sym (ap (λ (d : Database). d.trees) now)) made in
      stands_rewritten p known old new T rows (record {
        schema = schema;
        listed = subst (AreListed (new.now.trees catalog_tree)) schema run.sound.lists.listed;
        others = becomes.others;
        lists = becomes.lists;
      }) see ran.1.mode

-- the first column behind the rowid
second : (r : Row) → column r 1 ≡ column (row_less_rowid r) 0
second [] = refl
second (v ∷ rest) = refl

module _ (name : List ℕ) (tree : ℕ) (columns : List Column) (width : ℕ) (project : List Term) (still : (keys : Keys) (olds news : List Row) → works farm_schema keys 0 tree olds news ≡ [])
    (alone : (db : Trees) → overlay db [] tree ≡ db tree) where
  abbrev pub keyed_table : Table
  keyed_table = strict_table name tree columns None (1 ∷ []) ((1 ∷ []) ∷ []) (record { digits = 0 } ∷ [])

  abbrev pub the_clause : Upsert
  the_clause = clause (1 ∷ []) tree (rowid_alone width) project

  module _ (any_is : (raw new : Row) → conflicts None farm_schema.indexes keyed_table new raw ≡ (agree plain (0 ∷ []) raw (0 ∷ []) new || (agree plain (1 ∷ []) raw (1 ∷ []) new || false)))
      (key_is : (raw new : Row) → conflicts (Some (1 ∷ [])) farm_schema.indexes keyed_table new raw ≡ (agree plain (1 ∷ []) raw (1 ∷ []) new || false))
      (mode : Mode) (limit : Option ℕ) (db : Trees) (rows : List Row) (it : ListsRows by_first row_less_rowid width (db tree) rows) (key : List ℕ) (rest : Row) (wide : IsWide width (Text key ∷ rest))
      (fit : all_fit columns (Text key ∷ rest) ≡ true) where
    abbrev pub x : Row
    x = Text key ∷ rest

    abbrev pub new : Row
    new = Int (next_rowid (db tree)) ∷ x

    -- the row that is given to the clause's query, beside one that is there
    abbrev pub given : Row → Row
    given r = x ++ rowid r ∷ shown keyed_table new

    abbrev pub the_task : Task
    the_task = task_of limit mode keyed_table x

    -- the row is put among the others
    abbrev pub Makes : Trees → Type 0
    Makes = TableBecomes by_first row_less_rowid width tree db (put by_first rows x)

    stays : (id : ℤ) → cast_row keyed_table (Int id ∷ x) ≡ Int id ∷ x
    stays id = ap₂ ◌∷◌ (cast_int id) (all_stay columns x fit)

    keyed_at : (raw : Row) → Has (db tree) raw → is_int (rowid raw) ≡ true
    keyed_at raw h = all_has HasInt (db tree) raw it.keyed h

    named : (id : Value) (raw : Row) → Has (db tree) raw → agree plain (1 ∷ []) raw (1 ∷ []) (id ∷ x) ≡ is_eq (by_first (row_less_rowid raw) x)
    named id [] h = absurd (let int : is_int (rowid []) ≡ true = keyed_at [] h in cc)
    named id (v ∷ others) h = agree_next v id others x refl

    has_key : (raw : Row) → Has (db tree) raw → conflicts (Some (1 ∷ [])) farm_schema.indexes keyed_table new raw ≡ is_eq (by_first (row_less_rowid raw) x)
    has_key raw h = key_is raw new ∙ or_false _ ∙ named (Int (next_rowid (db tree))) raw h

    -- where no row has the key
    adds : AreConflicts (Some (1 ∷ [])) farm_schema.indexes keyed_table (db tree) new [] → (w : Written) → Puts the_task new db (Ok w) → Makes w.trees
    adds are w h =
        let clash = λ (raw : Row) (k : Has (db tree) raw). any_is raw new ∙ by_next (db tree) x it.ordered it.keyed refl raw k in
        let none : AreConflicts None farm_schema.indexes keyed_table (db tree) new [] = record { sound = λ y h. absurd h; complete = λ raw h same. are.complete raw h (has_key raw h ∙ sym (clash raw h) ∙ same) } in
        clears first_total row_less_rowid width limit mode name tree columns None (1 ∷ []) ((1 ∷ []) ∷ []) (record { digits = 0 } ∷ []) still x db rows it new x refl (stays _) refl wide clash [] none w h

    module _ (r : Row) (h : Has (db tree) r) (tie : by_first (row_less_rowid r) x ≡ Equal) where
      abbrev id : ℤ
      id = id_in (rowid r)

      abbrev row : Row
      row = Int id ∷ x

      own : rowid r ≡ Int id
      own = int_is (rowid r) (keyed_at r h)

      -- only the row that is there has its key
      clash_at : (raw : Row) → Has (db tree) raw → conflicts None farm_schema.indexes keyed_table row raw ≡ is_eq (by_first (row_less_rowid raw) x)
      clash_at raw k =
          let by_id : agree plain (0 ∷ []) raw (0 ∷ []) row ≡ is_eq (value_cmp (rowid raw) (Int id)) = agree_one raw row refl in
          let by_name = or_false _ ∙ named (Int id) raw k in
          any_is raw row ∙ elim (cases_Bool (is_eq (value_cmp (rowid raw) (Int id)))) [
            | inl same ↦
                let one : raw ≡ r = tied_same (db tree) raw r it.ordered k h (ap (value_cmp (rowid raw)) own ∙ eq_is _ same) in
                rw (by_id, same) (sym (ap (λ k. is_eq (by_first (row_less_rowid k) x)) one ∙ ap is_eq tie))
            | inr other ↦ rw (by_id, other) by_name
          ]

      one : (raw : Row) → Has (db tree) raw → conflicts None farm_schema.indexes keyed_table row raw ≡ true → raw ≡ r
      one raw k same =
          let tied = eq_is _ (sym (clash_at raw k) ∙ same) in
          let alike = first_total.congr (row_less_rowid raw) x (row_less_rowid r) tied ∙ tied_back first_total (row_less_rowid r) x tie in
          apart_same row_less_rowid (db tree) raw r it.apart k h (tie_same first_total rows (row_less_rowid raw) (row_less_rowid r) it.strict (it.complete raw k) (it.complete r h) alike)

      conflicting : AreConflicts None farm_schema.indexes keyed_table (db tree) row ((rowid r ∷ []) ∷ [])
      conflicting = record {
        sound = λ y k. elim k [ inl same ↦ (r, h, clash_at r h ∙ ap is_eq tie, same) | inr none ↦ absurd none ];
        complete = λ raw k same. inl (ap (λ z. rowid z ∷ []) (one raw k same));
      }

      -- what the update does with the rows that the query shows
      abbrev Writes : List Row → Written → Type 0
      Writes l w = Then (Edited farm_schema mode.keys db (edit_of db keyed_table (ids_of l) Given 1 l)) (λ next. Gives (record { trees = next; rows = (edit_of db keyed_table (ids_of l) Given 1 l).news; last = None })) (Ok w)

      -- the row is written over the one that is there
      written : (w : Written) → Writes ((rowid r ∷ rowid r ∷ column r 1 ∷ rest) ∷ []) w → Makes w.trees
      written w u =
          let wrote = went u in
          let edit = edit_of db keyed_table (id ∷ []) Given 1 ((rowid r ∷ rowid r ∷ column r 1 ∷ rest) ∷ []) in
          let applied = one_step farm_schema mode.keys db wrote.0 edit (still mode.keys (taken_by db edit) edit.news) wrote.1 in
          let cast : cast_row keyed_table (rowid r ∷ column r 1 ∷ rest) ≡ row =
          ap (λ v. cast_row keyed_table (v ∷ column r 1 ∷ rest)) own ∙ ap (λ v. cast_row keyed_table (Int id ∷ v ∷ rest)) (second r ∙ is_text _ key tie) ∙ stays id in
          let trees : wrote.0 ≡ w.trees = sym (ap (λ (it : Written). it.trees) (same_value wrote.2)) in
          subst (λ (t : Trees). Makes t) trees
          (from_put first_total row_less_rowid width limit mode name tree columns None (1 ∷ []) ((1 ∷ []) ∷ []) (record { digits = 0 } ∷ []) still x db rows it row x refl (stays id) refl wide clash_at
          ((rowid r ∷ []) ∷ []) conflicting wrote.0 (subst (λ n. are_fresh (without_all (db tree) (id ∷ [])) (n ∷ []) ≡ true) cast applied.fresh)
          (applied.rows ∙ ap (λ n. put_all (without_all (db tree) (id ∷ [])) (n ∷ [])) cast) applied.tables)

    module _ (source : (r : Row) → eval_all project (given r ∷ r ∷ []) ≡ rowid r ∷ rowid r ∷ column r 1 ∷ rest) (at : (r : Row) → column (given r) width ≡ rowid r) where
      updated : (r : Row) → Has (db tree) r → by_first (row_less_rowid r) x ≡ Equal → (w : Written) → Updates the_task (record { lets = []; body = query tree (rowid_alone width) project }) (given r) db (Ok w) → Makes w.trees
      updated r h tie w u =
          let done = went u in
          let keyed = keyed_at r h in
          let is = shows_one db tree (alone db) (rowid_alone width) project (given r) r it.ordered h (others_fail db (given r) r width keyed (at r)) done.0 (done.1.answer Null) (itself_passes db (given r) r width keyed (at r)) ∙ ap (λ l. l ∷ []) (source r) in
          written r h tie w (subst (λ l. Writes r h tie l w) is done.2)

      -- whichever rows have the key
      either : (found : List Row) → AreConflicts (Some (1 ∷ [])) farm_schema.indexes keyed_table (db tree) new found → (w : Written) → Meets the_task (Upserts the_task Abort new db []) new db the_clause found (Ok w) → Makes w.trees
      either [] are w met = grind (arith, adds are w)
      either (there ∷ more) are w met =
          let s = are.sound there (inl refl) in
          updated s.0 s.1 (eq_is _ (sym (has_key s.0 s.1) ∙ s.2)) w (subst (λ (k : Row). Updates the_task (record { lets = []; body = query tree (rowid_alone width) project }) (x ++ rowid k ∷ shown keyed_table new) db (Ok w)) s.3 met)

      pub judge : (w : Written) → Upserts the_task Abort new db (the_clause ∷ []) (Ok w) → Makes w.trees
      judge w h = either h.0 h.1 w h.2
