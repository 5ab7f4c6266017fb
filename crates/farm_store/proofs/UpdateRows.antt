-- What UPDATE of a table's rows makes of the tables.
use Rattle.std.proofs.Common.{refl, ◌≡◌, ◌≢◌, inl, inr, ℕ, List, [], ◌∷◌, ◌++◌, map, filter, flat_map, drop, Bool, true, false, cond, slice_get, Option, Some}
use Rattle.std.proofs.Common.{None, Ok, sym, ap, subst, ◌∙◌, Ordering, Less, Equal}
use Rattle.farm_store.proofs.Names.{all_from, all_has, AllByRecursion, AreListed, AtPlace, cases_Bool, cast_row, catalog_tree, Column, command_of, Database}
use Rattle.farm_store.proofs.Names.{Differ, Does, end, farm_schema, Given, given, Has, has_filtered, has_kept, has_mapped, has_rowid, HasInt, ids_of, is_int}
use Rattle.farm_store.proofs.Names.{IsAnswer, IsAscending, IsInside, IsPermutation-sym, IsPlain, IsStrict, IsTable, IsTotalOrder, IsWide, Keys, left_or_taken}
use Rattle.farm_store.proofs.Names.{list_all, ListsRows, mapped_has, matches, Null, one_step, OnRows, Order, Output, output, overlay, put_all_adds, put_all_has}
use Rattle.farm_store.proofs.Names.{put_all_keeps, put_row, Query, Row, row_at_is, rowid, runs_as, statement_of, strict_table, TableRows, TableSlot, Tally}
use Rattle.farm_store.proofs.Names.{Term, tied_itself, Trees, Update, value_cmp_total, without_all_has, works, Written}
use Rattle.sqlite.specs.Table.{Table}
use Rattle.sqlite.specs.Edit.{edit_of, are_fresh, put_all, without_all, row_at, id_in, taken_by}
use Rattle.sqlite.specs.Listing.{understood}
use Rattle.sqlite.specs.State.{State, mode_of, ExecutesInside}
use Rattle.sqlite_sql.specs.Term.{eval_all, holds}
use Rattle.sqlite_value.specs.Order.{value_cmp}
use Rattle.sqlite_trees.proofs.TreeLemmas.{IsTable-put_row, all-put_row}
use Rattle.farm_store.proofs.Clause.{query}
use Rattle.farm_store.proofs.Order.{permuted}
use Rattle.farm_store.proofs.PutAt.{IsKnown, stands_rewritten}
use Rattle.farm_store.proofs.Replace.{apart_same, has_own, left_lacks, left_table, same_value, went}
use Rattle.farm_store.proofs.Sorted.{tie_same}

-- ---- tables by their rowids

all_up : (news rows : List Row) → IsTable rows → IsTable (put_all rows news)
all_up [] rows up = up
all_up (n ∷ news) rows up = all_up news (put_row n rows) (IsTable-put_row n rows up)

all_keyed : (news rows : List Row) → AllByRecursion HasInt news → AllByRecursion HasInt rows → AllByRecursion HasInt (put_all rows news)
all_keyed [] rows own all = all
all_keyed (n ∷ news) rows own all = all_keyed news (put_row n rows) own.1 (all-put_row HasInt n rows own.0 all)

module _ (table : Table) (tests project : List Term) (params : Row) where
  -- a raw row passes the tests; what the query gives of it; and the row that is written
  abbrev pub changes : Row → Bool
  changes raw = list_all (holds (params ∷ raw ∷ [])) tests

  abbrev given_of : Row → Row
  given_of raw = eval_all project (params ∷ raw ∷ [])

  abbrev pub written_as : Row → Row
  written_as raw = cast_row table (drop 1 (given_of raw))

  -- a raw row that is to show this one does so, be it left or written
  pub record Turns (show : Row → Row) (raw x : Row) : Type 0 where
    pub same : changes raw ≡ false → show raw ≡ x
    pub new : changes raw ≡ true → (show (written_as raw) ≡ x) × (rowid (written_as raw) ≡ rowid raw)

  module _ (same_rowid : (raw : Row) → rowid (given_of raw) ≡ rowid raw) (db : Trees) (alone : overlay db [] table.tree ≡ db table.tree) where
    matched : (raws : List Row) → flat_map (λ r. matches (overlay db []) tests end (params ∷ r ∷ [])) raws ≡ map (λ r. params ∷ r ∷ []) (filter changes raws)
    matched [] = refl
    matched (r ∷ raws) =
        elim (changes r) as (λ b. (cond b ((params ∷ r ∷ []) ∷ []) [] ++ flat_map (λ r. matches (overlay db []) tests end (params ∷ r ∷ [])) raws) ≡ map (λ r. params ∷ r ∷ []) (cond b (r ∷ filter changes raws) (filter changes raws))) [
          | true ↦ ap (λ l. (params ∷ r ∷ []) ∷ l) (matched raws)
          | false ↦ matched raws
        ]

    abbrev the_query : Query
    the_query = query table.tree tests project

    module _ (out : List Row) (a : IsAnswer the_query (overlay db []) params out) where
      kept : a.kept ≡ map (output the_query) (map (λ r. params ∷ r ∷ []) (filter changes (db table.tree)))
      kept = a.distinct ∙ ap (map (output the_query)) (a.grouped ∙ ap (flat_map (λ r. matches (overlay db []) tests end (params ∷ r ∷ []))) alone ∙ matched (db table.tree))

      gives : (x : Row) → Has out x → (raw : Row) × Has (db table.tree) raw × (changes raw ≡ true) × (x ≡ given_of raw)
      gives x h =
          let o = has_mapped (λ (it : Output). it.1) a.ordered x (subst (λ l. Has l x) a.shown h) in
          let k = subst (λ l. Has l o.0) kept (permuted a.kept a.ordered a.same o.0 o.1) in
          let e = has_mapped (output the_query) (map (λ r. params ∷ r ∷ []) (filter changes (db table.tree))) o.0 k in
          let r = has_mapped (λ (r : Row). params ∷ r ∷ []) (filter changes (db table.tree)) e.0 e.1 in
          let f = has_filtered changes (db table.tree) r.0 r.1 in
          (r.0, f.0, f.1, o.2 ∙ ap (λ (it : Output). it.1) (e.2 ∙ ap (output the_query) r.2))

      gives_all : (raw : Row) → Has (db table.tree) raw → changes raw ≡ true → Has out (given_of raw)
      gives_all raw h up =
          let e = mapped_has (λ (r : Row). params ∷ r ∷ []) (filter changes (db table.tree)) raw (has_kept changes (db table.tree) raw h up) in
          let k = mapped_has (output the_query) (map (λ r. params ∷ r ∷ []) (filter changes (db table.tree))) (params ∷ raw ∷ []) e in
          let o = permuted a.ordered a.kept (IsPermutation-sym a.kept a.ordered a.same) (output the_query (params ∷ raw ∷ [])) (subst (λ l. Has l (output the_query (params ∷ raw ∷ []))) (sym kept) k) in
          subst (λ l. Has l (given_of raw)) (sym a.shown) (mapped_has (λ (it : Output). it.1) a.ordered (output the_query (params ∷ raw ∷ [])) o)

      abbrev left : List Row
      left = without_all (db table.tree) (ids_of out)

      abbrev news : List Row
      news = map (λ s. cast_row table (drop 1 s)) out

      module _ (up : IsTable (db table.tree)) (keyed : AllByRecursion HasInt (db table.tree)) where
        keyed_at : (raw : Row) → Has (db table.tree) raw → is_int (rowid raw) ≡ true
        keyed_at raw h = all_has HasInt (db table.tree) raw keyed h

        leaves : (raw : Row) → Has (db table.tree) raw → changes raw ≡ false → Has left raw
        leaves raw h level = elim (left_or_taken (db table.tree) (ids_of out) raw up h) [
          | inl still ↦ still
          | inr taken ↦
              let m = has_mapped (row_at (db table.tree)) (ids_of out) raw taken in
              let i = has_mapped (λ x. id_in (rowid x)) out m.0 m.1 in
              let s = gives i.0 i.1 in
              let id : m.0 ≡ id_in (rowid s.0) = i.2 ∙ ap (λ x. id_in (rowid x)) s.3 ∙ ap id_in (same_rowid s.0) in
              let own : has_rowid m.0 s.0 ≡ true = subst (λ k. has_rowid k s.0 ≡ true) (sym id) (has_own s.0 (keyed_at s.0 s.1)) in
              let same : raw ≡ s.0 = m.2 ∙ row_at_is (db table.tree) m.0 s.0 up s.1 own in
              absurd (let e = sym s.2 ∙ sym (ap changes same) ∙ level in cc)
        ]

        left_is : (raw : Row) → Has left raw → Has (db table.tree) raw × (changes raw ≡ false)
        left_is raw h =
            let was = without_all_has (ids_of out) (db table.tree) raw h in (
              was,
              elim (cases_Bool (changes raw)) [
                | inl above ↦
                    let id = mapped_has (λ x. id_in (rowid x)) out (given_of raw) (gives_all raw was above) in
                    let own = subst (λ k. Has (ids_of out) (id_in k)) (same_rowid raw) id in
                    let e = sym (has_own raw (keyed_at raw was)) ∙ left_lacks (ids_of out) (db table.tree) raw h (id_in (rowid raw)) own in
                    absurd (let no : true ≡ false = e in cc)
                | inr level ↦ level
              ],
            )

        written : (raw : Row) → Has (db table.tree) raw → changes raw ≡ true → Has news (written_as raw)
        written raw h above = mapped_has (λ s. cast_row table (drop 1 s)) out (given_of raw) (gives_all raw h above)

        written_is : (y : Row) → Has news y → (raw : Row) × Has (db table.tree) raw × (changes raw ≡ true) × (y ≡ written_as raw)
        written_is y h =
            let s = has_mapped (λ s. cast_row table (drop 1 s)) out y h in
            let g = gives s.0 s.1 in
            (g.0, g.1, g.2, s.2 ∙ ap (λ s. cast_row table (drop 1 s)) g.3)

        -- the rows were spelled in one way, and are in another that keeps their order
        module _ {X : Type 0} {cmp : Row → Row → Ordering} (total : IsTotalOrder cmp) (show : Row → Row) (width : ℕ) (f g : X → Row) (xs : List X) (it : ListsRows cmp show width (db table.tree) (map f xs))
            (alike : (x y : X) → cmp (g x) (g y) ≡ cmp (f x) (f y)) (wide : (x : X) → IsWide width (g x)) (turns : (raw : Row) (x : X) → Has xs x → is_int (rowid raw) ≡ true → show raw ≡ f x → Turns show raw (g x))
            (fresh : are_fresh left news ≡ true) where
          abbrev rows : List Row
          rows = put_all left news

          -- the row that stood in the place of one that stands there now
          record Was (y : Row) : Type 0 where
            pub raw : Row
            pub there : Has (db table.tree) raw
            pub x : X
            pub among : Has xs x
            pub showed : show raw ≡ f x
            pub id : rowid y ≡ rowid raw
            pub shows : show y ≡ g x

          turned : (raw : Row) → Has (db table.tree) raw → (x : X) × Has xs x × (show raw ≡ f x) × Turns show raw (g x)
          turned raw h = let x = has_mapped f xs (show raw) (it.complete raw h) in (x.0, x.1, x.2, turns raw x.0 x.1 (keyed_at raw h) x.2)

          new_was : (y : Row) → Has news y → Was y
          new_was y h =
              let w = written_is y h in
              let t = turned w.0 w.1 in
              let n = t.3.new w.2 in
              record { raw = w.0; there = w.1; x = t.0; among = t.1; showed = t.2; id = ap rowid w.3 ∙ n.1; shows = ap show w.3 ∙ n.0 }

          was : (y : Row) → Has rows y → Was y
          was y h = elim (put_all_has news left y h) [
            | inl wrote ↦ new_was y wrote
            | inr still ↦ let l = left_is y still in let t = turned y l.0 in record { raw = y; there = l.0; x = t.0; among = t.1; showed = t.2; id = refl; shows = t.3.same l.1 }
          ]

          differ_all : (l : List Row) → IsTable l → ((y : Row) → Has l y → Was y) → IsAscending (Differ show) l
          differ_all [] rise each = tt
          differ_all (y ∷ l) rise each = (
            all_from (Differ show y) l (λ z h same.
                let p = each y (inl refl) in
                let q = each z (inr h) in
                let tie : cmp (f p.x) (f q.x) ≡ Equal = sym (alike p.x q.x) ∙ ap (cmp (g p.x)) (sym q.shows ∙ sym same ∙ p.shows) ∙ tied_itself total (g p.x) in
                let one = tie_same total (map f xs) (f p.x) (f q.x) it.strict (mapped_has f xs p.x p.among) (mapped_has f xs q.x q.among) tie in
                let ids = p.id ∙ ap rowid (apart_same show (db table.tree) p.raw q.raw it.apart p.there q.there (p.showed ∙ one ∙ sym q.showed)) ∙ sym q.id in
                let e = sym (all_has (λ s. value_cmp (rowid y) (rowid s) ≡ Less) l z rise.0 h) ∙ ap (λ k. value_cmp k (rowid z)) ids ∙ tied_itself value_cmp_total (rowid z) in cc),
            differ_all l rise.1 (λ z h. each z (inr h)),
          )

          below_all : (x : X) (ys : List X) → AllByRecursion (λ r. cmp (f x) r ≡ Less) (map f ys) → AllByRecursion (λ r. cmp (g x) r ≡ Less) (map g ys)
          below_all x [] low = tt
          below_all x (y ∷ ys) low = (alike x y ∙ low.0, below_all x ys low.1)

          strict_all : (ys : List X) → IsStrict cmp (map f ys) → IsStrict cmp (map g ys)
          strict_all [] rise = tt
          strict_all (x ∷ ys) rise = (below_all x ys rise.0, strict_all ys rise.1)

          wide_all : (ys : List X) → AllByRecursion (IsWide width) (map g ys)
          wide_all [] = tt
          wide_all (x ∷ ys) = (wide x, wide_all ys)

          lists : ListsRows cmp show width rows (map g xs)
          lists =
              let before = left_table (ids_of out) (db table.tree) up keyed in
              let rise = all_up news left before.0 in
              record {
                ordered = rise;
                keyed = all_keyed news left (all_from HasInt news (λ y h. let w = new_was y h in ap is_int w.id ∙ keyed_at w.raw w.there)) before.1;
                apart = differ_all rows rise was;
                strict = strict_all xs it.strict;
                wide = wide_all xs;
                sound = λ r h.
                    let x = has_mapped g xs r h in
                    let raw = it.sound (f x.0) (mapped_has f xs x.0 x.1) in
                    let t = turns raw.0 x.0 x.1 (keyed_at raw.0 raw.1) raw.2 in
                    elim (cases_Bool (changes raw.0)) [
                      | inl above ↦ (written_as raw.0, put_all_adds news left (written_as raw.0) fresh (written raw.0 raw.1 above), (t.new above).0 ∙ sym x.2)
                      | inr level ↦ (raw.0, put_all_keeps news left raw.0 fresh (leaves raw.0 raw.1 level), t.same level ∙ sym x.2)
                    ];
                complete = λ raw h. let w = was raw h in subst (Has (map g xs)) (sym w.shows) (mapped_has g xs w.x w.among);
              }

-- ---- the statement

module _ (p : TableSlot) (known : IsKnown p) (name : List ℕ) (columns : List Column) (key : Option ℕ) (primary : List ℕ) (uniques : List (List ℕ)) (orders : List Order) (at : ℕ) (tests project : List Term)
    (still : (keys : Keys) (olds news : List Row) → works farm_schema keys 0 p.tree olds news ≡ []) (alone : (db : Trees) → overlay db [] p.tree ≡ db p.tree) where
  abbrev pub table : Table
  table = strict_table name p.tree columns key primary uniques orders

  -- rows of one place that were spelled in one way are spelled in another
  pub rewrites : (text : List ℕ) → slice_get farm_schema.tables at ≡ Some table → command_of (understood farm_schema text) ≡ Update at (record { lets = []; body = query p.tree tests project }) → IsPlain (understood farm_schema text)
      → (old new : State) (params : Row) (count : ℕ) (T : TableRows) → ((raw : Row) → rowid (eval_all project (params ∷ raw ∷ [])) ≡ rowid raw) → {X : Type 0} (f g : X → Row) (xs : List X) → p.rows T ≡ map f xs
      → ((x y : X) → p.cmp (g x) (g y) ≡ p.cmp (f x) (f y)) → ((x : X) → IsWide p.width (g x)) → ((raw : Row) (x : X) → Has xs x → is_int (rowid raw) ≡ true → p.show raw ≡ f x → Turns table tests project params p.show raw (g x))
      → IsInside old T → ExecutesInside 0 text params old new (Ok count) → IsInside new (p.replaced T (map g xs))
  rewrites text there is plain old new params count T same_rowid f g xs spelled alike wide turns inside ran =
      let see = inside.shown ran.1.was_open in
      let db = old.now.trees in
      let mode = mode_of old in
      let it : ListsRows p.cmp p.show p.width (db p.tree) (map f xs) = subst (ListsRows p.cmp p.show p.width (db p.tree)) spelled (known.find db T see.holds) in
      let command = Update at (record { lets = []; body = query p.tree tests project }) in
      let run = runs_as text params old new farm_schema see.schema command is plain count ran.0 in
      let sql = statement_of text (understood farm_schema text) in
      let changed = subst (λ s. Does old.step_limit mode params (record old.now { schema = s }) sql None command (Ok (run.tally, new.now))) see.schema run.changed in
      let done = went (subst (λ o. AtPlace {X = Table} (λ t. OnRows (record { limit = old.step_limit; keys = mode.keys; schema = farm_schema; table = t; params = params }) mode None command db) o (Ok (run.tally, new.now))) there changed) in
      let tested = went done.2 in
      let shown = went tested.2 in
      let now = ap (λ (p : Tally × Database). p.1) (same_value shown.2) in
      let queried = went done.1 in
      let out = queried.0 in
      let a = queried.1.answer Null in
      let wrote = went queried.2 in
      let edit = edit_of db table (ids_of out) Given 1 out in
      let applied = one_step farm_schema mode.keys db wrote.0 edit (still mode.keys (taken_by db edit) edit.news) wrote.1 in
      let trees : new.now.trees ≡ wrote.0 = ap (λ (d : Database). d.trees) now ∙ ap (λ (it : Written). it.trees) (same_value wrote.2) in
      let rest = left table tests project params same_rowid db (alone db) out a in
      let wanted = news table tests project params same_rowid db (alone db) out a in
      let fresh : are_fresh rest wanted ≡ true = subst (λ l. are_fresh rest l ≡ true) (given rest wanted) applied.fresh in
      let rows : new.now.trees p.tree ≡ put_all rest wanted = ap (λ (t : Trees). t p.tree) trees ∙ applied.rows ∙ ap (put_all rest) (given rest wanted) in
      stands_rewritten p known old new T (map g xs) (record {
        schema = ap (λ (d : Database). d.schema) now;
        listed = subst (AreListed (new.now.trees catalog_tree)) (ap (λ (d : Database). d.schema) now) run.sound.lists.listed;
        others = subst (λ (t : Trees). AllByRecursion (λ u. u.tree ≢ p.tree → t u.tree ≡ db u.tree) farm_schema.tables) (sym trees) applied.tables;
        lists = subst (λ l. ListsRows p.cmp p.show p.width l (map g xs)) (sym rows) (lists table tests project params same_rowid db (alone db) out a it.ordered it.keyed known.total p.show p.width f g xs it alike wide turns fresh);
      }) see ran.1.mode
