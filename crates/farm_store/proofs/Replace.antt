-- What a row that is put into one table makes of it: it stands in the place of those that conflict with it.
use Rattle.std.proofs.Common.{◌≡◌, ◌≢◌, ◌⊎◌, inl, inr, ℕ, ℤ, List, [], ◌∷◌, Bool, true, false, not, cond, filter, Option, None, Ok, Err, Result, Ordering, Less}
use Rattle.std.proofs.Common.{Equal, Greater, is_eq, refl, sym, ap, subst, ◌∙◌}
use Rattle.farm_store.proofs.Names.{all_from, all_has, AllByRecursion, AreConflicts, cases_Bool, cast, cast_row, Clears, Column, conflicts, Differ}
use Rattle.farm_store.proofs.Names.{false_from_ne_true, farm_schema, Given, Has, has_filtered, has_mapped, has_rowid, HasInt, ids_of, Int, int_is, is_int}
use Rattle.farm_store.proofs.Names.{IsAscending, IsTable, IsTotalOrder, IsWide, Keys, left_or_taken, ListsRows, mapped_has, match_ordering, not-true, Null}
use Rattle.farm_store.proofs.Names.{one_step, Order, put, put_all_adds, put_all_has, put_all_keeps, put_row, Puts, Replace, Row, row_at_is, rowid, strict_table}
use Rattle.farm_store.proofs.Names.{Task, tied_itself, Trees, Value, value_cmp_total, without_all_has, without_rowid, works, Written}
use Rattle.sqlite_value.specs.Order.{value_cmp}
use Rattle.sqlite_trees.proofs.TreeLemmas.{IsTable-put_row, all-put_row}
use Rattle.sqlite.specs.Ops.{unary}
use Rattle.sqlite.specs.Table.{Table}
use Rattle.sqlite.specs.Kind.TheVariants.{Integer}
use Rattle.sqlite.specs.Edit.{edit_of, are_fresh, without_all, put_all, row_at, id_in, taken_by}
use Rattle.sqlite.specs.declared.run.Mode.{Mode}
use Rattle.farm_store.proofs.Sorted.{all_put, put_strict, put_adds, put_keeps, put_has}

either : (b : Bool) (x : Value) → cond b x x ≡ x
either true x = refl
either false x = refl

pub cast_int : (n : ℤ) → cast Integer (Int n) ≡ Int n
unfolding unary
cast_int n = either _ (Int n)

pub cast_null : cast Integer Null ≡ Null
unfolding unary
cast_null = either _ Null

pub left_lacks : (ids : List ℤ) (rows : List Row) (x : Row) → Has (without_all rows ids) x → (id : ℤ) → Has ids id → has_rowid id x ≡ false
left_lacks [] rows x h id none = absurd none
left_lacks (i ∷ ids) rows x h id (inl same) = rw same (not-true _ (has_filtered _ rows x (without_all_has ids (without_rowid i rows) x h)).1)
left_lacks (i ∷ ids) rows x h id (inr later) = left_lacks ids (without_rowid i rows) x h id later

pub has_own : (row : Row) → is_int (rowid row) ≡ true → has_rowid (id_in (rowid row)) row ≡ true
has_own row keyed = let own = int_is (rowid row) keyed in rw (sym own, tied_itself value_cmp_total (rowid row))

-- a part that gave a value did not stop on the way
pub went : {B E R : Type 0} {b : B} {Stops : E → Type 0} → ((stop : E) × Stops stop × (Ok b ≡ Err stop)) ⊎ R → R
went (inl stopped) = absurd (let e = stopped.2 in cc)
went (inr on) = on

pub same_value : {B E : Type 0} {a b : B} → ◌≡◌ {A = Result B E} (Ok a) (Ok b) → a ≡ b
same_value e = cc

filter_all : (P : Row → Type 0) (p : Row → Bool) (rows : List Row) → AllByRecursion P rows → AllByRecursion P (filter p rows)
filter_all P p [] all = tt
filter_all P p (r ∷ rows) all = elim (p r) as (λ b. AllByRecursion P (cond b (r ∷ filter p rows) (filter p rows))) [ true ↦ (all.0, filter_all P p rows all.1) | false ↦ filter_all P p rows all.1 ]

filter_apart : (R : Row → Row → Type 0) (p : Row → Bool) (rows : List Row) → IsAscending R rows → IsAscending R (filter p rows)
filter_apart R p [] up = tt
filter_apart R p (r ∷ rows) up = elim (p r) as (λ b. IsAscending R (cond b (r ∷ filter p rows) (filter p rows))) [ true ↦ (filter_all (R r) p rows up.0, filter_apart R p rows up.1) | false ↦ filter_apart R p rows up.1 ]

left_apart : (R : Row → Row → Type 0) (ids : List ℤ) (rows : List Row) → IsAscending R rows → IsAscending R (without_all rows ids)
left_apart R [] rows up = up
left_apart R (id ∷ ids) rows up = left_apart R ids (without_rowid id rows) (filter_apart R (λ r. not (has_rowid id r)) rows up)

filter_table : (p : Row → Bool) (rows : List Row) → IsTable rows → IsTable (filter p rows)
filter_table p [] up = tt
filter_table p (r ∷ rows) up = elim (p r) as (λ b. IsTable (cond b (r ∷ filter p rows) (filter p rows))) [
  | true ↦ (filter_all (λ s. value_cmp (rowid r) (rowid s) ≡ Less) p rows up.0, filter_table p rows up.1)
  | false ↦ filter_table p rows up.1
]

pub left_table : (ids : List ℤ) (rows : List Row) → IsTable rows → AllByRecursion HasInt rows → IsTable (without_all rows ids) × AllByRecursion HasInt (without_all rows ids)
left_table [] rows up all = (up, all)
left_table (id ∷ ids) rows up all = left_table ids (without_rowid id rows) (filter_table (λ r. not (has_rowid id r)) rows up) (filter_all HasInt (λ r. not (has_rowid id r)) rows all)

-- of rows that show different columns, those that show the same are one
pub apart_same : (show : Row → Row) (raws : List Row) (a b : Row) → IsAscending (Differ show) raws → Has raws a → Has raws b → show a ≡ show b → a ≡ b
apart_same show [] a b up h k same = absurd h
apart_same show (r ∷ raws) a b up (inl h) (inl k) same = h ∙ sym k
apart_same show (r ∷ raws) a b up (inl h) (inr k) same = absurd (all_has (Differ show r) raws b up.0 k (ap show (sym h) ∙ same))
apart_same show (r ∷ raws) a b up (inr h) (inl k) same = absurd (all_has (Differ show r) raws a up.0 h (ap show (sym k) ∙ sym same))
apart_same show (r ∷ raws) a b up (inr h) (inr k) same = apart_same show raws a b up.1 h k same

-- a row that differs from each is put among them
put_apart : (show : Row → Row) (new : Row) (rows : List Row) → IsAscending (Differ show) rows → AllByRecursion (Differ show new) rows → IsAscending (Differ show) (put_row new rows)
put_apart show new [] up other = (tt, tt)
put_apart show new (r ∷ rows) up other = elim (value_cmp (rowid r) (rowid new)) as (λ o. IsAscending (Differ show) (match_ordering o (r ∷ put_row new rows) (new ∷ rows) (new ∷ r ∷ rows))) [
  | Less ↦ (all-put_row (Differ show r) new rows (λ e. other.0 (sym e)) up.0, put_apart show new rows up.1 other.1)
  | Equal ↦ (other.1, up.1)
  | Greater ↦ (other, up)
]

-- one table has these rows now, and the others are as they were
pub record TableBecomes (cmp : Row → Row → Ordering) (show : Row → Row) (width tree : ℕ) (db : Trees) (rows : List Row) (next : Trees) : Type 0 where
  pub lists : ListsRows cmp show width (next tree) rows
  pub others : AllByRecursion (λ t. t.tree ≢ tree → next t.tree ≡ db t.tree) farm_schema.tables

pub eq_is : (o : Ordering) → is_eq o ≡ true → o ≡ Equal
eq_is Less h = absurd (cc)
eq_is Equal h = refl
eq_is Greater h = absurd (cc)

module _ {cmp : Row → Row → Ordering} (total : IsTotalOrder cmp) (show : Row → Row) (width : ℕ) (limit : Option ℕ) (mode : Mode) (name : List ℕ) (tree : ℕ) (columns : List Column) (key : Option ℕ) (primary : List ℕ) (uniques : List (List ℕ)) (orders : List Order)
    (still : (keys : Keys) (olds news : List Row) → works farm_schema keys 0 tree olds news ≡ []) (params : Row) where
  abbrev table : Table
  table = strict_table name tree columns key primary uniques orders

  abbrev task : Task
  task = record { limit = limit; keys = mode.keys; schema = farm_schema; table = table; params = params }

  module _ (db : Trees) (rows : List Row) (it : ListsRows cmp show width (db tree) rows) (new x : Row) (own : HasInt new) (stays : cast_row table new ≡ new) (is : show new ≡ x) (wide : IsWide width x)
      -- a row conflicts with the new one where it has its key
      (clash : (raw : Row) → Has (db tree) raw → conflicts None farm_schema.indexes table new raw ≡ is_eq (cmp (show raw) x)) where
    keyed : (r : Row) → Has (db tree) r → is_int (rowid r) ≡ true
    keyed r h = all_has HasInt (db tree) r it.keyed h

    tied : (raw : Row) → Has (db tree) raw → conflicts None farm_schema.indexes table new raw ≡ true → cmp (show raw) x ≡ Equal
    tied raw h clashes = eq_is _ (sym (clash raw h) ∙ clashes)

    apart : (raw : Row) → Has (db tree) raw → conflicts None farm_schema.indexes table new raw ≡ false → cmp (show raw) x ≢ Equal
    apart raw h free tie = let e = sym (clash raw h ∙ ap is_eq tie) ∙ free in cc

    -- the rows that conflict are gone, and no other
    cleared : (found : List Row) → AreConflicts None farm_schema.indexes table (db tree) new found → (r : Row) → Has (db tree) r → conflicts None farm_schema.indexes table new r ≡ false
        → Has (without_all (db tree) (ids_of found)) r
    cleared found are r h free = elim (left_or_taken (db tree) (ids_of found) r it.ordered h) [
      | inl left ↦ left
      | inr taken ↦
          let m = has_mapped (row_at (db tree)) (ids_of found) r taken in
          let i = has_mapped (λ x. id_in (rowid x)) found m.0 m.1 in
          let s = are.sound i.0 i.1 in
          let id : m.0 ≡ id_in (rowid s.0) = i.2 ∙ ap (λ x. id_in (rowid x)) s.3 in
          let own : has_rowid m.0 s.0 ≡ true = subst (λ k. has_rowid k s.0 ≡ true) (sym id) (has_own s.0 (keyed s.0 s.1)) in
          let same : r ≡ s.0 = m.2 ∙ row_at_is (db tree) m.0 s.0 it.ordered s.1 own in
          let clash : conflicts None farm_schema.indexes table new r ≡ true = subst (λ x. conflicts None farm_schema.indexes table new x ≡ true) (sym same) s.2 in
          absurd (let e = sym clash ∙ free in cc)
    ]

    free_if_left : (found : List Row) → AreConflicts None farm_schema.indexes table (db tree) new found → (r : Row) → Has (without_all (db tree) (ids_of found)) r → conflicts None farm_schema.indexes table new r ≡ false
    free_if_left found are r left = elim (cases_Bool (conflicts None farm_schema.indexes table new r)) [
      | inl clash ↦
          let h = without_all_has (ids_of found) (db tree) r left in
          let id = mapped_has (λ x. id_in (rowid x)) found (rowid r ∷ []) (are.complete r h clash) in
          let e = sym (has_own r (keyed r h)) ∙ left_lacks (ids_of found) (db tree) r left (id_in (rowid r)) id in
          absurd (let no : true ≡ false = e in cc)
      | inr free ↦ free
    ]

    puts_is : (mid : Trees) (w : Written) → Puts task new mid (Ok w)
        → (are_fresh (mid tree) (new ∷ []) ≡ true) × (w.trees tree ≡ put_all (mid tree) (new ∷ [])) × AllByRecursion (λ t. t.tree ≢ tree → w.trees t.tree ≡ mid t.tree) farm_schema.tables
    puts_is mid w h =
        let done = went h in
        let edit = edit_of mid table [] Given 0 (new ∷ []) in
        let applied = one_step farm_schema mode.keys mid done.0 edit (still mode.keys (taken_by mid edit) edit.news) done.1 in
        let is : done.0 ≡ w.trees = sym (ap (λ (it : Written). it.trees) (same_value done.2)) in (
          subst (λ r. are_fresh (mid tree) (r ∷ []) ≡ true) stays applied.fresh,
          subst (λ (t : Trees). t tree ≡ put_all (mid tree) (new ∷ [])) is (applied.rows ∙ ap (λ r. put_all (mid tree) (r ∷ [])) stays),
          subst (λ (u : Trees). AllByRecursion (λ t. t.tree ≢ tree → u t.tree ≡ mid t.tree) farm_schema.tables) is applied.tables,
        )

    -- the row is put where those that conflict with it were taken out
    pub from_put : (found : List Row) → AreConflicts None farm_schema.indexes table (db tree) new found → (next : Trees) → are_fresh (without_all (db tree) (ids_of found)) (new ∷ []) ≡ true
        → next tree ≡ put_all (without_all (db tree) (ids_of found)) (new ∷ []) → AllByRecursion (λ t. t.tree ≢ tree → next t.tree ≡ db t.tree) farm_schema.tables → TableBecomes cmp show width tree db (put cmp rows x) next
    from_put found are next fresh written others =
        let left = without_all (db tree) (ids_of found) in
        let before = left_table (ids_of found) (db tree) it.ordered it.keyed in
        let free = λ (r : Row) (h : Has left r). apart r (without_all_has (ids_of found) (db tree) r h) (free_if_left found are r h) in
        record {
          others = others;
          lists = subst (λ l. ListsRows cmp show width l (put cmp rows x)) (sym written) (record {
            ordered = IsTable-put_row new left before.0;
            keyed = all-put_row HasInt new left own before.1;
            apart = put_apart show new left (left_apart (Differ show) (ids_of found) (db tree) it.apart) (all_from _ left (λ r h same. free r h (ap (λ y. cmp y x) (sym same ∙ is) ∙ tied_itself total x)));
            strict = put_strict total x rows it.strict;
            wide = all_put cmp (IsWide width) x rows wide it.wide;
            sound = λ r h. elim (put_has total x rows r it.strict h) [
              | inl same ↦ (new, put_all_adds (new ∷ []) left new fresh (inl refl), is ∙ sym same)
              | inr was ↦
                  let raw = it.sound r was.0 in
                  let other = false_from_ne_true _ (λ clashes. was.1 (ap (λ y. cmp y x) (sym raw.2) ∙ tied raw.0 raw.1 clashes)) in
                  (raw.0, put_all_keeps (new ∷ []) left raw.0 fresh (cleared found are raw.0 raw.1 other), raw.2)
            ];
            complete = λ raw h. elim (put_all_has (new ∷ []) left raw h) [
              | inl wrote ↦ elim wrote [ inl same ↦ subst (Has (put cmp rows x)) (sym (ap show same ∙ is)) (put_adds total x rows) | inr none ↦ absurd none ]
              | inr old ↦ put_keeps total x rows (show raw) (it.complete raw (without_all_has (ids_of found) (db tree) raw old)) (free raw old)
            ];
          });
        }

    from_mid : (found : List Row) → AreConflicts None farm_schema.indexes table (db tree) new found → (mid : Trees) → mid tree ≡ without_all (db tree) (ids_of found)
        → AllByRecursion (λ t. t.tree ≢ tree → mid t.tree ≡ db t.tree) farm_schema.tables → (w : Written) → Puts task new mid (Ok w) → TableBecomes cmp show width tree db (put cmp rows x) w.trees
    from_mid found are mid left others w h =
        let done = puts_is mid w h in
        from_put found are w.trees (subst (λ l. are_fresh l (new ∷ []) ≡ true) left done.0) (done.1 ∙ ap (λ l. put_all l (new ∷ [])) left)
        (all_from (λ (t : Table). t.tree ≢ tree → w.trees t.tree ≡ db t.tree) farm_schema.tables (λ t known other.
        all_has (λ (t : Table). t.tree ≢ tree → w.trees t.tree ≡ mid t.tree) farm_schema.tables t done.2 known other ∙ all_has (λ (t : Table). t.tree ≢ tree → mid t.tree ≡ db t.tree) farm_schema.tables t others known other))

    pub clears : (found : List Row) → AreConflicts None farm_schema.indexes table (db tree) new found → (w : Written) → Clears task Replace new db found (Ok w) → TableBecomes cmp show width tree db (put cmp rows x) w.trees
    clears [] are w h = from_mid [] are db refl (all_from (λ (t : Table). t.tree ≢ tree → db t.tree ≡ db t.tree) farm_schema.tables (λ t known other. refl)) w h
    clears (x ∷ more) are w h =
        let done = went h in
        let edit = edit_of db table (ids_of (x ∷ more)) Given 0 [] in
        let applied = one_step farm_schema mode.keys db done.0 edit (still mode.keys (taken_by db edit) edit.news) done.1 in
        from_mid (x ∷ more) are done.0 applied.rows applied.tables w done.2
