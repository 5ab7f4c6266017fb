-- The query of each table, and what it answers.
use Rattle.std.proofs.Common.{refl, ◌≡◌, ◌-◌, ℕ, zero, suc, pos, negsuc, List, [], ◌∷◌, map, flat_map, false, None, ap, ap₂, sym, subst, ◌∙◌, IsTrue}
use Rattle.farm_store.proofs.Names.{ascending, AsksFor, Binary, boards_table, by_first, by_two, Column, Database, Edition, end, HoldsAt, HoldsWith, inner, Int}
use Rattle.farm_store.proofs.Names.{is_version_row, IsOfSchema, IsTotalOrder, IsWide, jobs_table, kept_table, list_any, meta_table, of_boards_with}
use Rattle.farm_store.proofs.Names.{of_jobs_with, of_kept_with, of_meta, of_reservations_with, of_types_with, OnlyReads, ordering_then, Output, output}
use Rattle.farm_store.proofs.Names.{output_cmp, overlay, Query, reservations_table, ReturnsRows, Row, row_less_rowid, schema_with, ShowsTablesWith}
use Rattle.farm_store.proofs.Names.{table_columns_in, TableColumns, TableRows, TableSlot, then-Equal, Trees, types_table, Value, with_number}
use Rattle.sqlite.specs.Table.{Table}
use Rattle.sqlite.specs.Term.{Term, lit, col, eval_all}
use Rattle.sqlite.specs.Listing.{understood, listing_schema}
use Rattle.sqlite_tied.specs.Compute.{everything}
use Rattle.sqlite_value.specs.Order.{column, value_cmp}
use Rattle.sqlite_value.specs.declared.keys.Key.{Key}
use Rattle.farm_store.specs.declared.types.TheConstants.{READ as READ_TYPES}
use Rattle.farm_store.specs.declared.boards.TheConstants.{READ as READ_BOARDS}
use Rattle.farm_store.specs.declared.jobs.TheConstants.{READ as READ_JOBS}
use Rattle.farm_store.specs.declared.reservations.TheConstants.{READ as READ_RESERVATIONS}
use Rattle.farm_store.specs.declared.kept.TheConstants.{READ as READ_KEPT}
use Rattle.farm_store.specs.declared.meta.TheConstants.{READ as READ_META}
use Rattle.farm_store.proofs.PutAt.{of_types, of_boards, of_jobs, of_reservations, of_kept}
use Rattle.farm_store.proofs.OnlyReads.{only_reads}
use Rattle.farm_store.proofs.ColumnsFrom.{columns_from, whole, of_unnumbered, of_numbered}
use Rattle.farm_store.proofs.Keys.{first_total, two_total}
use Rattle.farm_store.proofs.Selects.{IsQuery, answer_of, goes_on, rows_are}
use Rattle.farm_store.specs.Versions.{MayHaveVersion, HasVersion}

-- the columns of the raw row from one place on
abbrev cols : ℕ → ℕ → List Term
cols at zero = []
cols at (suc n) = col 1 at ∷ cols (suc at) n

of_cols : (at n : ℕ) (r : Row) → eval_all (cols at n) ([] ∷ r ∷ []) ≡ columns_from at n r
of_cols at zero r = refl
of_cols at (suc n) r = ap (λ l. column r at ∷ l) (of_cols (suc at) n r)

-- these columns of all rows of a tree, in order of the first or the first two
abbrev query_of : ℕ → List Term → List (Term × Key) → Query
query_of tree project order = record {
  from = inner tree end;
  filter = [];
  group = None;
  project = project;
  distinct = false;
  collations = [];
  order = order;
  limit = lit (Int (negsuc 0));
  offset = lit (Int (pos 0));
}

abbrev first_key : ℕ → List (Term × Key)
first_key at = (col 1 at, ascending Binary) ∷ []

abbrev two_keys : List (Term × Key)
two_keys = (col 1 1, ascending Binary) ∷ (col 1 2, ascending Binary) ∷ []

abbrev names_of : Table → List (List ℕ)
names_of t = map (λ (c : Column). c.name) t.columns

-- the queries of a place that is keyed by its first column, by its first two, and by its rowid
abbrev by_key : TableSlot → Query
by_key p = query_of p.tree (cols 1 p.width) (first_key 1)

abbrev by_keys : TableSlot → Query
by_keys p = query_of p.tree (cols 1 p.width) two_keys

abbrev by_number : TableSlot → Query
by_number p = query_of p.tree (col 1 0 ∷ cols 2 (p.width - 1)) (first_key 0)

first_is : (a b : Row) → output_cmp (query_of 0 [] (first_key 0)) (column a 0 ∷ [], a) (column b 0 ∷ [], b) ≡ by_first a b
first_is a b = then-Equal (value_cmp (column a 0) (column b 0))

two_are : (a b : Row) → output_cmp (query_of 0 [] two_keys) (column a 0 ∷ column a 1 ∷ [], a) (column b 0 ∷ column b 1 ∷ [], b) ≡ by_two a b
two_are a b = ap (ordering_then (value_cmp (column a 0) (column b 0))) (then-Equal (value_cmp (column a 1) (column b 1)))

behind : (at : ℕ) (r : Row) → column r (suc at) ≡ column (row_less_rowid r) at
behind at [] = refl
behind at (v ∷ r) = refl

module _ (columns : TableColumns) (p : TableSlot) (total : IsTotalOrder p.cmp) (find : (db : Trees) (T : TableRows) → HoldsWith columns db T → HoldsAt p db T) (alone : (db : Trees) → overlay db [] p.tree ≡ db p.tree) (text : List ℕ) (names : List (List ℕ)) (only : OnlyReads text) where
  -- what the query puts out of a raw row, and of the row that it shows
  by_output : (project : List Term) (order : List (Term × Key)) (P Q : Row → Output) → IsQuery (schema_with columns) text (query_of p.tree project order) names → ((raw : Row) → P raw ≡ Q (p.show raw))
      → ((a b : Row) → output_cmp (query_of p.tree project order) (Q a) (Q b) ≡ p.cmp a b) → ((r : Row) → IsWide p.width r → (Q r).1 ≡ r) → ((r : Row) → output (query_of p.tree project order) ([] ∷ r ∷ []) ≡ P r)
      → AsksFor columns p text
  by_output project order P Q is shows keeps fits puts_out =
      let query = query_of p.tree project order in
      let all : (db : Database) (T : TableRows) (rows : List Row) → ShowsTablesWith columns db T → ReturnsRows text db rows → rows ≡ p.rows T = λ db T rows see it.
      let a = answer_of text query names is db see.schema rows it in
      rows_are total p.show p.width query P Q shows keeps fits puts_out (λ l. refl) (db.trees p.tree) (p.rows T) rows a.kept a.ordered
      (a.distinct ∙ ap (map (output query)) a.grouped ∙ ap (λ raws. map (output query) (flat_map (λ r. ([] ∷ r ∷ []) ∷ []) raws)) (alone db.trees)) a.same a.sorted a.shown (find db.trees T see.holds) in
      record {
        only_reads = only;
        all = all;
        first = λ db T rows see it. let whole = goes_on text query names is db see.schema rows it in (whole.0, sym (all db T _ see whole.1));
        wide = λ db T see. (find db.trees T see.holds).wide;
      }

  asks_by_key : IsQuery (schema_with columns) text (by_key p) names → ((r : Row) → row_less_rowid r ≡ p.show r) → ((a b : Row) → by_first a b ≡ p.cmp a b) → AsksFor columns p text
  asks_by_key is show cmp =
      let Q : Row → Output = λ r. (column r 0 ∷ [], columns_from 0 p.width r) in
      by_output (cols 1 p.width) (first_key 1) (λ r. (column r 1 ∷ [], columns_from 1 p.width r)) Q is
      (λ r. ap₂ (λ (k : Value) (l : Row). (k ∷ [], l)) (behind 0 r) (of_unnumbered p.width r) ∙ ap Q (show r)) (λ a b. first_is a b ∙ cmp a b) (whole p.width)
      (λ r. ap (λ (l : Row). (column r 1 ∷ [], l)) (of_cols 1 p.width r))

  asks_by_keys : IsQuery (schema_with columns) text (by_keys p) names → ((r : Row) → row_less_rowid r ≡ p.show r) → ((a b : Row) → by_two a b ≡ p.cmp a b) → AsksFor columns p text
  asks_by_keys is show cmp =
      let Q : Row → Output = λ r. (column r 0 ∷ column r 1 ∷ [], columns_from 0 p.width r) in
      by_output (cols 1 p.width) two_keys (λ r. (column r 1 ∷ column r 2 ∷ [], columns_from 1 p.width r)) Q is
      (λ r. rw (behind 0 r, behind 1 r, of_unnumbered p.width r) (ap Q (show r))) (λ a b. two_are a b ∙ cmp a b) (whole p.width)
      (λ r. ap (λ (l : Row). (column r 1 ∷ column r 2 ∷ [], l)) (of_cols 1 p.width r))

  asks_by_number : (more : ℕ) → suc more ≡ p.width → IsQuery (schema_with columns) text (query_of p.tree (col 1 0 ∷ cols 2 more) (first_key 0)) names → ((r : Row) → with_number r ≡ p.show r) → ((a b : Row) → by_first a b ≡ p.cmp a b) → AsksFor columns p text
  asks_by_number more wide is show cmp =
      let Q : Row → Output = λ r. (column r 0 ∷ [], columns_from 0 (suc more) r) in
      by_output (col 1 0 ∷ cols 2 more) (first_key 0) (λ r. (column r 0 ∷ [], column r 0 ∷ columns_from 2 more r)) Q is
      (λ r. ap (λ (l : Row). (column r 0 ∷ [], l)) (of_numbered more r) ∙ ap Q (show r)) (λ a b. first_is a b ∙ cmp a b) (λ r fits. whole (suc more) r (subst (λ n. IsWide n r) (sym wide) fits))
      (λ r. ap (λ (l : Row). (column r 0 ∷ [], column r 0 ∷ l)) (of_cols 2 more r))

-- ---- the texts, whatever columns the other tables have

pub asks_types : (boards jobs reservations kept : List Column) → AsksFor (record { types = types_table.columns; boards = boards; jobs = jobs; reservations = reservations; kept = kept }) of_types READ_TYPES.now
unfolding understood everything listing_schema
asks_types boards jobs reservations kept =
    asks_by_key (record { types = types_table.columns; boards = boards; jobs = jobs; reservations = reservations; kept = kept }) of_types first_total (λ db T h. h.types) (λ db. refl) READ_TYPES.now (names_of types_table) (only_reads READ_TYPES.now (λ schema. (refl, refl)) refl) refl (λ r. refl) (λ a b. refl)

pub asks_boards : (types jobs reservations kept : List Column) → AsksFor (record { types = types; boards = boards_table.columns; jobs = jobs; reservations = reservations; kept = kept }) of_boards READ_BOARDS.now
unfolding understood everything listing_schema
asks_boards types jobs reservations kept =
    asks_by_key (record { types = types; boards = boards_table.columns; jobs = jobs; reservations = reservations; kept = kept }) of_boards first_total (λ db T h. h.boards) (λ db. refl) READ_BOARDS.now (names_of boards_table) (only_reads READ_BOARDS.now (λ schema. (refl, refl)) refl) refl (λ r. refl) (λ a b. refl)

pub asks_jobs : (types boards reservations kept : List Column) → AsksFor (record { types = types; boards = boards; jobs = jobs_table.columns; reservations = reservations; kept = kept }) of_jobs READ_JOBS.now
unfolding understood everything listing_schema
asks_jobs types boards reservations kept =
    asks_by_number (record { types = types; boards = boards; jobs = jobs_table.columns; reservations = reservations; kept = kept }) of_jobs first_total (λ db T h. h.jobs) (λ db. refl) READ_JOBS.now (names_of jobs_table) (only_reads READ_JOBS.now (λ schema. (refl, refl)) refl) (of_jobs.width - 1) refl refl (λ r. refl) (λ a b. refl)

pub asks_reservations : (types boards jobs kept : List Column) → AsksFor (record { types = types; boards = boards; jobs = jobs; reservations = reservations_table.columns; kept = kept }) of_reservations READ_RESERVATIONS.now
unfolding understood everything listing_schema
asks_reservations types boards jobs kept =
    asks_by_number (record { types = types; boards = boards; jobs = jobs; reservations = reservations_table.columns; kept = kept }) of_reservations first_total (λ db T h. h.reservations) (λ db. refl) READ_RESERVATIONS.now (names_of reservations_table) (only_reads READ_RESERVATIONS.now (λ schema. (refl, refl)) refl) (of_reservations.width - 1) refl refl (λ r. refl) (λ a b. refl)

pub asks_kept : (types boards jobs reservations : List Column) → AsksFor (record { types = types; boards = boards; jobs = jobs; reservations = reservations; kept = kept_table.columns }) of_kept READ_KEPT.now
unfolding understood everything listing_schema
asks_kept types boards jobs reservations =
    asks_by_keys (record { types = types; boards = boards; jobs = jobs; reservations = reservations; kept = kept_table.columns }) of_kept two_total (λ db T h. h.kept) (λ db. refl) READ_KEPT.now (names_of kept_table) (only_reads READ_KEPT.now (λ schema. (refl, refl)) refl) refl (λ r. refl) (λ a b. refl)

pub asks_meta : (columns : TableColumns) → AsksFor columns of_meta READ_META.now
unfolding understood everything listing_schema
asks_meta columns =
    asks_by_key columns of_meta first_total (λ db T h. h.meta) (λ db. refl) READ_META.now (names_of meta_table) (only_reads READ_META.now (λ schema. (refl, refl)) refl) refl (λ r. refl) (λ a b. refl)

-- ---- of the tables of an edition

pub types_in : (e : Edition) → AsksFor (table_columns_in e) (of_types_with (table_columns_in e).types) READ_TYPES.now
types_in e = asks_types _ _ _ _

pub boards_in : (e : Edition) → AsksFor (table_columns_in e) (of_boards_with (table_columns_in e).boards) READ_BOARDS.now
boards_in e = asks_boards _ _ _ _

pub jobs_in : (e : Edition) → AsksFor (table_columns_in e) (of_jobs_with (table_columns_in e).jobs) READ_JOBS.now
jobs_in e = asks_jobs _ _ _ _

pub reservations_in : (e : Edition) → AsksFor (table_columns_in e) (of_reservations_with (table_columns_in e).reservations) READ_RESERVATIONS.now
reservations_in e = asks_reservations _ _ _ _

pub kept_in : (e : Edition) → AsksFor (table_columns_in e) (of_kept_with (table_columns_in e).kept) READ_KEPT.now
kept_in e = asks_kept _ _ _ _

-- ---- which version the table of the numbers has

pub schema_from_version : (columns : TableColumns) (db : Database) (T : TableRows) → ShowsTablesWith columns db T → (version : ℕ) → MayHaveVersion version db → IsOfSchema version T
schema_from_version columns db T see version reported = subst (λ rows. IsTrue (list_any (is_version_row version) rows)) ((asks_meta columns).all db T reported.0 see reported.1) reported.2

pub version_from_schema : (columns : TableColumns) (db : Database) (T : TableRows) → ShowsTablesWith columns db T → (version : ℕ) → IsOfSchema version T → HasVersion version db
version_from_schema columns db T see version is rows shows = subst (λ found. IsTrue (list_any (is_version_row version) found)) (sym ((asks_meta columns).all db T rows see shows)) is
