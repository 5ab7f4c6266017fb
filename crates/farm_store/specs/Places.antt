-- Where each kind of row stands among the six tables.
use Rattle.std.specs.Prelude.{◌≡◌, ℕ, List, length}
use Rattle.std.specs.declared.cmp.Ordering.{Ordering}
use Rattle.sqlite.specs.Order.{Row}
use Rattle.sqlite.specs.Tree.{Trees}
use Rattle.sqlite_schema.specs.declared.schema.Column.{Column}
use Rattle.farm_types.specs.Names.{put_all}
use Rattle.farm_store.specs.Columns.{TableRows, by_first, by_two}
use Rattle.farm_store.specs.Schema.{meta_table}
use Rattle.farm_store.specs.Stored.{ListsRows, row_less_rowid, with_number}

-- one of the six tables: its tree, what a raw row of it shows, how wide that is, the order of its
-- rows, which rows they are, and the tables with other rows there
pub record TableSlot : Type 0 where
  pub tree : ℕ
  pub show : Row → Row
  pub width : ℕ
  pub cmp : Row → Row → Ordering
  pub rows : TableRows → List Row
  pub replaced : TableRows → List Row → TableRows

-- a table with this tree, these columns, these rows among the tables and the tables with others
abbrev pub slot : ℕ → (Row → Row) → List Column → (Row → Row → Ordering) → (TableRows → List Row)
    → (TableRows → List Row → TableRows) → TableSlot
slot tree show columns cmp rows replaced =
    record { tree = tree; show = show; width = length columns; cmp = cmp; rows = rows; replaced = replaced }

-- the five tables with these columns
abbrev pub of_types_with : List Column → TableSlot
of_types_with columns = slot 0 row_less_rowid columns by_first (λ T. T.types) (λ T rows. record T { types = rows })

abbrev pub of_boards_with : List Column → TableSlot
of_boards_with columns = slot 2 row_less_rowid columns by_first (λ T. T.boards) (λ T rows. record T { boards = rows })

abbrev pub of_jobs_with : List Column → TableSlot
of_jobs_with columns = slot 4 with_number columns by_first (λ T. T.jobs) (λ T rows. record T { jobs = rows })

abbrev pub of_reservations_with : List Column → TableSlot
of_reservations_with columns =
    slot 5 with_number columns by_first (λ T. T.reservations) (λ T rows. record T { reservations = rows })

abbrev pub of_kept_with : List Column → TableSlot
of_kept_with columns = slot 6 row_less_rowid columns by_two (λ T. T.kept) (λ T rows. record T { kept = rows })

-- that of the numbers, whatever columns the others have
abbrev pub of_meta : TableSlot
of_meta = slot 8 row_less_rowid meta_table.columns by_first (λ T. T.meta) (λ T rows. record T { meta = rows })

-- the tree has the rows that the tables have at this place
abbrev pub HoldsAt : TableSlot → Trees → TableRows → Type 0
HoldsAt p db T = ListsRows p.cmp p.show p.width (db p.tree) (p.rows T)

-- the tables with rows put at this place: each in the place of the row with its key, or added in
-- order of the keys
abbrev pub put_at : TableSlot → TableRows → List Row → TableRows
put_at p T rows = p.replaced T (put_all p.cmp (p.rows T) rows)

-- rows put at this place are those that stand there, also over others; those that stand there
-- already change nothing
pub record IsTableSlot (p : TableSlot) : Type 0 where
  pub own : (T : TableRows) (rows : List Row) → p.rows (p.replaced T rows) ≡ rows
  pub over : (T : TableRows) (rows more : List Row) → p.replaced (p.replaced T rows) more
      ≡ p.replaced T more
  pub same : (T : TableRows) → p.replaced T (p.rows T) ≡ T
