-- What rows a table of the store holds.
use Rattle.std.specs.Prelude.{◌≡◌, ◌≢◌, IsTrue, ℕ, List, ◌∷◌, drop, length}
use Rattle.std.specs.List.{AllByRecursion}
use Rattle.std.specs.declared.cmp.Ordering.{Ordering}
use Rattle.std.specs.declared.cmp.Ordering.TheVariants.{Less}
use Rattle.sqlite.specs.Order.{Row}
use Rattle.sqlite_value.specs.Order.{column}
use Rattle.sqlite_trees.specs.Tree.{IsAscending, IsTable, rowid}
use Rattle.sqlite_trees.specs.View.{is_int}
use Rattle.sqlite_rules.specs.Lists.{Has}

-- in strict order, so no key comes twice
abbrev pub IsStrict : {X : Type 0} → (X → X → Ordering) → List X → Type 0
IsStrict cmp = IsAscending (λ a b. cmp a b ≡ Less)

-- the rows show different columns
abbrev pub Differ : (Row → Row) → Row → Row → Type 0
Differ show a b = show a ≢ show b

abbrev pub HasInt : Row → Type 0
HasInt r = IsTrue (is_int (rowid r))

abbrev pub IsWide : ℕ → Row → Type 0
IsWide width r = length r ≡ width

-- what the table's raw rows show are these rows in strict order, each as wide as the table
pub record ListsRows (cmp : Row → Row → Ordering) (show : Row → Row) (width : ℕ) (raws rows : List Row)
    : Type 0 where
  -- the rowids are integers that rise
  pub ordered : IsTable raws
  pub keyed : AllByRecursion HasInt raws
  pub apart : IsAscending (Differ show) raws
  pub strict : IsStrict cmp rows
  pub wide : AllByRecursion (IsWide width) rows
  pub sound : (r : Row) → Has rows r → (raw : Row) × Has raws raw × (show raw ≡ r)
  pub complete : (raw : Row) → Has raws raw → Has rows (show raw)

-- a raw row less its rowid, and a raw row whose first column is its rowid
abbrev pub row_less_rowid : Row → Row
row_less_rowid r = drop 1 r

abbrev pub with_number : Row → Row
with_number r = column r 0 ∷ drop 2 r
