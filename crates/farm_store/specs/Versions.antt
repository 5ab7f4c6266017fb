-- Which version a store's `meta` has, whatever else stands in the store.
use Rattle.std.specs.Prelude.{ℕ, List, IsTrue, codes}
use Rattle.std.specs.List.{list_any}
use Rattle.sqlite.specs.Effect.{Database}
use Rattle.sqlite.specs.Order.{Row}
use Rattle.farm_store.specs.Columns.{is_version_row}
use Rattle.farm_store.specs.Queries.{ReturnsRows}

-- the query of the table of numbers: it has an answer where `meta` has a name and a value
abbrev pub numbers_query : List ℕ
numbers_query = codes "SELECT name, value FROM meta ORDER BY name"

-- the query shows these rows of the database
abbrev pub ShowsNumbers : Database → List Row → Type 0
ShowsNumbers = ReturnsRows numbers_query

-- rows that it may show have this version
abbrev pub MayHaveVersion : ℕ → Database → Type 0
MayHaveVersion version db = (rows : List Row) × ShowsNumbers db rows × IsTrue
    (list_any (is_version_row version) rows)

-- whatever rows it shows, they have this version. (A table shows its rows, in one order or another;
-- a view of that name may show now these and now those.)
abbrev pub HasVersion : ℕ → Database → Type 0
HasVersion version db = (rows : List Row) → ShowsNumbers db rows
    → IsTrue (list_any (is_version_row version) rows)
