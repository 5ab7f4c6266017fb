-- Rows in strict order of their keys. An order compares two rows by their keys alone.
use Rattle.std.specs.Prelude.{Bool, List, [], ◌∷◌, map, if◌then◌else◌}
use Rattle.std.specs.List.{fold}
use Rattle.std.specs.Ordering.{match_ordering, ordering_then, nat_cmp}
use Rattle.std.specs.declared.cmp.Ordering.{Ordering}
use Rattle.farm_types.specs.Words.{text_cmp}
use Rattle.farm_types.specs.declared.rows.TypeRow.{TypeRow}
use Rattle.farm_types.specs.declared.rows.BoardRow.{BoardRow}
use Rattle.farm_types.specs.declared.rows.JobRow.{JobRow}
use Rattle.farm_types.specs.declared.rows.ResRow.{ResRow}
use Rattle.farm_types.specs.declared.rows.KeptRow.{KeptRow}

-- the row takes the place of the one with its key, or is added in key order
abbrev pub put : {R : Type 0} → (R → R → Ordering) → List R → R → List R
put cmp [] row = row ∷ []
put cmp (r ∷ rows) row = match_ordering (cmp row r) (row ∷ r ∷ rows) (row ∷ rows) (r ∷ put cmp rows row)

-- one row after another
abbrev pub put_all : {R : Type 0} → (R → R → Ordering) → List R → List R → List R
put_all cmp rows changed = fold (put cmp) rows changed

-- the rows that pass are changed, the others stay
abbrev pub change_where : {R : Type 0} → (R → Bool) → (R → R) → List R → List R
change_where test f rows = map (λ r. if test r then f r else r) rows

-- the keys of the five tables
abbrev pub type_cmp : TypeRow → TypeRow → Ordering
type_cmp a b = text_cmp a.name b.name

abbrev pub board_cmp : BoardRow → BoardRow → Ordering
board_cmp a b = text_cmp a.name b.name

abbrev pub job_cmp : JobRow → JobRow → Ordering
job_cmp a b = nat_cmp a.number b.number

abbrev pub res_cmp : ResRow → ResRow → Ordering
res_cmp a b = nat_cmp a.number b.number

abbrev pub kept_cmp : KeptRow → KeptRow → Ordering
kept_cmp a b = ordering_then (text_cmp a.caller b.caller) (text_cmp a.key b.key)
