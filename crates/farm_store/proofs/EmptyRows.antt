-- The numbers of the empty farm.
use Rattle.std.proofs.Common.{◌≡◌, [], ◌∷◌, codes}
use Rattle.farm_store.proofs.Names.{empty_farm, of_meta, put_at, value_cmp-Text}
use Rattle.farm_store.specs.Columns.{no_rows, rows_of, meta_row, number_rows, numbers_of, second_schema}

pub empty_rows : put_at of_meta (put_at of_meta no_rows (number_rows (numbers_of empty_farm))) (meta_row (codes "schema") second_schema ∷ []) ≡ rows_of empty_farm
unfolding rows_of
empty_rows = simp value_cmp-Text
