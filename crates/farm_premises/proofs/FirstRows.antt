-- The numbers of the empty farm in the first edition.
use Rattle.std.proofs.Common.{◌≡◌, [], ◌∷◌, codes}
use Rattle.sqlite_value.proofs.OrderLemmas.{value_cmp-Text}
use Rattle.farm_types.specs.Names.{empty_farm}
use Rattle.farm_store.specs.Columns.{first_rows_of, meta_row, no_rows}
use Rattle.farm_store.specs.Places.{of_meta, put_at}

pub first_rows : put_at of_meta (put_at of_meta (put_at of_meta (put_at of_meta no_rows (meta_row (codes "clock") 0 ∷ [])) (meta_row (codes "count") 0 ∷ [])) (meta_row (codes "next") 1 ∷ [])) (meta_row (codes "schema") 1 ∷ []) ≡ first_rows_of empty_farm
unfolding first_rows_of
first_rows = simp value_cmp-Text
