-- A farm's tables of the first edition, with its jobs as the second has them and two numbers put, are those of the second.
use Rattle.std.proofs.Common.{◌≡◌, [], ◌∷◌, codes, refl, sym, ap, ◌∙◌}
use Rattle.farm_store.proofs.Names.{Edition, Farm, MetaRow, of_meta, put_at, tables_with_jobs, value_cmp-Text}
use Rattle.farm_types.specs.Table.{put_all}
use Rattle.farm_store.specs.Columns.{by_first, first_meta_rows, first_rows_of, meta_row, meta_rows, numbers_of, rows_of, second_schema}

pub first_is : (F : Farm) → first_rows_of F ≡ tables_with_jobs Edition.First F.jobs (first_rows_of F)
unfolding first_rows_of
first_is F = refl

numbers_over : (m : MetaRow) → put_all by_first (put_all by_first (first_meta_rows m) (meta_row (codes "collector") 0 ∷ [])) (meta_row (codes "schema") second_schema ∷ []) ≡ meta_rows (record m { collector = 0 })
numbers_over m = simp value_cmp-Text

pub raised : (F : Farm) → F.collector ≡ 0
    → put_at of_meta (put_at of_meta (tables_with_jobs Edition.Second F.jobs (first_rows_of F)) (meta_row (codes "collector") 0 ∷ [])) (meta_row (codes "schema") second_schema ∷ []) ≡ rows_of F
unfolding rows_of first_rows_of
raised F none =
    let collector : record (numbers_of F) { collector = 0 } ≡ numbers_of F = ap (λ c. record (numbers_of F) { collector = c }) (sym none) in
    let meta = numbers_over (numbers_of F) ∙ ap meta_rows collector in
    cc
