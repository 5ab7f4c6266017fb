use Rattle.std.proofs.Common.{◌∙◌}
use Rattle.std.proofs.lemmas.List.Folds.{list_all-map, list_all_at}
use Rattle.std.proofs.lemmas.Result.{err_from_is_err_and}
use Rattle.farm_types.specs.Words.{is_tag}
use Rattle.farm_types.proofs.SortedTags.{refused_part}
use Rattle.farm_types.proofs.tags.tags_in.Goals as goal

pub returns-in_err-parse : goal.returns-in_err-parse
returns-in_err-parse c =
    let p = err_from_is_err_and c.from_residual-in_err-parse.result c.from_residual-in_err-parse.ensures.1 in
    rw (p.1, p.2) (refused_part c.in_err-parse.field-0.0 _ _ c.in_err-parse.ensures.reads
    (λ bad. list_all-map is_tag (λ part. part.now) c.args.parts.now ∙ list_all_at (λ part. is_tag part.now) c.args.parts.now c.loop-part.part-index _ c.loop-part-test.true bad))
