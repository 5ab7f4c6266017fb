use Rattle.std.proofs.Common.{sym, ap, ◌∙◌}
use Rattle.sqlite.specs.declared.types.Value.TheVariants.{Text}
use Rattle.farm_store.proofs.Names.{column, tags_read_only}
use Rattle.farm_store.proofs.TagsRead.{read_good, refuses_tags}
use Rattle.farm_store.proofs.queries.rows.tags_at.Goals as goal

pub returns-clause-reads : goal.returns-clause-reads
returns-clause-reads c =
    let text = c.in_ok-text_at.field-0.now in
    rw c.in_ok-share.ensures.same
    (read_good text c.in_ok-tags.tags c.in_ok-tags.ensures, c.in_ok-text_at.ensures ∙ ap (λ t. Text t) (sym (tags_read_only c.in_ok-tags.tags text c.in_ok-tags.ensures)))

pub returns-in_err-tags-clause-reads : goal.returns-in_err-tags-clause-reads
returns-in_err-tags-clause-reads c =
    refuses_tags c.from_residual-in_err-tags.result c.in_err-tags.field-0.0 c.in_ok-text_at.field-0.now (column c.args.row.now c.args.at) c.from_residual-in_err-tags.ensures.1 c.in_ok-text_at.ensures c.in_err-tags.ensures
