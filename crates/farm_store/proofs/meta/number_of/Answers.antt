use Rattle.std.proofs.Common.{◌≡◌, ap, ◌∙◌, rules}
use Rattle.sqlite.specs.declared.types.Value.TheVariants.{Text}
use Rattle.farm_store.proofs.NumberRows.{number_read}
use Rattle.farm_store.proofs.meta.number_of.Goals as goal

pub returns-then-eq : goal.returns-then-eq
returns-then-eq c = λ wide.
    let same : c.in_ok-text_at.field-0.now ≡ c.args.name.now = search rules in
    number_read c.number_at.result c.args.row.now c.args.name.now wide (c.in_ok-text_at.ensures ∙ ap (λ t. Text t) same) c.number_at.ensures
