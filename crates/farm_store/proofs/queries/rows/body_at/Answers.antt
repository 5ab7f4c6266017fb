use Rattle.std.proofs.Common.{sym, subst, ◌∙◌}
use Rattle.std.specs.Prelude.{IsUtf8}
use Rattle.std.proofs.lemmas.Str.{IsUtf8-from_is_utf8}
use Rattle.farm_types.specs.Words.{IsText}
use Rattle.farm_store.proofs.TagsRead.{same_text}
use Rattle.farm_store.proofs.queries.rows.body_at.Goals as goal

pub returns-in-Err : goal.returns-in-Err
returns-in-Err c = λ _ body good is.
    let text = c.in_ok-text_at.field-0.now in
    let same = same_text text body (sym c.in_ok-text_at.ensures ∙ is) in
    let valid : IsUtf8 text = IsUtf8-from_is_utf8 text (subst IsText (sym same) good) in
    c.in-Err.ensures.cases.0 valid
