-- What the reader of JSON ensures, as the definition says it.
use Rattle.std.proofs.Common.{sym, ap, ◌∙◌}
use Rattle.serde_json.specs.Read.{read}
use Rattle.farm_wire.proofs.ObjectLemmas.{body_ok, body_err}
use Rattle.farm_wire.proofs.ValueLemmas.{there_is}
use Rattle.farm_wire.proofs.fields.object_of.Goals as goal

pub returns-in_default : goal.returns-in_default
returns-in_default c = body_err c.args.body.now (λ utf8. absurd (c.in_default.ensures.cases.0 utf8))

pub returns-then-is_object : goal.returns-then-is_object
returns-then-is_object c =
    body_ok c.args.body.now _ c.in-Ok.ensures.cases.1 (ap read (sym c.in-Ok.ensures.cases.0) ∙ there_is _ _ c.in_ok-value.ensures)
    (sym c.is_object.ensures ∙ c.if-is_object.true)
