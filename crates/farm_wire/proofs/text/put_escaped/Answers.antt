-- A text of plain bytes shows as it is.
use Rattle.std.proofs.Common.{sym, ◌∙◌}
use Rattle.std.proofs.Math.Path.{subst}
use Rattle.std.proofs.lemmas.Result.{on_ok_weaker}
use Rattle.farm_wire.proofs.WrittenLemmas.{escape_plain}
use Rattle.farm_wire.proofs.text.put_escaped.Goals as goal

pub returns-then-are_plain : goal.returns-then-are_plain
returns-then-are_plain g c =
    let plain = sym c.are_plain.ensures ∙ c.if-are_plain.true in
    on_ok_weaker _ (subst (g.S.Sink.Takes c.args.sink.now c.put.new.self) (sym (escape_plain c.args.text.now plain))) c.put.ensures
