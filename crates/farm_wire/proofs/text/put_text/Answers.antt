-- A quote, the text, a quote.
use Rattle.std.proofs.Math.Path.{subst}
use Rattle.std.proofs.lemmas.Result.{on_ok_weaker}
use Rattle.json.specs.Print.{quoted}
use Rattle.farm_wire.proofs.text.put_text.Goals as goal

pub returns : goal.returns
returns g c =
    let joins = g.met.S.Sink.joins in
    on_ok_weaker _ (λ last. subst (λ text. g.S.Sink.Takes c.args.sink.now c.put-2.new.self (quoted text)) c.as_bytes.ensures.value
    (joins _ _ _ _ _ c.in_ok-put.ensures (joins _ _ _ _ _ c.in_ok-put_escaped.ensures last))) c.put-2.ensures
