-- A quote, the word, the number, a quote.
use Rattle.std.proofs.Common.{◌++◌, ◌∙◌}
use Rattle.std.proofs.Math.Path.{subst, subst₂}
use Rattle.std.proofs.lemmas.Result.{on_ok_weaker}
use Rattle.json.specs.Print.{quoted}
use Rattle.farm_wire.proofs.WrittenLemmas.{quoted_both}
use Rattle.farm_wire.proofs.shown.put_numbered.Goals as goal

pub returns : goal.returns
returns g c =
    let joins = g.met.S.Sink.joins in
    let takes = g.S.Sink.Takes c.args.sink.now c.put-2.new.self in
    on_ok_weaker _ (λ last. subst₂ (λ word number. takes (quoted (word ++ number))) c.as_bytes.ensures.value (c.as_bytes-2.ensures.value ∙ c.format.ensures.text)
    (subst takes (quoted_both c.as_bytes.result.now c.as_bytes-2.result.now)
    (joins _ _ _ _ _ c.in_ok-put.ensures (joins _ _ _ _ _ c.in_ok-put_escaped.ensures (joins _ _ _ _ _ c.in_ok-put_escaped-2.ensures last))))) c.put-2.ensures
