-- A quote, a word of plain bytes, which shows as it is, a quote.
use Rattle.std.proofs.Common.{sym, ◌∙◌, ◌++◌, ◌∷◌, []}
use Rattle.std.proofs.Math.Path.{subst}
use Rattle.std.proofs.lemmas.Result.{on_ok_weaker}
use Rattle.farm_wire.proofs.WrittenLemmas.{escape_plain}
use Rattle.farm_wire.proofs.text.put_word.Goals as goal

pub returns : goal.returns
returns g c =
    let joins = g.met.S.Sink.joins in
    on_ok_weaker _ (λ last. subst (λ text. g.S.Sink.Takes c.args.sink.now c.put-3.new.self (34 ∷ (text ++ 34 ∷ [])))
    (c.as_bytes.ensures.value ∙ sym (escape_plain c.args.word.now c.requires))
    (joins _ _ _ _ _ c.in_ok-put.ensures (joins _ _ _ _ _ c.in_ok-put-2.ensures last))) c.put-3.ensures
