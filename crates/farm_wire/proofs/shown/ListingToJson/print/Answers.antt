-- A brace, the key, a colon, the rows, a brace.
use Rattle.std.proofs.lemmas.Result.{on_ok_weaker}
use Rattle.farm_wire.proofs.shown.ListingToJson.print.Goals as goal

pub returns : goal.returns
returns g c =
    let joins = g.met.S.Sink.joins in
    on_ok_weaker _ (λ last. joins _ _ _ _ _ c.in_ok-put.ensures (joins _ _ _ _ _ c.in_ok-put_text.ensures (joins _ _ _ _ _ c.in_ok-put-2.ensures (joins _ _ _ _ _ c.in_ok-put_rows.ensures last)))) c.put-3.ensures
