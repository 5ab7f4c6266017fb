-- A comma, a row, and the rows that are left.
use Rattle.std.proofs.Common.{◌≡◌, ◌<◌, ◌+◌, ◌∷◌, ◌∙◌, ap, sym, drop, map, length, arith}
use Rattle.std.proofs.Math.Path.{subst}
use Rattle.std.proofs.lemmas.List.{drop_all, drop_more}
use Rattle.std.proofs.lemmas.Result.{on_ok_weaker}
use Rattle.serde_json.specs.View.{items_of}
use Rattle.serde_json.specs.Written.{items_text}
use Rattle.farm_wire.proofs.shown.put_rows.Goals as goal

pub loop-row-init : goal.loop-row-init
loop-row-init g c = λ end taken. taken

pub loop-row-preserved : goal.loop-row-preserved
loop-row-preserved g c =
    let joins = g.met.S.Sink.joins in
    let rows = c.args.rows.now in
    let i = c.loop-row.row-index in
    let row = c.row-item.result in
    let within : i < length rows = omega arith in
    let next : drop i rows ≡ row ∷ drop (i + 1) rows = drop_more rows i row within ∙ ap (λ x. x ∷ drop (i + 1) rows) (sym c.row-item.is) in
    λ end taken. c.loop-row.invariant end
    (subst (λ xs. g.S.Sink.Takes c.loop-row.sink end (items_text c.loop-row.later (items_of (map g.R.ToJson.json xs)))) (sym next)
    (joins _ _ _ _ _ c.in_ok-put_comma.ensures (joins _ _ _ _ _ c.in_ok-print.ensures taken)))

pub returns : goal.returns
returns g c =
    let none = drop_all c.loop-row.row-index c.args.rows.now c.loop-row-test.false in
    on_ok_weaker _ (λ last. g.met.S.Sink.joins _ _ _ _ _ c.in_ok-put.ensures (c.loop-row.invariant _
    (subst (λ xs. g.S.Sink.Takes c.loop-row.sink c.put-2.new.self (items_text c.loop-row.later (items_of (map g.R.ToJson.json xs)))) (sym none) last)))
    c.put-2.ensures
