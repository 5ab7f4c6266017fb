-- What puts the rows that are left puts them all.
use Rattle.std.proofs.Common.{drop, map, false}
use Rattle.serde_json.specs.View.{items_of}
use Rattle.serde_json.specs.Written.{items_text}
use Rattle.farm_wire.proofs.shown.put_rows.Given as goal

abbrev pub invariant-loop-row : goal.invariant-loop-row
invariant-loop-row g l = (end : g.row.S.Denot) → g.S.Sink.Takes l.sink end (items_text l.later (items_of (map g.R.ToJson.json (drop l.row-index l.rows)))) → g.S.Sink.Takes l.initial.sink end (items_text false (items_of (map g.R.ToJson.json l.rows)))
