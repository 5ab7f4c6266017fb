-- A reservation, by its number.
use Rattle.std.proofs.Common.{sym}
use Rattle.std.proofs.Math.Path.{subst}
use Rattle.std.proofs.lemmas.Result.{on_ok_weaker}
use Rattle.json.specs.Print.{quoted}
use Rattle.farm_types.specs.Names.{holder_text}
use Rattle.farm_wire.proofs.shown.put_holder.Goals as goal

pub returns-in-Res : goal.returns-in-Res
returns-in-Res g c = on_ok_weaker _ (subst (λ holder. g.S.Sink.Takes c.args.sink.now c.put_numbered-in-Res.new.sink (quoted (holder_text holder))) (sym c.in-Res.is)) c.put_numbered-in-Res.ensures
