-- A byte more.
use Rattle.std.proofs.Common.{◌<◌, length, ap, arith}
use Rattle.std.proofs.Math.Path.{subst}
use Rattle.std.proofs.lemmas.List.{take_all}
use Rattle.json.specs.Print.{escape}
use Rattle.farm_wire.proofs.WrittenLemmas.{escape_more}
use Rattle.farm_wire.proofs.text.put_bytes.Goals as goal

pub loop-byte-init : goal.loop-byte-init
loop-byte-init g c = g.met.S.Sink.nothing c.args.sink.now

pub loop-byte-preserved : goal.loop-byte-preserved
loop-byte-preserved g c =
    let i = c.loop-byte.byte-index in
    let within : i < length c.args.text.now = omega arith in
    subst (g.S.Sink.Takes c.args.sink.now c.put_byte.new.sink) (escape_more c.args.text.now i within)
    (g.met.S.Sink.joins _ _ _ _ _ c.loop-byte.invariant c.in_ok-put_byte.ensures)

pub returns : goal.returns
returns g c =
    subst (g.S.Sink.Takes c.args.sink.now c.loop-byte.sink)
    (ap escape (take_all c.loop-byte.byte-index c.args.text.now c.loop-byte-test.false)) c.loop-byte.invariant
