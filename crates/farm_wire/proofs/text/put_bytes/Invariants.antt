-- The bytes so far stand as they do between quotes.
use Rattle.std.proofs.Common.{take}
use Rattle.json.specs.Print.{escape}
use Rattle.farm_wire.proofs.text.put_bytes.Given as goal

abbrev pub invariant-loop-byte : goal.invariant-loop-byte
invariant-loop-byte g l = g.S.Sink.Takes l.fn.sink l.sink (escape (take l.byte-index l.text))
