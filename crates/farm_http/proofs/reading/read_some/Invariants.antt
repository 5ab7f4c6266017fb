-- The turns that are left fall, and an interrupted read leaves the known bytes and is no failure.
use Rattle.std.proofs.Common.{◌≡◌}
use Rattle.std.specs.Io.KnownBytes.{Keeps}
use Rattle.farm_http.specs.Turns.{LeavesTurns}
use Rattle.farm_http.proofs.reading.read_some.Given as goal

abbrev pub invariant-loop-left : goal.invariant-loop-left
invariant-loop-left g l = record {
  turns : LeavesTurns l.fn.left l.left (g.R.Input.turns l.fn.reader) (g.R.Input.turns l.reader);
  kept : Keeps (g.R.Read.remaining l.fn.reader) (g.R.Read.remaining l.reader);
  sure : g.R.Input.never_fails → l.left ≡ l.fn.left;
}

abbrev pub decreases-loop-left : goal.decreases-loop-left
decreases-loop-left g l = l.left
