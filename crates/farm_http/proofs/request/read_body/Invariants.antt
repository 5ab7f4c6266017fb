-- The bytes so far came from the reader.
use Rattle.std.proofs.Common.{◌+◌, ◌-◌, ◌≤◌, length, take}
use Rattle.std.specs.Io.KnownBytes.{Consumes}
use Rattle.farm_http.specs.Turns.{LeavesTurns}
use Rattle.farm_http.proofs.request.read_body.Given as goal

abbrev pub invariant-loop-at : goal.invariant-loop-at
invariant-loop-at g l = record {
  within : l.at ≤ length l.body;
  turns : LeavesTurns l.fn.left l.left (g.R.Input.turns l.fn.reader) (g.R.Input.turns l.reader);
  taken : Consumes (g.R.Read.remaining l.fn.reader) (g.R.Read.remaining l.reader) (take l.at l.body);
  sure : g.R.Input.never_fails → l.fn.left ≤ l.left + l.at;
}

abbrev pub decreases-loop-at : goal.decreases-loop-at
decreases-loop-at g l = length l.initial.body - l.at
