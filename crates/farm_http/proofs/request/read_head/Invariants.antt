-- The bytes so far came from the reader, and none of their lines ended a head.
use Rattle.std.proofs.Common.{◌+◌, ◌-◌, ◌≤◌, ◌≡◌, length}
use Rattle.std.specs.Prelude.{vec_capacity}
use Rattle.std.specs.Io.KnownBytes.{Consumes}
use Rattle.farm_types.specs.Names.{longest_head, most_fields}
use Rattle.farm_http.specs.Heads.{IsOpenBelow}
use Rattle.farm_http.specs.Turns.{LeavesTurns}
use Rattle.farm_http.proofs.request.read_head.Given as goal

abbrev pub invariant-loop-reader : goal.invariant-loop-reader
invariant-loop-reader g l = record {
  short : length l.bytes.items ≤ longest_head;
  capacity : vec_capacity l.fn.bytes ≤ vec_capacity l.bytes;
  turns : LeavesTurns l.fn.left l.left (g.R.Input.turns l.fn.reader) (g.R.Input.turns l.reader);
  room : length l.headers ≡ most_fields;
  taken : Consumes (g.R.Read.remaining l.fn.reader) (g.R.Read.remaining l.reader) l.bytes.items;
  open_lines : IsOpenBelow (length l.bytes.items) l.bytes.items;
  sure : g.R.Input.never_fails → l.fn.left ≤ l.left + length l.bytes.items;
}

abbrev pub decreases-loop-reader : goal.decreases-loop-reader
decreases-loop-reader g l = longest_head - length l.bytes.items
