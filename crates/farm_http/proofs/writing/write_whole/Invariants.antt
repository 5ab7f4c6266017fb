-- What was written so far is the front of the bytes, with no more writes than bytes.
use Rattle.std.proofs.Common.{◌≡◌, ◌-◌, ◌≤◌, ◌⊎◌, length, take}
use Rattle.std.specs.Io.KnownBytes.{Appends}
use Rattle.farm_http.specs.Room.{KeepsRoom}
use Rattle.farm_http.specs.Turns.{TakesAtMost}
use Rattle.farm_http.proofs.writing.write_whole.Given as goal

abbrev pub invariant-loop-done : goal.invariant-loop-done
invariant-loop-done g l = record {
  within : l.done ≤ length l.bytes;
  turns : TakesAtMost l.done (g.W.Output.turns l.fn.writer) (g.W.Output.turns l.writer);
  written : Appends (g.W.Write.contents l.fn.writer) (g.W.Write.contents l.writer) (take l.done l.bytes);
  first : l.done ≡ 0 → l.writer ≡ l.fn.writer;
  sure : g.W.Output.has_room l.fn.writer (length l.bytes) → (l.done ≡ 0) ⊎ (l.done ≡ length l.bytes);
  room : KeepsRoom (g.W.Output.has_room l.fn.writer) (g.W.Output.has_room l.writer) (g.W.Write.contents l.fn.writer) (g.W.Write.contents l.writer);
}

abbrev pub decreases-loop-done : goal.decreases-loop-done
decreases-loop-done g l = length l.bytes - l.done
