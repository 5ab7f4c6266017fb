-- The text so far has the lines of the boards so far.
use Rattle.std.proofs.Common.{string_bytes, take}
use Rattle.farm_report.specs.Lines.{AreLines, IsBoardLine}
use Rattle.farm_report.proofs.reports.boards_text.Given as goal

abbrev pub invariant-loop-row : goal.invariant-loop-row
invariant-loop-row l = AreLines (IsBoardLine l.zone.seconds) (take l.row-index l.row-items) (string_bytes l.text)
