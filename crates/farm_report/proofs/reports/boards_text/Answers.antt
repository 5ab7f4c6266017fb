use Rattle.std.proofs.Common.{◌<◌, ◌∙◌, Any, List, rules, string_bytes, subst}
use Rattle.farm_types.specs.declared.rows.BoardRow.{BoardRow}
use Rattle.farm_report.specs.Lines.{IsBoardLine}
use Rattle.farm_report.specs.Moments.{last_second}
use Rattle.farm_report.proofs.LineLemmas.{lines_next}
use Rattle.farm_report.proofs.SoundMoments.{late_board}
use Rattle.farm_report.proofs.reports.boards_text.Goals as goal

pub loop-row-preserved : goal.loop-row-preserved
loop-row-preserved c =
    lines_next (IsBoardLine c.args.zone.seconds) c.boards-row-items.result.now c.loop-row.row-index c.row-item.result (string_bytes c.loop-row.text)
    (string_bytes c.in_ok-line.line) (string_bytes c.push_line.new.text) (search rules) (search rules) c.loop-row.invariant
    c.in_ok-line.ensures.line (search rules)

pub returns-in_err-line-clause-fault : goal.returns-in_err-line-clause-fault
returns-in_err-line-clause-fault c = λ bad.
    late_board c.args.farm.now (λ e. c.is_failed-failed.ensures.sound (c.is_failed-failed.ensures.failed ∙ e))
    (subst (λ (rows : List BoardRow). Any (λ row. last_second < row.last_check) rows) c.boards-row-items.ensures (search rules))
