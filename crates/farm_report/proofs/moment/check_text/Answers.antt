use Rattle.std.proofs.Common.{string_bytes}
use Rattle.std.proofs.lemmas.Result.{IfOk-weaker}
use Rattle.farm_report.proofs.MomentLemmas.{checked_then}
use Rattle.farm_report.proofs.moment.check_text.Goals as goal

pub returns-clause-text : goal.returns-clause-text
returns-clause-text c =
    IfOk-weaker c.moment_text.result _ _ (λ text shows. checked_then c.args.zone.seconds c.args.moment (string_bytes text) c.if-moment-eq0.false shows)
    c.moment_text.ensures.text
