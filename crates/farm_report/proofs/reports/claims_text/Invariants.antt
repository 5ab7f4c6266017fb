-- The text so far is that of the claims so far.
use Rattle.std.proofs.Common.{◌≡◌, string_bytes, take}
use Rattle.farm_report.specs.Lines.{claims_text}
use Rattle.farm_report.proofs.reports.claims_text.Given as goal

abbrev pub invariant-loop-claim : goal.invariant-loop-claim
invariant-loop-claim l = string_bytes l.text ≡ claims_text (take l.claim-index l.claims)
