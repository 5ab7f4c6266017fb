use Rattle.std.proofs.Common.{◌≡◌, ◌∙◌, ◌++◌, ◌∷◌, pos, ◌+ℤ◌, ◌*ℤ◌, None, ap, rules, string_bytes}
use Rattle.jiff.specs.Words.{civil_nanos, date_text, time_text}
use Rattle.farm_report.proofs.MomentLemmas.{in_seconds, no_fraction, together}
use Rattle.farm_report.proofs.moment.moment_text.Goals as goal

pub returns-clause-text : goal.returns-clause-text
returns-clause-text c =
    let civil = c.to_datetime-civil.result in
    let instant : c.unwrap-instant.result.nanosecond ≡ pos c.args.moment *ℤ pos 1_000_000_000 = search rules in
    let nanos : civil_nanos civil ≡ (pos c.args.moment +ℤ c.args.zone.seconds) *ℤ pos 1_000_000_000 =
    together (civil_nanos civil) c.unwrap-instant.result.nanosecond (pos c.args.moment) c.args.zone.seconds c.to_datetime-civil.ensures instant in
    let whole = in_seconds civil (pos c.args.moment +ℤ c.args.zone.seconds) nanos in
    let written : string_bytes c.in_ok-format.field-0 ≡ date_text civil.date ++ 32 ∷ time_text None civil.time = search rules in
    (civil, whole.0, written ∙ ap (λ t. date_text civil.date ++ 32 ∷ t) (no_fraction civil.time whole.1))
