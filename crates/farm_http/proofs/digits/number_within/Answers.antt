-- The digits that are left make no smaller number.
use Rattle.std.proofs.Common.{◌<◌, subst, ℕ, rules}
use Rattle.farm_http.proofs.DigitLemmas.{digits_exceed}
use Rattle.farm_http.proofs.digits.number_within.Goals as goal

pub returns-then-number-most : goal.returns-then-number-most
returns-then-number-most c =
    subst (λ (n : ℕ). c.args.most < n) c.loop-digit.invariant.rest (digits_exceed c.args.most c.args.text.now c.loop-digit.number c.loop-digit.digit-index (search rules) (search rules))
