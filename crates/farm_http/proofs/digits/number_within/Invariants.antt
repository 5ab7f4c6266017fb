-- The number so far, and the digits that are left.
use Rattle.std.proofs.Common.{◌≡◌, ◌≤◌, drop}
use Rattle.std.specs.Str.Parse.{digits_value, digits_value_after}
use Rattle.farm_http.proofs.digits.number_within.Given as goal

abbrev pub invariant-loop-digit : goal.invariant-loop-digit
invariant-loop-digit l = record {
  small : l.number ≤ l.most;
  rest : digits_value_after 10 l.number (drop l.digit-index l.text) ≡ digits_value 10 l.text;
}
