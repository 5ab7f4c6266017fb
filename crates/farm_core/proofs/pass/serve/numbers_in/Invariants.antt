use Rattle.std.proofs.Common.{◌≡◌, ◌≤◌, ◌==◌, take}
use Rattle.std.specs.List.{filter}
use Rattle.arrayvec.specs.ArrayVec.{array_vec_len}
use Rattle.farm_core.proofs.Serving.{numbers_of}
use Rattle.farm_core.proofs.pass.serve.numbers_in.Given as goal

abbrev pub invariant-loop-row : goal.invariant-loop-row
invariant-loop-row l = record {
  few : array_vec_len l.numbers ≤ l.row-index;
  numbers : l.numbers.items ≡ numbers_of (filter (λ j. j.group == l.group) (take l.row-index l.rows));
}
