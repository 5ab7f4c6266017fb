use Rattle.std.proofs.Common.{◌≡◌, ◌≤◌, ◌==◌, length, map, take}
use Rattle.std.specs.List.{filter}
use Rattle.farm_types.specs.Names.{most_wants}
use Rattle.farm_core.proofs.Serving.{wants_of}
use Rattle.farm_core.proofs.pass.serve.wants_in.Given as goal

abbrev pub invariant-loop-row : goal.invariant-loop-row
invariant-loop-row l = record {
  long : length l.wants ≡ most_wants;
  few : l.count ≤ l.row-index;
  wants : map (λ w. w.now) (take l.count l.wants) ≡ wants_of (filter (λ j. j.group == l.group) (take l.row-index l.rows));
}
