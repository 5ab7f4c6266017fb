-- Where nothing was known by the first bytes, nothing is by those that were looked at.
use Rattle.std.proofs.Common.{◌-◌, ◌≡◌, length}
use Rattle.farm_types.specs.Names.{most_fields}
use Rattle.farm_http.specs.Heads.{IsOpenBelow}
use Rattle.farm_http.proofs.front.front_of.Given as goal

abbrev pub invariant-loop-at : goal.invariant-loop-at
invariant-loop-at l = record {
  fields : length l.headers ≡ most_fields;
  open_lines : IsOpenBelow l.seen l.bytes → IsOpenBelow l.at l.bytes;
}

abbrev pub decreases-loop-at : goal.decreases-loop-at
decreases-loop-at l = l.end - l.at
