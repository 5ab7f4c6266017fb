use Rattle.std.proofs.Common.{◌≡◌, ◌++◌}
use Rattle.std.specs.BTreeMap.{values}
use Rattle.farm_pick.proofs.index.in_order.Given as goal

-- the copies so far, and those that are left
abbrev pub invariant-loop-claim : goal.invariant-loop-claim
invariant-loop-claim l = l.sorted.items ++ l.claim-iterator ≡ values l.claims
