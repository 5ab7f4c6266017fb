use Rattle.std.proofs.Common.{◌≡◌, map, take}
use Rattle.farm_core.proofs.pass.next_claim.remember.Given as goal

abbrev pub invariant-loop-want : goal.invariant-loop-want
invariant-loop-want l = l.copy.items ≡ map (λ w. w.now) (take l.want-index l.wants)
