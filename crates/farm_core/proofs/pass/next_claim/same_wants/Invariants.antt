use Rattle.std.proofs.Common.{◌≡◌, map, take}
use Rattle.farm_core.proofs.pass.next_claim.same_wants.Given as goal

abbrev pub invariant-loop-place : goal.invariant-loop-place
invariant-loop-place l = take l.place l.first ≡ map (λ w. w.now) (take l.place l.second)
