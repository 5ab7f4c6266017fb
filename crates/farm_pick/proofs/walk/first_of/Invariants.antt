use Rattle.std.specs.Option.{option_map}
use Rattle.farm_pick.proofs.Walking.{LeastBelow}
use Rattle.farm_pick.proofs.walk.first_of.Given as goal

abbrev pub invariant-loop-place : goal.invariant-loop-place
invariant-loop-place l = LeastBelow l.cursors l.place (option_map (λ f. (f.0, f.1.now)) l.first)
