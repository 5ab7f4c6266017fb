-- The sum so far is that of those that were yielded.
use Rattle.std.proofs.Common.{◌≡◌, ◌-◌, ◌^◌, map, min}
use Rattle.farm_room.specs.Waiting.{held_by}
use Rattle.farm_room.proofs.row.held.Given as goal

abbrev pub invariant-loop-one : goal.invariant-loop-one
invariant-loop-one l = l.sum ≡ min (held_by (map (λ one. one.now) l.yielded)) (2 ^ 64 - 1)
