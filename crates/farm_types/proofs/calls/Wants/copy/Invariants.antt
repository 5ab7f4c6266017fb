use Rattle.std.proofs.Common.{◌≡◌, take}
use Rattle.farm_types.proofs.calls.Wants.copy.Given as goal

-- the first ones are copied
abbrev pub invariant-loop-want : goal.invariant-loop-want
invariant-loop-want l = l.items.items ≡ take l.want-index l.want-items
