-- The place of the claim tried last, and which claims come after it.
use Rattle.std.proofs.Common.{◌+◌, ◌≡◌, ◌≤◌, None, Option, Some, ap, arith, refl, sym, ℕ}
use Rattle.farm_pick.proofs.Names.{is_lt, nat_cmp, nat_cmp_is, ordering_then}
use Rattle.std.specs.declared.cmp.Ordering.TheVariants.{Less}
use Rattle.farm_types.specs.Names.{Claimed, highest_priority, shown_claim}
use Rattle.farm_pick.specs.Heads.{is_later, last_spot}
use Rattle.farm_pick.specs.Merged.{comes_after}

-- the place of the claim tried last
abbrev pub place_of : Option Claimed → Option (ℕ × ℕ)
place_of None = None
place_of (Some c) = Some (c.priority, c.number)

pub later_same : (last : Option Claimed) (c : Claimed) → c.priority ≤ highest_priority → is_later (last_spot (place_of last)) (shown_claim c) ≡ comes_after last c
later_same None c low = ap (λ o. is_lt (ordering_then o (nat_cmp 0 c.number))) (sym (nat_cmp_is c.priority (highest_priority + 1) Less (omega arith)))
later_same (Some l) c low = refl
