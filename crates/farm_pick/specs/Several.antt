-- The claims of two boards or more, by their spots, in the order of claims whatever their queue.
use Rattle.std.specs.Prelude.{◌≡◌, ℕ, nat_le, Bool, true, false, List, Option, Some, None}
use Rattle.std.specs.List.{list_any}
use Rattle.std.specs.Option.{option_map_or}
use Rattle.std.specs.Ordering.{is_eq, is_gt, nat_cmp, on, flip_args, then_cmp}
use Rattle.std.specs.declared.cmp.Ordering.{Ordering}
use Rattle.std.specs.declared.cmp.Ordering.TheVariants.{Less}
use Rattle.farm_types.specs.declared.claims.Claim.{Claim}
use Rattle.farm_pick.specs.Heads.{rank_cmp}
use Rattle.farm_pick.specs.Index.{IsWell, claim_at}
use Rattle.farm_pick.specs.declared.idle.IdleRow.{IdleRow}
use Rattle.farm_pick.specs.declared.index.Rank.{Rank}
use Rattle.farm_pick.specs.declared.spot.Place.{Place}
use Rattle.farm_pick.specs.declared.spot.Spot.{Spot}

-- as claims are ordered; of one claim's spots that of the later queue first, so that a spot in
-- queue 0 stands behind them all
abbrev pub ranked_cmp : Rank → Rank → Ordering
ranked_cmp = then_cmp (flip_args (on (λ r. r.spot.priority) nat_cmp))
    (then_cmp (on (λ r. r.spot.number) nat_cmp) (flip_args (on (λ r. r.spot.queue) nat_cmp)))

abbrev pub spots_cmp : Spot → Spot → Ordering
spots_cmp s t = ranked_cmp (record { spot = s }) (record { spot = t })

abbrev pub has_spot : List Rank → Spot → Bool
has_spot ranks s = list_any (λ r. is_eq (spots_cmp s r.spot)) ranks

-- whether a claim of two boards or more stands at a spot
abbrev pub is_several : List (Spot × Claim) → Spot → Bool
is_several es s = option_map_or (λ c. nat_le 2 c.boards) (claim_at es s) false

-- the spots of these claims
abbrev pub AreSeveral : List (Spot × Claim) → List Rank → Type 0
AreSeveral es ranks = (s : Spot) → has_spot ranks s ≡ is_several es s

-- the first spot behind a spot
abbrev pub IsNextSpot : List Rank → Spot → Option Spot → Type 0
IsNextSpot ranks last None = (t : Spot) → spots_cmp last t ≡ Less → has_spot ranks t ≡ false
IsNextSpot ranks last (Some s) = (spots_cmp last s ≡ Less) × (has_spot ranks s ≡ true)
    × ((t : Spot) → spots_cmp last t ≡ Less → has_spot ranks t ≡ true
    → is_gt (spots_cmp s t) ≡ false)

-- the first of these claims that comes after a spot, whatever the queue
abbrev pub IsFirstSeveral : List (Spot × Claim) → Spot → Option Claim → Type 0
IsFirstSeveral es last None = (t : Spot) → rank_cmp last t ≡ Less → is_several es t ≡ false
IsFirstSeveral es last (Some c) =
    (s : Spot) × (rank_cmp last s ≡ Less) × (claim_at es s ≡ Some c) × (nat_le 2 c.boards ≡ true)
    × ((t : Spot) → rank_cmp last t ≡ Less → is_several es t ≡ true → rank_cmp t s ≡ Less → ⊥)

-- a whole index
pub record QueuesInvariant (kinds : List (List ℕ)) (claims : List (Spot × Claim)) (places : List (ℕ × Place))
    (ranks : List Rank) (idle : List IdleRow) : Type 0 where
  pub well : IsWell kinds claims places idle
  pub several : AreSeveral claims ranks
