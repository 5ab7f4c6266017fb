-- The first claim of a queue that comes after a spot, and the first of several queues.
use Rattle.std.specs.Prelude.{◌≡◌, ◌<◌, ◌==◌, ◌||◌, ◌+◌, ◌-◌, ℕ, Bool, false, List, length, map, Option, Some, None, IsSome, if◌then◌else◌}
use Rattle.std.specs.List.{AllByRecursion, filter_map, list_any, range_with_len}
use Rattle.std.specs.Ordering.{is_gt, is_lt, nat_cmp, ordering_then}
use Rattle.std.specs.declared.cmp.Ordering.{Ordering}
use Rattle.std.specs.declared.cmp.Ordering.TheVariants.{Less}
use Rattle.farm_types.specs.Names.{EachTwo, highest_priority, shown_cmp}
use Rattle.farm_types.specs.declared.claims.Claim.{Claim}
use Rattle.farm_pick.specs.Index.{spot_cmp, claim_at, kind_at, shown_claims, shown_idle, AreIdle, IsKeyed}
use Rattle.farm_pick.specs.Queued.{head_of, is_open}
use Rattle.farm_pick.specs.declared.spot.Spot.{Spot}
use Rattle.farm_pick.specs.declared.idle.IdleRow.{IdleRow}

abbrev pub IsFirstBehind : List (Spot × Claim) → Spot → Option Claim → Type 0
IsFirstBehind es last None = (t : Spot) → t.queue ≡ last.queue → spot_cmp last t ≡ Less
    → claim_at es t ≡ None
IsFirstBehind es last (Some c) =
    (s : Spot) × (s.queue ≡ last.queue) × (spot_cmp last s ≡ Less) × (claim_at es s ≡ Some c)
    × ((t : Spot) → t.queue ≡ last.queue → spot_cmp last t ≡ Less → IsSome (claim_at es t)
    → is_gt (spot_cmp s t) ≡ false)

-- as claims are ordered, whatever the queue
abbrev pub rank_cmp : Spot → Spot → Ordering
rank_cmp s t = ordering_then (nat_cmp t.priority s.priority) (nat_cmp s.number t.number)

-- of two claims the one that goes first
abbrev pub earlier_of : Option Claim → Option Claim → Option Claim
earlier_of None b = b
earlier_of (Some a) None = Some a
earlier_of (Some a) (Some b) = if is_lt (shown_cmp b a) then Some b else Some a

-- whether a board of a queue's type is free; for the reservations' queue any board
abbrev pub queue_open : List IdleRow → ℕ → Bool
queue_open rows q = list_any (λ r. (q == 0) || (r.queue == q)) rows

-- whether a claim comes after a spot, whatever the queue
abbrev pub rank_of_claim : Spot → Claim → Ordering
rank_of_claim last c = ordering_then (nat_cmp c.priority last.priority)
    (nat_cmp last.number c.number)

abbrev pub is_later : Spot → Claim → Bool
is_later last c = is_lt (rank_of_claim last c)

-- the spot of a claim that was tried; without one, a spot before all claims
abbrev pub last_spot : Option (ℕ × ℕ) → Spot
last_spot None = record { queue = 0; priority = highest_priority + 1; number = 0 }
last_spot (Some after) = record { queue = 0; priority = after.0; number = after.1 }

-- ---- the heads of the queues, one after the other

-- the claims and the free boards of an index, without its places
pub record AreHeads (kinds : List (List ℕ)) (es : List (Spot × Claim)) (rows : List IdleRow)
    : Type 0 where
  pub keyed : AllByRecursion (IsKeyed kinds) es
  pub apart : EachTwo (λ a b. a.1.number ≡ b.1.number → ⊥) es
  pub idle : AreIdle kinds rows

-- what the queue of a spot lends after the spot, where it is open or all are asked for
abbrev pub head_in : List (List ℕ) → List (Spot × Claim) → List IdleRow → Bool → Spot → Option Claim
head_in kinds es rows all last =
    head_of (is_later last) (λ k. all || is_open (map (shown_idle kinds) rows) k)
    (shown_claims kinds es) (kind_at kinds last.queue)

-- what the queues from one on lend
abbrev pub heads_from : List (List ℕ) → List (Spot × Claim) → List IdleRow → Bool → Spot → ℕ
    → List Claim
heads_from kinds es rows all last queue =
    filter_map (λ q. head_in kinds es rows all (record last { queue = q }))
    (range_with_len queue (length kinds + 1 - queue))
