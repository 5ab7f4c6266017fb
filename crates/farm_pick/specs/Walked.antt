-- A walk over the claims of several queues, in the order of the whole queue.
use Rattle.std.specs.Prelude.{◌≡◌, ◌<◌, ◌&&◌, ◌+◌, ℕ, Bool, true, false, List, ◌∷◌, map, length, get_or, Option, Some, None, IsSome, if◌then◌else◌}
use Rattle.std.specs.List.{filter}
use Rattle.std.specs.List.Sorted.{IsStrictlySortedBy}
use Rattle.std.specs.BTreeMap.Range.{entries_between}
use Rattle.std.specs.declared.ops.Bound.TheVariants.{Excluded, Unbounded}
use Rattle.std.specs.Ordering.{is_gt, is_lt}
use Rattle.std.specs.declared.cmp.Ordering.TheVariants.{Less}
use Rattle.farm_types.specs.Names.{shown_cmp}
use Rattle.farm_types.specs.declared.claims.Claim.{Claim}
use Rattle.farm_pick.specs.Heads.{AreHeads, IsFirstBehind, is_later, queue_open}
use Rattle.farm_pick.specs.Index.{claim_at, shown_claims, shown_idle, spot_cmp}
use Rattle.farm_pick.specs.Queued.{Queued, is_open}
use Rattle.farm_pick.specs.declared.idle.IdleRow.{IdleRow}
use Rattle.farm_pick.specs.declared.spot.Spot.{Spot}
use Rattle.farm_pick.specs.declared.walk.Cursor.{Cursor}

-- the claims after a spot, of the queues that pass a test
abbrev pub claims_after : (Option (List ℕ) → Bool) → Spot → List Queued → List Claim
claims_after opens last claims =
    map (λ x. x.claim) (filter (λ x. is_later last x.claim && opens x.kind) claims)

-- what a walk lends: the claims of open queues after a spot
abbrev pub walk_from : List (List ℕ) → List (Spot × Claim) → List IdleRow → Spot → List Claim
walk_from kinds es rows last =
    claims_after (is_open (map (shown_idle kinds) rows)) last (shown_claims kinds es)

-- the entries of the map behind a spot
abbrev pub entries_behind : List (Spot × Claim) → Spot → List (Spot × Claim)
entries_behind es spot = entries_between spot_cmp (Excluded spot) Unbounded es

-- a cursor stands at the first claim after a spot in the spot's queue, with the entries behind it
pub record IsCursorAt (es : List (Spot × Claim)) (last : Spot) (x : Cursor) : Type 0 where
  pub spot : Spot
  pub queue : spot.queue ≡ last.queue
  pub after : spot_cmp last spot ≡ Less
  pub claim : claim_at es spot ≡ Some x.claim.now
  pub first : (t : Spot) → t.queue ≡ last.queue → spot_cmp last t ≡ Less → IsSome (claim_at es t)
      → is_gt (spot_cmp spot t) ≡ false
  pub rest : x.rest ≡ entries_behind es spot
  pub sorted : IsStrictlySortedBy spot_cmp (map (λ e. e.0) es)

-- where a walk stands in the queue of a spot, after the spot
abbrev pub StandsIn : List (Spot × Claim) → Spot → Option Cursor → Type 0
StandsIn es last None = IsFirstBehind es last None
StandsIn es last (Some x) = IsCursorAt es last x

-- and in a queue that may be closed
abbrev pub IsCursor : List (Spot × Claim) → (ℕ → Bool) → Spot → Option Cursor → Type 0
IsCursor es test last None = test last.queue ≡ true → IsFirstBehind es last None
IsCursor es test last (Some x) = (test last.queue ≡ true) × IsCursorAt es last x

-- where it stands in each of the first n queues, after a spot
pub record AreCursors (es : List (Spot × Claim)) (test : ℕ → Bool) (last : Spot) (n : ℕ)
    (cursors : List (Option Cursor)) : Type 0 where
  pub len : length cursors ≡ n
  pub each : (q : ℕ) → q < n → IsCursor es test (record last { queue = q }) (get_or cursors q None)

pub record IsWalk (kinds : List (List ℕ)) (es : List (Spot × Claim)) (rows : List IdleRow)
    (last : Spot) (cursors : List (Option Cursor)) : Type 0 where
  pub heads : AreHeads kinds es rows
  pub cursors_at : AreCursors es (queue_open rows) last (length kinds + 1) cursors

-- the first of what is left of the map, if it is of the queue, and what is left then
abbrev pub StepsTo : List (Spot × Claim) → ℕ → Option Cursor → Type 0
StepsTo rest queue None = (e : Spot × Claim) (more : List (Spot × Claim)) → rest ≡ e ∷ more
    → e.0.queue ≡ queue → ⊥
StepsTo rest queue (Some x) =
    (spot : Spot) × (rest ≡ (spot, x.claim.now) ∷ x.rest) × (spot.queue ≡ queue)

-- of a place with its claim, and the place of a cursor, the one whose claim goes first
abbrev pub earlier_place : Option (ℕ × Claim) → ℕ → Option Cursor → Option (ℕ × Claim)
earlier_place first place None = first
earlier_place None place (Some x) = Some (place, x.claim.now)
earlier_place (Some first) place (Some x) =
    if is_lt (shown_cmp x.claim.now first.1) then Some (place, x.claim.now) else Some first

-- the place of the cursor whose claim goes first
abbrev pub IsLeastOf : List (Option Cursor) → Option ℕ → Type 0
IsLeastOf cursors None = (i : ℕ) → i < length cursors → get_or cursors i None ≡ None
IsLeastOf cursors (Some place) =
    (x : Cursor) × (place < length cursors) × (get_or cursors place None ≡ Some x)
    × ((i : ℕ) (y : Cursor) → i < length cursors → get_or cursors i None ≡ Some y
    → is_lt (shown_cmp y.claim.now x.claim.now) ≡ false)
