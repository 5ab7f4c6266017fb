-- The index of the queues: the claims of all queues in one ordered map, one queue behind the other,
-- and where each number stands.
use Rattle.std.specs.Prelude.{◌≡◌, ◌≤◌, ◌<◌, ◌==◌, ◌&&◌, ℕ, zero, suc, Bool, true, false, cond, List, [], map, length, Option, Some, None, is_some, slice_get}
use Rattle.std.specs.Prelude.{unwrap_or, Result, MatchResult, get_or, set}
use Rattle.std.specs.List.{AllByRecursion, insert}
use Rattle.std.specs.Str.{bytes_eq}
use Rattle.std.specs.List.Sorted.{IsStrictlySortedBy}
use Rattle.farm_types.specs.Names.{EachTwo, put, put_all, shown_cmp, text_cmp}
use Rattle.farm_types.specs.declared.claims.Claim.{Claim}
use Rattle.std.specs.Map.{lookup, remove_entry}
use Rattle.std.specs.Option.{option_map_or}
use Rattle.std.specs.Ordering.{is_eq, nat_cmp, on, flip_args, then_cmp}
use Rattle.std.specs.declared.cmp.Ordering.{Ordering}
use Rattle.farm_pick.specs.Queued.{Queued, IdleBoard}
use Rattle.farm_pick.specs.declared.spot.Spot.{Spot}
use Rattle.farm_pick.specs.declared.spot.Place.{Place}
use Rattle.farm_pick.specs.declared.idle.IdleRow.{IdleRow}

-- by queue, and in a queue as claims are ordered
abbrev pub spot_cmp : Spot → Spot → Ordering
spot_cmp = then_cmp (on (λ s. s.queue) nat_cmp) (then_cmp (flip_args (on (λ s. s.priority) nat_cmp))
    (on (λ s. s.number) nat_cmp))

abbrev pub queued_cmp : Queued → Queued → Ordering
queued_cmp a b = shown_cmp a.claim b.claim

-- the type of a queue: that of the reservations, 0, has none
abbrev pub kind_at : List (List ℕ) → ℕ → Option (List ℕ)
kind_at kinds zero = None
kind_at kinds (suc i) = slice_get kinds i

abbrev pub shown_entry : List (List ℕ) → Spot × Claim → Queued
shown_entry kinds e = record { claim = e.1; kind = kind_at kinds e.0.queue }

abbrev pub shown_claims : List (List ℕ) → List (Spot × Claim) → List Queued
shown_claims kinds es = put_all queued_cmp [] (map (shown_entry kinds) es)

-- a claim stands at its own spot, in a queue that is there
pub record IsKeyed (kinds : List (List ℕ)) (e : Spot × Claim) : Type 0 where
  pub number : e.0.number ≡ e.1.number
  pub priority : e.0.priority ≡ e.1.priority
  pub queue : e.0.queue ≤ length kinds

abbrev pub claim_at : List (Spot × Claim) → Spot → Option Claim
claim_at es s = lookup (λ x. is_eq (spot_cmp s x)) es

abbrev pub place_at : List (ℕ × Place) → ℕ → Option Place
place_at ps n = lookup (λ m. is_eq (nat_cmp n m)) ps

-- whether the number of a spot stands there
abbrev pub is_placed : List (ℕ × Place) → Spot → Bool
is_placed ps s = option_map_or (λ p. (p.queue == s.queue) && (p.priority == s.priority))
    (place_at ps s.number) false

pub record AreQueues (kinds : List (List ℕ)) (claims : List (Spot × Claim))
    (places : List (ℕ × Place)) : Type 0 where
  pub keyed : AllByRecursion (IsKeyed kinds) claims
  pub apart : EachTwo (λ a b. a.1.number ≡ b.1.number → ⊥) claims
  pub placed : (s : Spot) → is_some (claim_at claims s) ≡ is_placed places s

-- the claim of a number that is placed is taken from its spot
pub record Takes (es fs : List (Spot × Claim)) (ps qs : List (ℕ × Place)) (n : ℕ) (p : Place)
    : Type 0 where
  pub removed : fs ≡ remove_entry
      (λ x. is_eq (spot_cmp (record { queue = p.queue; priority = p.priority; number = n }) x)) es
  pub claims : (s : Spot)
      → claim_at fs s
      ≡ cond (is_eq (spot_cmp (record { queue = p.queue; priority = p.priority; number = n }) s))
      None (claim_at es s)
  pub places : (m : ℕ) → place_at qs m ≡ cond (is_eq (nat_cmp n m)) None (place_at ps m)

abbrev pub TakesOrStays : List (Spot × Claim) → List (Spot × Claim) → List (ℕ × Place)
    → List (ℕ × Place) → ℕ → Option Place → Type 0
TakesOrStays es fs ps qs n None = (fs ≡ es) × (qs ≡ ps)
TakesOrStays es fs ps qs n (Some p) = Takes es fs ps qs n p

-- ---- where a row stands, or is to be inserted, in a list in order

module _ {R : Type 0} (cmp : R → R → Ordering) (HasKey : R → Type 0) (rows : List R)
    (found : Option R) where
  -- the row stands at the place, and a row with its key is put by setting it there
  pub record IsAt (place : ℕ) : Type 0 where
    pub within : place < length rows
    pub row : (d : R) → found ≡ Some (get_or rows place d)
    pub puts : (row : R) → HasKey row → put cmp rows row ≡ set rows place row

  -- no row has the key, and a row with it is put by inserting it at the place
  pub record IsGap (place : ℕ) : Type 0 where
    pub within : place ≤ length rows
    pub row : found ≡ None
    pub puts : (row : R) → HasKey row → put cmp rows row ≡ insert rows place row

  -- where a search ends
  abbrev pub IsPlace : Result ℕ ℕ → Type 0
  IsPlace place = MatchResult place IsAt IsGap

-- ---- the free boards

abbrev pub idle_cmp : IdleRow → IdleRow → Ordering
idle_cmp a b = text_cmp a.name b.name

abbrev pub shown_idle : List (List ℕ) → IdleRow → IdleBoard
shown_idle kinds r = record { name = r.name; kind = unwrap_or (kind_at kinds r.queue) [] }

-- no type stands at two places
abbrev pub AreKinds : List (List ℕ) → Type 0
AreKinds kinds = (i j : ℕ) (a b : List ℕ) → slice_get kinds i ≡ Some a → slice_get kinds j ≡ Some b
    → bytes_eq a b ≡ true → i ≡ j

pub record IsIdle (kinds : List (List ℕ)) (r : IdleRow) : Type 0 where
  pub low : 1 ≤ r.queue
  pub high : r.queue ≤ length kinds

pub record AreIdle (kinds : List (List ℕ)) (rows : List IdleRow) : Type 0 where
  pub apart : AreKinds kinds
  pub each : AllByRecursion (IsIdle kinds) rows
  pub sorted : IsStrictlySortedBy idle_cmp rows

pub record IsWell (kinds : List (List ℕ)) (claims : List (Spot × Claim)) (places : List (ℕ × Place))
    (idle : List IdleRow) : Type 0 where
  pub queues : AreQueues kinds claims places
  pub free : AreIdle kinds idle

abbrev pub named_cmp : IdleBoard → IdleBoard → Ordering
named_cmp a b = text_cmp a.name b.name
