-- What stands in the queues, and which boards are free, as two plain lists.
use Rattle.std.specs.Prelude.{◌≡◌, ◌&&◌, ℕ, Bool, true, false, List, [], ◌∷◌, map, Option, Some, None, if◌then◌else◌, option_map}
use Rattle.std.specs.List.{AllByRecursion, filter, find, list_any}
use Rattle.std.specs.Str.{bytes_eq}
use Rattle.farm_types.specs.Names.{Claimed, EachTwo, Farm, is_free, queue, shown_claim}
use Rattle.farm_types.specs.declared.rows.BoardRow.{BoardRow}
use Rattle.farm_types.specs.declared.claims.Claim.{Claim}
use Rattle.farm_types.specs.declared.rows.Want.{Want}

-- a claim, and the type in whose queue it stands: none for a reservation
pub record Queued : Type 0 where
  pub claim : Claim
  pub kind : Option (List ℕ)

-- a board that may be given, and its type
pub record IdleBoard : Type 0 where
  pub name : List ℕ
  pub kind : List ℕ

-- the two lists: the claims in the order of the queue, the boards in name order
pub record QueueLists : Type 0 where
  pub claims : List Queued
  pub boards : List IdleBoard

-- a group stands in the queue of its first want's type
abbrev pub first_kind : List Want → Option (List ℕ)
first_kind [] = None
first_kind (w ∷ ws) = w.kind

abbrev pub queue_kind : Claimed → Option (List ℕ)
queue_kind c = if c.reservation then None else first_kind c.wants

abbrev pub queued_of : Claimed → Queued
queued_of c = record { claim = shown_claim c; kind = queue_kind c }

abbrev pub idle_board : BoardRow → IdleBoard
idle_board b = record { name = b.name; kind = b.kind }

-- the two lists of a farm
abbrev pub idle_boards : Farm → List IdleBoard
idle_boards F = map idle_board (filter (is_free F.types) F.boards)

abbrev pub queue_lists : Farm → QueueLists
queue_lists F = record { claims = map queued_of (queue F); boards = idle_boards F }

-- a queue is open where a board of its type is free; that of the reservations where any board is
abbrev pub is_open : List IdleBoard → Option (List ℕ) → Bool
is_open boards None = list_any (λ b. true) boards
is_open boards (Some kind) = list_any (λ b. bytes_eq b.kind kind) boards

-- whether two types are those of one queue
abbrev pub same_kind : Option (List ℕ) → Option (List ℕ) → Bool
same_kind None None = true
same_kind None (Some kind) = false
same_kind (Some kind) None = false
same_kind (Some kind) (Some other) = bytes_eq kind other

-- the types of the queues: no queue twice, and each claim's is one
pub record AreKindsOf (claims : List Queued) (kinds : List (Option (List ℕ))) : Type 0 where
  pub apart : EachTwo (λ a b. same_kind a b ≡ false) kinds
  pub each : AllByRecursion (λ x. list_any (λ kind. same_kind kind x.kind) kinds ≡ true) claims

-- the first claim of a type's queue that passes a test, where the queue passes one
abbrev pub head_of : (Claim → Bool) → (Option (List ℕ) → Bool) → List Queued → Option (List ℕ)
    → Option Claim
head_of test opens claims kind =
    option_map (λ x. x.claim)
    (find (λ x. test x.claim && (opens x.kind && same_kind kind x.kind)) claims)
