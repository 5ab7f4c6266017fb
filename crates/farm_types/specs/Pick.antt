-- Which boards may be given to which claim.
use Rattle.std.specs.Prelude.{◌≡◌, ◌⊎◌, ℕ, zero, suc, ◌==◌, ◌&&◌, ◌||◌, ◌++◌, Bool, true, false, not, List, [], ◌∷◌, length, map, Option, IsTrue, if◌then◌else◌}
use Rattle.std.specs.List.{find, filter, list_all, list_any, flat_map, AllByRecursion}
use Rattle.std.specs.Option.{option_map_or}
use Rattle.std.specs.Str.{bytes_eq}
use Rattle.std.specs.Cmp.Lexicographic.{pointwise, slice_cmp}
use Rattle.std.specs.Ordering.{ordering_then, nat_cmp, is_lt}
use Rattle.std.specs.declared.cmp.Ordering.{Ordering}
use Rattle.farm_types.specs.Words.{name_tag}
use Rattle.farm_types.specs.Codes.{same_health, same_job_state, same_res_state}
use Rattle.farm_types.specs.Table.{put_all, board_cmp}
use Rattle.farm_types.specs.Farm.{Farm, members}
use Rattle.farm_types.specs.declared.rows.Health.{Health}
use Rattle.farm_types.specs.declared.rows.Holder.{Holder}
use Rattle.farm_types.specs.declared.rows.JobState.{JobState}
use Rattle.farm_types.specs.declared.rows.ResState.{ResState}
use Rattle.farm_types.specs.declared.rows.Check.{Check}
use Rattle.farm_types.specs.declared.rows.Want.{Want}
use Rattle.farm_types.specs.declared.rows.TypeRow.{TypeRow}
use Rattle.farm_types.specs.declared.rows.BoardRow.{BoardRow}
use Rattle.farm_types.specs.declared.rows.JobRow.{JobRow}
use Rattle.farm_types.specs.declared.rows.ResRow.{ResRow}
use Rattle.farm_types.specs.declared.claims.Claim.{Claim}
use Rattle.farm_types.specs.declared.claims.ClaimKind.{ClaimKind}

-- a board of the want's type, if it names one, that has each of the want's tags or carries it for its name
abbrev pub fits : BoardRow → Want → Bool
fits board want =
    option_map_or (λ kind. bytes_eq board.kind kind) want.kind true
    && list_all (λ tag. list_any (bytes_eq tag) board.tags || bytes_eq tag (name_tag board.name)) want.tags

-- how often a type is checked
abbrev pub check_of : List TypeRow → List ℕ → Check
check_of types kind = option_map_or (λ t. t.check) (find (λ t. bytes_eq t.name kind) types) Check.Never

abbrev pub is_checked : Check → Bool
is_checked Check.Never = false
is_checked check = true

abbrev pub is_nobody : Holder → Bool
is_nobody Holder.Nobody = true
is_nobody holder = false

-- a Good board, or an Unknown one of a type without a check
abbrev pub serves : List TypeRow → BoardRow → Bool
serves types board =
    same_health board.health Health.Good
    || (same_health board.health Health.Unknown && not (is_checked (check_of types board.kind)))

-- one that serves and that nobody holds
abbrev pub is_free : List TypeRow → BoardRow → Bool
is_free types board = serves types board && is_nobody board.holder

abbrev pub not_retired : BoardRow → Bool
not_retired board = not (same_health board.health Health.Retired)

-- the boards have different names
abbrev pub are_apart : List BoardRow → Bool
are_apart [] = true
are_apart (b ∷ bs) = not (list_any (λ c. bytes_eq b.name c.name) bs) && are_apart bs

-- as many boards as wants, all different, each passing the test, and each fitting its want
abbrev pub meets : (BoardRow → Bool) → List Want → List BoardRow → Bool
meets test wants bs = pointwise fits bs wants && are_apart bs && list_all test bs

-- lists of boards are compared name by name
abbrev pub names_cmp : List BoardRow → List BoardRow → Ordering
names_cmp = slice_cmp board_cmp

-- x is one of the list
abbrev pub IsAmong : {A : Type 0} → A → List A → Type 0
IsAmong x [] = ⊥
IsAmong x (y ∷ ys) = (x ≡ y) ⊎ IsAmong x ys

abbrev pub AreAmong : List BoardRow → List BoardRow → Type 0
AreAmong boards bs = AllByRecursion (λ b. IsAmong b boards) bs

-- these boards meet the wants, and no list of boards that meets them comes before
pub record IsLeast (boards : List BoardRow) (test : BoardRow → Bool) (wants : List Want) (bs : List BoardRow) : Type 0 where
  pub among : AreAmong boards bs
  pub meeting : IsTrue (meets test wants bs)
  pub least : (cs : List BoardRow) → AreAmong boards cs → IsTrue (meets test wants cs) → is_lt (names_cmp cs bs) ≡ false

-- all lists of n of the boards; of boards in name order, the lists that come before stand before
abbrev pub board_lists : ℕ → List BoardRow → List (List BoardRow)
board_lists zero boards = [] ∷ []
board_lists (suc n) boards = flat_map (λ b. map (λ bs. b ∷ bs) (board_lists n boards)) boards

-- the least list, if any list meets the wants
unfoldable pub least : List BoardRow → (BoardRow → Bool) → List Want → Option (List BoardRow)
least boards test wants = find (meets test wants) (board_lists (length wants) boards)

-- a waiting reservation, or a group whose members all wait for boards
pub record Claimed : Type 0 where
  pub reservation : Bool
  pub number : ℕ
  pub owner : List ℕ
  pub priority : ℕ
  pub wants : List Want

-- the higher priority goes first, then the smaller number
abbrev pub claim_cmp : Claimed → Claimed → Ordering
claim_cmp a b = ordering_then (nat_cmp b.priority a.priority) (nat_cmp a.number b.number)

abbrev pub is_waiting : ResRow → Bool
is_waiting r = same_res_state r.state ResState.Waiting

abbrev pub res_claim : ResRow → Claimed
res_claim r = record { reservation = true; number = r.number; owner = r.owner; priority = r.priority; wants = r.want ∷ [] }

-- a Submitted job waits for boards, and so does a Scheduling one, whose board can still be taken back
abbrev pub waits : JobRow → Bool
waits j = same_job_state j.state JobState.Submitted || same_job_state j.state JobState.Scheduling

-- the first member of a group whose members all wait
abbrev pub leads_claim : Farm → JobRow → Bool
leads_claim F j = (j.number == j.group) && list_all waits (members F j.group)

abbrev pub group_claim : Farm → JobRow → Claimed
group_claim F j = record { reservation = false; number = j.group; owner = j.owner; priority = j.priority; wants = map (λ m. m.want) (members F j.group) }

abbrev pub claims : Farm → List Claimed
claims F = map res_claim (filter is_waiting F.reservations) ++ map (group_claim F) (filter (leads_claim F) F.jobs)

-- the claims in the order in which they are taken
abbrev pub queue : Farm → List Claimed
queue F = put_all claim_cmp [] (claims F)

-- a claim as the queue shows it
abbrev pub shown_claim : Claimed → Claim
shown_claim c = record {
  kind = if c.reservation then ClaimKind.Reservation else ClaimKind.Group;
  number = c.number;
  owner = c.owner;
  priority = c.priority;
  boards = length c.wants;
}

abbrev pub shown_cmp : Claim → Claim → Ordering
shown_cmp a b = ordering_then (nat_cmp b.priority a.priority) (nat_cmp a.number b.number)
