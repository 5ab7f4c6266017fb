-- How the queues follow the rows.
use Rattle.std.specs.Prelude.{◌≡◌, ◌≢◌, ◌==◌, ◌+◌, ℕ, List, Option, None, false, not, map, if◌then◌else◌}
use Rattle.std.specs.List.{AllByRecursion, filter, fold}
use Rattle.std.specs.List.Sorted.{IsStrictlySortedBy}
use Rattle.std.specs.Option.{option_map_or}
use Rattle.std.specs.Str.{bytes_eq}
use Rattle.farm_types.specs.Names.{act, board_cmp, Claimed, Farm, is_free, job_of, lease, new_res, put, put_all, res_claim}
use Rattle.farm_types.specs.declared.rows.BoardRow.{BoardRow}
use Rattle.farm_types.specs.declared.claims.Claim.{Claim}
use Rattle.farm_types.specs.declared.claims.ClaimKind.{ClaimKind}
use Rattle.farm_types.specs.declared.calls.Cmd.{Cmd}
use Rattle.farm_types.specs.declared.rows.JobRow.{JobRow}
use Rattle.farm_types.specs.declared.rows.ResRow.{ResRow}
use Rattle.farm_types.specs.declared.rows.TypeRow.{TypeRow}
use Rattle.farm_sound.specs.Keys.{job_in}
use Rattle.farm_pick.specs.Queued.{IdleBoard, QueueLists, Queued, idle_board, idle_boards, queue_lists, queued_of}
use Rattle.farm_pick.specs.Index.{named_cmp, queued_cmp}
use Rattle.farm_core.specs.declared.tables.Tables.{Tables}

-- the queues with a claim more, and without the claim of a number
abbrev pub with_claim : Claimed → QueueLists → QueueLists
with_claim c lists = record lists { claims = put queued_cmp lists.claims (queued_of c) }

abbrev pub without_claim : ℕ → QueueLists → QueueLists
without_claim number lists = record lists {
  claims = filter (λ x. not (x.claim.number == number)) lists.claims;
}

-- no claim has the number
abbrev pub IsFresh : ℕ → List Queued → Type 0
IsFresh number claims = AllByRecursion (λ x. x.claim.number ≡ number → ⊥) claims

-- a new group and a new reservation come into the queues, a canceled one leaves them; no other
-- command but a pass changes who waits
abbrev pub queues_after : Farm → List ℕ → Cmd → QueueLists → QueueLists
queues_after F caller (Cmd.Submit priority wants roles body) lists = with_claim (record {
  reservation = false;
  number = F.next;
  owner = caller;
  priority = priority;
  wants = wants;
}) lists
queues_after F caller (Cmd.Reserve priority tags) lists =
    with_claim (res_claim (new_res F.next caller priority tags (F.clock + lease))) lists
queues_after F caller (Cmd.Cancel number) lists =
    option_map_or (λ j. without_claim j.group lists) (job_of F number) lists
queues_after F caller (Cmd.CancelRes number) lists = without_claim number lists
queues_after F caller cmd lists = lists

-- the free ones of some boards
abbrev pub free_of : List TypeRow → List BoardRow → List IdleBoard
free_of types boards = map idle_board (filter (is_free types) boards)

-- the free boards without one of a name, and without those of some names
abbrev pub without_board : List IdleBoard → List ℕ → List IdleBoard
without_board boards name = filter (λ x. not (bytes_eq x.name name)) boards

abbrev pub without_boards : List (List ℕ) → List IdleBoard → List IdleBoard
without_boards names boards = fold without_board boards names

-- the free boards that are known are those among some boards, from which the log leads on
pub record FollowsLog (t : Tables) : Type 0 where
  pub boards : List BoardRow
  pub sorted : IsStrictlySortedBy board_cmp boards
  pub led : put_all board_cmp boards t.boards.log ≡ t.boards.rows
  pub free : t.queues.boards ≡ free_of t.types.rows boards

-- a board's row puts it among the free ones, or takes it from them
abbrev pub free_boards_with : List TypeRow → List IdleBoard → BoardRow → List IdleBoard
free_boards_with types boards b =
    if is_free types b then put named_cmp boards (idle_board b) else without_board boards b.name

-- the claims without those of some reservations
abbrev pub without_all : List ResRow → List Queued → List Queued
without_all rows claims =
    fold (λ xs r. filter (λ x. not (x.claim.number == r.number)) xs) claims rows

-- what the machine says of who waits after a command that is no pass, and that no board becomes free
-- by a type that is added
pub record FollowsIn (F : Farm) (caller : List ℕ) (cmd : Cmd) : Type 0 where
  pub claims : cmd ≢ Cmd.Pass
      → (queues_after F caller cmd (queue_lists F)).claims
      ≡ (queue_lists (act F caller cmd).farm).claims
  pub free : cmd ≢ Cmd.Pass → free_of (act F caller cmd).farm.types F.boards ≡ idle_boards F

-- the type in whose queue a claim stands, by the rows of jobs: its first member's
abbrev pub kind_by : List JobRow → ℕ → ClaimKind → Option (List ℕ)
kind_by jobs number ClaimKind.Reservation = None
kind_by jobs number ClaimKind.Group = option_map_or (λ j. j.want.kind) (job_in jobs number) None

abbrev pub kind_in : List JobRow → Claim → Option (List ℕ)
kind_in jobs claim = kind_by jobs claim.number claim.kind
