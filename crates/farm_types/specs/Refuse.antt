-- Why a call is refused: the first code that applies.
use Rattle.std.specs.Prelude.{ℕ, ◌==◌, ◌&&◌, ◌||◌, Bool, true, false, not, nat_le, nat_lt, List, [], ◌∷◌, length, max, Option, Some, None, is_some, is_none}
use Rattle.std.specs.Prelude.{if◌then◌else◌, codes}
use Rattle.std.specs.List.{filter, list_any}
use Rattle.std.specs.Option.{option_map_or, option_or}
use Rattle.std.specs.Bool.{then_some}
use Rattle.std.specs.Str.{bytes_eq}
use Rattle.farm_types.specs.Limits.{last_moment, most_boards, most_boards_of_type, most_commands, most_replies, most_reservations, most_types, numbers_end}
use Rattle.farm_types.specs.Refusals.{bad_moment, board_exists, board_is_held, board_is_retired, forbidden, full, key_reused, no_board, no_job, no_reservation}
use Rattle.farm_types.specs.Refusals.{no_such_boards, no_type, reservation_expired, type_exists, wrong_job_state, wrong_reservation_state}
use Rattle.farm_types.specs.Codes.{same_health, same_job_state, same_res_state}
use Rattle.farm_types.specs.Farm.{Farm, type_of, board_of, job_of, res_of, kept_of, members}
use Rattle.farm_types.specs.Pick.{is_nobody, least, not_retired, waits}
use Rattle.farm_types.specs.Pass.{is_dead, has_room}
use Rattle.farm_types.specs.declared.rows.Health.{Health}
use Rattle.farm_types.specs.declared.rows.JobState.{JobState}
use Rattle.farm_types.specs.declared.rows.ResState.{ResState}
use Rattle.farm_types.specs.declared.rows.Want.{Want}
use Rattle.farm_types.specs.declared.rows.BoardRow.{BoardRow}
use Rattle.farm_types.specs.declared.rows.JobRow.{JobRow}
use Rattle.farm_types.specs.declared.rows.ResRow.{ResRow}
use Rattle.farm_types.specs.declared.rows.KeptRow.{KeptRow}
use Rattle.farm_types.specs.declared.calls.Cmd.{Cmd}
use Rattle.farm_types.specs.declared.calls.Call.{Call}

-- a test, and the code where it holds
abbrev pub RefusalTest : Type 0
RefusalTest = Bool × ℕ

abbrev pub first_code : List RefusalTest → Option ℕ
first_code [] = None
first_code (reason ∷ reasons) = if reason.0 then Some reason.1 else first_code reasons

-- the effective moment
abbrev pub moment : Farm → Call → ℕ
moment F call = max F.clock call.now

-- the number of the command
abbrev pub kind_of : Cmd → ℕ
kind_of (Cmd.AddType name check) = 1
kind_of (Cmd.AddBoard name kind tags) = 2
kind_of (Cmd.SetTags name tags) = 3
kind_of (Cmd.SetHealth name health) = 4
kind_of (Cmd.Submit priority wants roles body) = 5
kind_of (Cmd.Cancel number) = 6
kind_of (Cmd.Start number) = 7
kind_of (Cmd.Finish number outcome) = 8
kind_of (Cmd.Reserve priority tags) = 9
kind_of (Cmd.Acquire number) = 10
kind_of (Cmd.Release number) = 11
kind_of (Cmd.Refresh number) = 12
kind_of (Cmd.CancelRes number) = 13
kind_of Cmd.Pass = 14

abbrev pub is_admin : List ℕ → Bool
is_admin caller = bytes_eq caller (codes "admin")

abbrev pub is_dispatcher : List ℕ → Bool
is_dispatcher caller = bytes_eq caller (codes "dispatcher")

-- who may give a command, owners aside
abbrev pub may_give : List ℕ → Cmd → Bool
may_give caller (Cmd.AddType name check) = is_admin caller
may_give caller (Cmd.AddBoard name kind tags) = is_admin caller
may_give caller (Cmd.SetTags name tags) = is_admin caller
may_give caller (Cmd.SetHealth name health) = is_admin caller
may_give caller (Cmd.Submit priority wants roles body) = not (is_dispatcher caller)
may_give caller (Cmd.Start number) = is_dispatcher caller || is_admin caller
may_give caller (Cmd.Finish number outcome) = is_dispatcher caller || is_admin caller
may_give caller (Cmd.Reserve priority tags) = not (is_dispatcher caller)
may_give caller Cmd.Pass = is_dispatcher caller || is_admin caller
may_give caller cmd = true

-- whether the row is there and passes
abbrev pub board_is : Farm → List ℕ → (BoardRow → Bool) → Bool
board_is F name test = option_map_or test (board_of F name) false

abbrev pub job_is : Farm → ℕ → (JobRow → Bool) → Bool
job_is F number test = option_map_or test (job_of F number) false

abbrev pub res_is : Farm → ℕ → (ResRow → Bool) → Bool
res_is F number test = option_map_or test (res_of F number) false

abbrev pub is_retired : BoardRow → Bool
is_retired b = same_health b.health Health.Retired

-- a job can be canceled until it is Canceling
abbrev pub can_cancel : JobRow → Bool
can_cancel j = waits j || same_job_state j.state JobState.Scheduled || same_job_state j.state JobState.Running

-- a waiting, allocated or acquired reservation is alive
abbrev pub is_alive : ResRow → Bool
is_alive r = same_res_state r.state ResState.Waiting || same_res_state r.state ResState.Allocated || same_res_state r.state ResState.Acquired

-- the four commands on a reservation are refused alike: it isn't there, another's, past its deadline, or in the wrong state
abbrev pub res_reasons : Farm → ℕ → ℕ → (ResRow → Bool) → (ResRow → Bool) → List RefusalTest
res_reasons F t number mine right =
    (is_none (res_of F number), no_reservation)
    ∷ (not (res_is F number mine), forbidden)
    ∷ (res_is F number (λ r. same_res_state r.state ResState.Expired || is_dead t r), reservation_expired)
    ∷ (not (res_is F number right), wrong_reservation_state)
    ∷ []

abbrev pub owned_by : List ℕ → List ℕ → Bool
owned_by caller owner = bytes_eq caller owner || is_admin caller

-- ---- each command's own reasons, in their order

abbrev pub add_type_reasons : Farm → List ℕ → List RefusalTest
add_type_reasons F name = (is_some (type_of F name), type_exists) ∷ []

abbrev pub add_board_reasons : Farm → List ℕ → List ℕ → List RefusalTest
add_board_reasons F name kind = (is_none (type_of F kind), no_type) ∷ (is_some (board_of F name), board_exists) ∷ []

abbrev pub set_tags_reasons : Farm → List ℕ → List RefusalTest
set_tags_reasons F name = (is_none (board_of F name), no_board) ∷ (board_is F name is_retired, board_is_retired) ∷ []

abbrev pub set_health_reasons : Farm → List ℕ → Health → List RefusalTest
set_health_reasons F name health =
    (is_none (board_of F name), no_board)
    ∷ (board_is F name is_retired, board_is_retired)
    ∷ (same_health health Health.Retired && board_is F name (λ b. not (is_nobody b.holder)), board_is_held)
    ∷ []

abbrev pub submit_reasons : Farm → List Want → List RefusalTest
submit_reasons F wants =
    (list_any (λ w. option_map_or (λ kind. is_none (type_of F kind)) w.kind false) wants, no_type)
    ∷ (is_none (least F.boards not_retired wants), no_such_boards)
    ∷ []

abbrev pub cancel_reasons : Farm → List ℕ → ℕ → List RefusalTest
cancel_reasons F caller number =
    (is_none (job_of F number), no_job)
    ∷ (not (job_is F number (λ j. owned_by caller j.owner)), forbidden)
    ∷ (not (job_is F number (λ j. list_any can_cancel (members F j.group))), wrong_job_state)
    ∷ []

abbrev pub start_reasons : Farm → ℕ → List RefusalTest
start_reasons F number =
    (is_none (job_of F number), no_job) ∷ (not (job_is F number (λ j. same_job_state j.state JobState.Scheduled)), wrong_job_state) ∷ []

abbrev pub finish_reasons : Farm → ℕ → List RefusalTest
finish_reasons F number =
    (is_none (job_of F number), no_job)
    ∷ (not (job_is F number (λ j. same_job_state j.state JobState.Running || same_job_state j.state JobState.Canceling)), wrong_job_state)
    ∷ []

abbrev pub reserve_reasons : Farm → List (List ℕ) → List RefusalTest
reserve_reasons F tags = (is_none (least F.boards not_retired (record { kind = None; tags = tags } ∷ [])), no_such_boards) ∷ []

abbrev pub acquire_reasons : Farm → ℕ → List ℕ → ℕ → List RefusalTest
acquire_reasons F t caller number = res_reasons F t number (λ r. bytes_eq caller r.owner) (λ r. same_res_state r.state ResState.Allocated)

abbrev pub release_reasons : Farm → ℕ → List ℕ → ℕ → List RefusalTest
release_reasons F t caller number = res_reasons F t number (λ r. owned_by caller r.owner) (λ r. same_res_state r.state ResState.Acquired)

-- of Refresh and CancelRes
abbrev pub alive_reasons : Farm → ℕ → List ℕ → ℕ → List RefusalTest
alive_reasons F t caller number = res_reasons F t number (λ r. owned_by caller r.owner) is_alive

abbrev pub reasons : Farm → ℕ → List ℕ → Cmd → List RefusalTest
reasons F t caller (Cmd.AddType name check) = add_type_reasons F name
reasons F t caller (Cmd.AddBoard name kind tags) = add_board_reasons F name kind
reasons F t caller (Cmd.SetTags name tags) = set_tags_reasons F name
reasons F t caller (Cmd.SetHealth name health) = set_health_reasons F name health
reasons F t caller (Cmd.Submit priority wants roles body) = submit_reasons F wants
reasons F t caller (Cmd.Cancel number) = cancel_reasons F caller number
reasons F t caller (Cmd.Start number) = start_reasons F number
reasons F t caller (Cmd.Finish number outcome) = finish_reasons F number
reasons F t caller (Cmd.Reserve priority tags) = reserve_reasons F tags
reasons F t caller (Cmd.Acquire number) = acquire_reasons F t caller number
reasons F t caller (Cmd.Release number) = release_reasons F t caller number
reasons F t caller (Cmd.Refresh number) = alive_reasons F t caller number
reasons F t caller (Cmd.CancelRes number) = alive_reasons F t caller number
reasons F t caller Cmd.Pass = []

-- whether the command would go beyond a limit of its own
abbrev pub is_full_for : Farm → Cmd → Bool
is_full_for F (Cmd.AddType name check) = nat_le most_types (length F.types)
is_full_for F (Cmd.AddBoard name kind tags) =
    nat_le most_boards (length F.boards) || nat_le most_boards_of_type (length (filter (λ b. bytes_eq b.kind kind) F.boards))
is_full_for F (Cmd.Submit priority wants roles body) = not (has_room F (length wants))
is_full_for F (Cmd.Reserve priority tags) = nat_le most_reservations (length F.reservations) || nat_le numbers_end F.next
is_full_for F cmd = false

abbrev pub is_full : Farm → Call → Bool
is_full F call =
    is_full_for F call.cmd || (is_some call.key && nat_le most_replies (length F.kept)) || nat_le most_commands F.count

-- what is kept for the call's caller and key
abbrev pub kept_for : Farm → Call → Option KeptRow
kept_for F call = option_map_or (λ key. kept_of F call.caller key) call.key None

abbrev pub is_late : Call → Bool
is_late call = nat_lt last_moment call.now

abbrev pub keeps_kind : Farm → Call → Bool
keeps_kind F call = option_map_or (λ r. r.kind == kind_of call.cmd) (kept_for F call) false

-- the reply of the call's key is kept for another command
abbrev pub is_reused : Farm → Call → Bool
is_reused F call = is_some (kept_for F call) && not (keeps_kind F call)

-- a bad moment, a reused key and a caller by role come first
unfoldable pub early_refusal : Farm → Call → Option ℕ
early_refusal F call =
    first_code ((is_late call, bad_moment) ∷ (is_reused F call, key_reused) ∷ (not (may_give call.caller call.cmd), forbidden) ∷ [])

-- then the command's own reasons
unfoldable pub own_refusal : Farm → Call → Option ℕ
own_refusal F call = first_code (reasons F (moment F call) call.caller call.cmd)

-- and a full farm comes last
unfoldable pub refusal : Farm → Call → Option ℕ
refusal F call =
    option_or (early_refusal F call) (option_or (own_refusal F call) (then_some (is_full F call) full))
