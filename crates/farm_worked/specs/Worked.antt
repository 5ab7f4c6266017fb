-- Worked scripts: the calls, and what is looked at afterwards.
use Rattle.std.specs.Prelude.{◌≡◌, ℕ, List, [], ◌∷◌, Option, Some, None, codes, true}
use Rattle.std.specs.Option.{option_map}
use Rattle.farm_types.specs.Names.{answer, Answered, board_of, Changed, Farm, is_proper, job_of, reply_of, res_of, step}
use Rattle.farm_types.specs.declared.calls.Call.{Call}
use Rattle.farm_types.specs.declared.rows.Check.{Check}
use Rattle.farm_types.specs.declared.calls.Cmd.{Cmd}
use Rattle.farm_types.specs.declared.rows.Health.{Health}
use Rattle.farm_types.specs.declared.rows.Holder.{Holder}
use Rattle.farm_types.specs.declared.rows.JobState.{JobState}
use Rattle.farm_types.specs.declared.rows.Outcome.{Outcome}
use Rattle.farm_types.specs.declared.rows.ResState.{ResState}
use Rattle.farm_types.specs.declared.rows.State.{State}
use Rattle.farm_types.specs.declared.rows.Want.{Want}

-- a call without a key
abbrev pub asks : (caller : List ℕ) (now : ℕ) (cmd : Cmd) → is_proper caller None cmd ≡ true → Call
asks caller now cmd proper = record { caller = caller; key = None; now = now; cmd = cmd; proper = proper }

-- a call under a key
abbrev pub call_under : (caller key : List ℕ) (now : ℕ) (cmd : Cmd) → is_proper caller (Some key) cmd ≡ true → Call
call_under caller key now cmd proper = record { caller = caller; key = Some key; now = now; cmd = cmd; proper = proper }

-- the answers of a run
abbrev pub answers : Farm → List Call → List Answered
answers F [] = []
answers F (call ∷ calls) = answer F call ∷ answers (step F call) calls

-- what a row says of its job, reservation or board
abbrev pub job_shows : Farm → ℕ → Option (JobState × Option (List ℕ) × Option Outcome)
job_shows F n = option_map (λ j. (j.state, j.board, j.outcome)) (job_of F n)

abbrev pub res_shows : Farm → ℕ → Option (ResState × Option (List ℕ) × ℕ)
res_shows F n = option_map (λ r. (r.state, r.board, r.deadline)) (res_of F n)

abbrev pub board_shows : Farm → List ℕ → Option (Health × State × Holder × ℕ × ℕ)
board_shows F name = option_map (λ b. (b.health, b.state, b.holder, b.jobs_since, b.last_check)) (board_of F name)

abbrev pub did : ℕ → Answered
did n = Changed (reply_of n 0 0)

abbrev pub passed : ℕ → ℕ → ℕ → Answered
passed c e s = Changed (reply_of c e s)

-- the callers of the scripts
abbrev pub by_admin : (now : ℕ) (cmd : Cmd) → is_proper (codes "admin") None cmd ≡ true → Call
by_admin = asks (codes "admin")

abbrev pub by_dispatcher : (now : ℕ) (cmd : Cmd) → is_proper (codes "dispatcher") None cmd ≡ true → Call
by_dispatcher = asks (codes "dispatcher")

abbrev pub by_ann : (now : ℕ) (cmd : Cmd) → is_proper (codes "ann") None cmd ≡ true → Call
by_ann = asks (codes "ann")

abbrev pub by_bob : (now : ℕ) (cmd : Cmd) → is_proper (codes "bob") None cmd ≡ true → Call
by_bob = asks (codes "bob")

-- a call by the admin under a key
abbrev pub with_key : (key : List ℕ) (cmd : Cmd) → is_proper (codes "admin") (Some key) cmd ≡ true → Call
with_key key = call_under (codes "admin") key 10

-- their commands: one type, its boards, and jobs and reservations of them
abbrev pub new_type : Check → Cmd
new_type check = Cmd.AddType (codes "bbb") check

abbrev pub new_board : List ℕ → List (List ℕ) → Cmd
new_board name tags = Cmd.AddBoard name (codes "bbb") tags

abbrev pub set : List ℕ → Health → Cmd
set name health = Cmd.SetHealth name health

abbrev pub a_board : List (List ℕ) → Want
a_board tags = record { kind = Some (codes "bbb"); tags = tags }

abbrev pub single : ℕ → Cmd
single priority = Cmd.Submit priority (a_board [] ∷ []) (None ∷ []) []

abbrev pub pair : List (List ℕ) → Cmd
pair tags = Cmd.Submit 50 (a_board [] ∷ a_board tags ∷ []) (None ∷ None ∷ []) []

abbrev pub any_board : Cmd
any_board = Cmd.Reserve 50 []
