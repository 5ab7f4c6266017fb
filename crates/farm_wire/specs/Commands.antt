-- The commands that paths and bodies spell.
use Rattle.std.specs.Prelude.{ℕ, List, [], Option, Some, None, ok_or, option_and_then, Result, Ok, Err, codes, if◌then◌else◌}
use Rattle.std.specs.Option.{option_map_or}
use Rattle.serde_json.specs.Data.{Num, Data}
use Rattle.serde_json.specs.Find.{get, as_str, as_number, as_u64}
use Rattle.farm_types.specs.Names.{bad_priority, bad_request, check_by, health_called, is_every, is_priority, medium_priority, outcome_called, priority_called}
use Rattle.farm_types.specs.Names.{unit_called, ◌>>=◌}
use Rattle.farm_types.specs.declared.called.CheckUnit.{CheckUnit}
use Rattle.farm_types.specs.declared.calls.Cmd.{Cmd}
use Rattle.farm_types.specs.declared.rows.Check.{Check}
use Rattle.farm_jobfile.specs.Reading.{fault_by_number}
use Rattle.farm_jobfile.specs.Job.{job}
use Rattle.farm_wire.specs.Fields.{there_or, object_in, text_in, name_in, tags_from, tags_in, board_tags}
use Rattle.farm_wire.specs.Parameters.{board_in, job_in, reservation_in}
use Rattle.farm_wire.specs.declared.router.CommandKind.{CommandKind}

-- ---- types

-- the unit under the key `check`; absent means none
unfoldable pub unit_in : Data → Result CheckUnit ℕ
unit_in d =
    option_map_or (λ field. there_or (option_and_then unit_called (as_str field))) (get (codes "check") d) (Ok CheckUnit.None)

-- the frequency under the key `every`, 1 to 10,000
unfoldable pub every_in : Data → Result ℕ ℕ
every_in d = do
  n ← there_or (option_and_then as_u64 (option_and_then as_number (get (codes "every") d)))
  if is_every n then Ok n else Err bad_request

-- the check that the two keys spell
unfoldable pub check_in : Data → Result Check ℕ
check_in d = unit_in d >>= λ u. check_by u (every_in d)

-- the type that a body adds
unfoldable pub add_type : List ℕ → Result Cmd ℕ
add_type body = do
  d ← object_in body
  name ← name_in (codes "name") d
  check ← check_in d
  Ok (Cmd.AddType name check)

-- ---- boards

-- a new board's tags; absent means none
unfoldable pub new_tags_in : Data → Result (List (List ℕ)) ℕ
new_tags_in d = option_map_or tags_from (get (codes "tags") d) (Ok [])

-- the board that a body adds
unfoldable pub add_board : List ℕ → Result Cmd ℕ
add_board body = do
  d ← object_in body
  name ← name_in (codes "name") d
  kind ← name_in (codes "type") d
  tags ← new_tags_in d
  own ← board_tags tags
  Ok (Cmd.AddBoard name kind own)

-- the tags that the board of a path gets
unfoldable pub set_tags : List ℕ → List ℕ → Result Cmd ℕ
set_tags path body = do
  name ← board_in path
  d ← object_in body
  tags ← tags_in d
  own ← board_tags tags
  Ok (Cmd.SetTags name own)

-- the health that the board of a path gets
unfoldable pub set_health : List ℕ → List ℕ → Result Cmd ℕ
set_health path body = do
  name ← board_in path
  d ← object_in body
  text ← text_in (codes "health") d
  health ← there_or (health_called text)
  Ok (Cmd.SetHealth name health)

-- ---- jobs

-- the jobs that a body submits, which is a job file
unfoldable pub submit : List ℕ → Result Cmd ℕ
submit body = fault_by_number (job body)

-- the end of the job that a path names
unfoldable pub finish : List ℕ → List ℕ → Result Cmd ℕ
finish path body = do
  number ← job_in path
  d ← object_in body
  text ← text_in (codes "outcome") d
  outcome ← there_or (outcome_called text)
  Ok (Cmd.Finish number outcome)

-- ---- reservations

-- what a text names, or a whole number that is a priority; another kind is no priority at all
abbrev pub priority_by : Option (List ℕ) → Option Num → Result ℕ ℕ
priority_by (Some text) number = ok_or (priority_called text) bad_priority
priority_by None (Some number) = ok_or (as_u64 number) bad_priority >>= λ n. if is_priority n then Ok n else Err bad_priority
priority_by None None = Err bad_request

unfoldable pub priority_from : Data → Result ℕ ℕ
priority_from d = priority_by (as_str d) (as_number d)

-- the priority under the key `priority`; absent means medium
unfoldable pub priority_in : Data → Result ℕ ℕ
priority_in d = option_map_or priority_from (get (codes "priority") d) (Ok medium_priority)

-- the reservation that a body asks for
unfoldable pub reserve : List ℕ → Result Cmd ℕ
reserve body = do
  d ← object_in body
  tags ← tags_in d
  priority ← priority_in d
  Ok (Cmd.Reserve priority tags)

-- ---- all

-- the command of a kind that a path and a body spell
unfoldable pub command_in : CommandKind → List ℕ → List ℕ → Result Cmd ℕ
command_in CommandKind.AddType path body = add_type body
command_in CommandKind.AddBoard path body = add_board body
command_in CommandKind.SetTags path body = set_tags path body
command_in CommandKind.SetHealth path body = set_health path body
command_in CommandKind.Submit path body = submit body
command_in CommandKind.Cancel path body = job_in path >>= λ n. Ok (Cmd.Cancel n)
command_in CommandKind.Start path body = job_in path >>= λ n. Ok (Cmd.Start n)
command_in CommandKind.Finish path body = finish path body
command_in CommandKind.Reserve path body = reserve body
command_in CommandKind.Acquire path body = reservation_in path >>= λ n. Ok (Cmd.Acquire n)
command_in CommandKind.Release path body = reservation_in path >>= λ n. Ok (Cmd.Release n)
command_in CommandKind.Refresh path body = reservation_in path >>= λ n. Ok (Cmd.Refresh n)
command_in CommandKind.CancelReservation path body = reservation_in path >>= λ n. Ok (Cmd.CancelRes n)
command_in CommandKind.Pass path body = Ok Cmd.Pass
