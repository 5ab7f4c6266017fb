-- What an accepted command does.
use Rattle.std.specs.Prelude.{ℕ, ◌==◌, ◌&&◌, ◌||◌, ◌+◌, ◌-◌, Bool, min, List, [], ◌∷◌, length, Option, Some, None, if◌then◌else◌}
use Rattle.std.specs.List.{filter}
use Rattle.std.specs.Option.{option_map_or}
use Rattle.farm_types.specs.Limits.{lease, most_jobs_since}
use Rattle.farm_types.specs.Codes.{same_health, same_job_state, same_outcome}
use Rattle.farm_types.specs.Farm.{Farm, job_of, put_type, put_board, put_jobs, put_res, put_kept}
use Rattle.farm_types.specs.Pass.{freed_board, with_board, change_jobs, change_res, is_dead, giving_back, expire, new_job, checks, serve_all}
use Rattle.farm_types.specs.Pick.{waits}
use Rattle.farm_types.specs.Refuse.{moment, kind_of}
use Rattle.farm_types.specs.declared.rows.Health.{Health}
use Rattle.farm_types.specs.declared.rows.State.{State}
use Rattle.farm_types.specs.declared.rows.Holder.{Holder}
use Rattle.farm_types.specs.declared.rows.JobState.{JobState}
use Rattle.farm_types.specs.declared.rows.ResState.{ResState}
use Rattle.farm_types.specs.declared.rows.Outcome.{Outcome}
use Rattle.farm_types.specs.declared.rows.Want.{Want}
use Rattle.farm_types.specs.declared.rows.Reply.{Reply}
use Rattle.farm_types.specs.declared.rows.BoardRow.{BoardRow}
use Rattle.farm_types.specs.declared.rows.JobRow.{JobRow}
use Rattle.farm_types.specs.declared.rows.ResRow.{ResRow}
use Rattle.farm_types.specs.declared.calls.Cmd.{Cmd}
use Rattle.farm_types.specs.declared.calls.Call.{Call}

-- the reply, and the farm afterwards
pub record Done : Type 0 where
  pub reply : Reply
  pub farm : Farm

abbrev pub reply_of : ℕ → ℕ → ℕ → Reply
reply_of a b c = record { 0 = a; 1 = b; 2 = c }

abbrev pub done_with : ℕ → Farm → Done
done_with number F = record { reply = reply_of number 0 0; farm = F }

abbrev pub new_board : List ℕ → List ℕ → List (List ℕ) → BoardRow
new_board name kind tags = record {
  name = name;
  kind = kind;
  tags = tags;
  health = Health.Maintenance;
  state = State.Idle;
  holder = Holder.Nobody;
  jobs_since = 0;
  last_check = 0;
}

-- the members of a new group, numbered from `number` on; the first carries the text
abbrev pub new_members : ℕ → ℕ → List ℕ → ℕ → List Want → List (Option (List ℕ)) → List ℕ → List JobRow
new_members group number owner priority (want ∷ wants) (role ∷ roles) body =
    new_job number group owner priority want role body ∷ new_members group (number + 1) owner priority wants roles []
new_members group number owner priority wants roles body = []

abbrev pub new_res : ℕ → List ℕ → ℕ → List (List ℕ) → ℕ → ResRow
new_res number owner priority tags deadline = record {
  number = number;
  owner = owner;
  priority = priority;
  want = record { kind = None; tags = tags };
  state = ResState.Waiting;
  deadline = deadline;
  board = None;
}

-- the boards of a job or a reservation that goes on are in the state
abbrev pub in_state : State → BoardRow → BoardRow
in_state state b = record b { state = state }

-- the members of a group that have not started are Finished, and their boards free; its Running ones become Canceling; it collects no longer
abbrev pub is_unstarted : JobRow → Bool
is_unstarted j = waits j || same_job_state j.state JobState.Scheduled

abbrev pub cancel_group : ℕ → Farm → Farm
cancel_group group F =
    change_jobs (λ j. (j.group == group) && same_job_state j.state JobState.Running) (λ j. record j { state = JobState.Canceling }) (λ b. b)
    (record (change_jobs (λ j. (j.group == group) && is_unstarted j) (λ j. record j { state = JobState.Finished; outcome = Some Outcome.Canceled }) freed_board F) {
      collector = if F.collector == group then 0 else F.collector;
    })

-- all members of a group are Running, and so are their boards
abbrev pub start_group : ℕ → Farm → Farm
start_group group F = change_jobs (λ j. j.group == group) (λ j. record j { state = JobState.Running }) (in_state State.Running) F

-- a Good or Unknown board takes the health, another keeps its own
abbrev pub graded_board : Health → BoardRow → BoardRow
graded_board health b =
    if same_health b.health Health.Good || same_health b.health Health.Unknown then record b { health = health } else b

-- a board after a job, and after a check
abbrev pub after_job : Outcome → BoardRow → BoardRow
after_job outcome b =
    let used = record b { jobs_since = min (b.jobs_since + 1) most_jobs_since } in
    if same_outcome outcome Outcome.Infra then graded_board Health.Unknown used else used

abbrev pub after_check : Outcome → ℕ → BoardRow → BoardRow
after_check Outcome.Complete t b = graded_board Health.Good (record b { jobs_since = 0; last_check = t })
after_check Outcome.Incomplete t b = graded_board Health.Bad b
after_check Outcome.Infra t b = graded_board Health.Bad b
after_check Outcome.Canceled t b = b

abbrev pub finish_one : ℕ → Outcome → Farm → JobRow → Farm
finish_one t named F j =
    let outcome = if same_job_state j.state JobState.Canceling then Outcome.Canceled else named in
    change_jobs (λ m. m.number == j.number) (λ m. record m { state = JobState.Finished; outcome = Some outcome })
    (λ b. freed_board (if j.checking then after_check outcome t b else after_job outcome b)) F

-- what a command does in a farm whose clock has moved to its moment
abbrev pub act : Farm → List ℕ → Cmd → Done
act F caller (Cmd.AddType name check) = done_with 0 (put_type F (record { name = name; check = check }))
act F caller (Cmd.AddBoard name kind tags) = done_with 0 (put_board F (new_board name kind tags))
act F caller (Cmd.SetTags name tags) = done_with 0 (with_board (λ b. record b { tags = tags }) F (Some name))
act F caller (Cmd.SetHealth name health) = done_with 0 (with_board (λ b. record b { health = health }) F (Some name))
act F caller (Cmd.Submit priority wants roles body) =
    done_with F.next (record (put_jobs F (new_members F.next F.next caller priority wants roles body)) { next = F.next + length wants })
act F caller (Cmd.Cancel number) =
    option_map_or (λ j. done_with j.group (cancel_group j.group F)) (job_of F number) (done_with 0 F)
act F caller (Cmd.Start number) =
    option_map_or (λ j. done_with j.group (start_group j.group F)) (job_of F number) (done_with 0 F)
act F caller (Cmd.Finish number outcome) = option_map_or (λ j. done_with number (finish_one F.clock outcome F j)) (job_of F number) (done_with 0 F)
act F caller (Cmd.Reserve priority tags) =
    done_with F.next (record (put_res F (new_res F.next caller priority tags (F.clock + lease))) { next = F.next + 1 })
act F caller (Cmd.Acquire number) =
    done_with number (change_res (λ r. r.number == number) (λ r. record r { state = ResState.Acquired }) (in_state State.Running) F)
act F caller (Cmd.Release number) =
    done_with number (change_res (λ r. r.number == number) (λ r. record r { state = ResState.Allocated; deadline = F.clock + lease }) (in_state State.Reserved) F)
act F caller (Cmd.Refresh number) =
    done_with number (change_res (λ r. r.number == number) (λ r. record r { deadline = F.clock + lease }) (λ b. b) F)
act F caller (Cmd.CancelRes number) =
    done_with number (change_res (λ r. r.number == number) (λ r. record r { state = ResState.Canceled }) freed_board F)
act F caller Cmd.Pass =
    let expired = expire (giving_back F) F.clock in
    let checked = checks expired F.clock in
    let served = serve_all checked F.collector F.clock in
    record { reply = reply_of (checked.next - F.next) (length (filter (is_dead F.clock) F.reservations)) served.claims; farm = served.farm }

-- the farm with the call's reply kept under its key, if it has one
abbrev pub keep : Call → Reply → Farm → Farm
keep call reply F =
    option_map_or (λ key. put_kept F (record { caller = call.caller; key = key; kind = kind_of call.cmd; reply = reply })) call.key F

-- the clock moves to the call's moment
abbrev pub farm_at_call : Farm → Call → Farm
farm_at_call F call = record F { clock = moment F call }

-- the clock moves, the command acts, its reply is kept, and it is counted
unfoldable pub change : Farm → Call → Done
change F call =
    let acted = act (farm_at_call F call) call.caller call.cmd in
    record { reply = acted.reply; farm = record (keep call acted.reply acted.farm) { count = F.count + 1 } }
