-- The pass.
use Rattle.std.specs.Prelude.{ℕ, ◌==◌, ◌&&◌, ◌||◌, ◌+◌, ◌-◌, ◌*◌, ◌++◌, Bool, true, false, not, nat_le, List, [], ◌∷◌, length, Option, Some, None}
use Rattle.std.specs.Prelude.{if◌then◌else◌, codes}
use Rattle.std.specs.List.{filter, find, fold, zip}
use Rattle.std.specs.Option.{option_map_or}
use Rattle.std.specs.Str.{bytes_eq}
use Rattle.farm_types.specs.Limits.{highest_priority, lease, most_jobs, numbers_end}
use Rattle.farm_types.specs.Codes.{same_health, same_job_state, same_res_state}
use Rattle.farm_types.specs.Table.{put, job_cmp, change_where}
use Rattle.farm_types.specs.Farm.{job_of, Farm, board_of, res_of, members, put_board}
use Rattle.farm_types.specs.Pick.{is_nobody, is_free, fits, check_of, least, Claimed, queue}
use Rattle.farm_types.specs.declared.rows.Health.{Health}
use Rattle.farm_types.specs.declared.rows.State.{State}
use Rattle.farm_types.specs.declared.rows.Holder.{Holder}
use Rattle.farm_types.specs.declared.rows.JobState.{JobState}
use Rattle.farm_types.specs.declared.rows.ResState.{ResState}
use Rattle.farm_types.specs.declared.rows.Check.{Check}
use Rattle.farm_types.specs.declared.rows.Want.{Want}
use Rattle.farm_types.specs.declared.rows.BoardRow.{BoardRow}
use Rattle.farm_types.specs.declared.rows.JobRow.{JobRow}
use Rattle.farm_types.specs.declared.rows.ResRow.{ResRow}

-- a board in someone's hands, and in nobody's
abbrev pub held_board : Holder → State → BoardRow → BoardRow
held_board holder state b = record b { holder = holder; state = state }

abbrev pub freed_board : BoardRow → BoardRow
freed_board = held_board Holder.Nobody State.Idle

-- a job without a board
abbrev pub unplaced_job : JobRow → JobRow
unplaced_job j = record j { state = JobState.Submitted; board = None }

-- the farm with a named board changed; with none named it stays
abbrev pub with_board : (BoardRow → BoardRow) → Farm → Option (List ℕ) → Farm
with_board f F None = F
with_board f F (Some name) = option_map_or (λ b. put_board F (f b)) (board_of F name) F

-- a waiting or allocated reservation whose deadline has come
abbrev pub is_dead : ℕ → ResRow → Bool
is_dead t r = (same_res_state r.state ResState.Waiting || same_res_state r.state ResState.Allocated) && nat_le r.deadline t

-- whether a job that passes, or a reservation that passes, is the holder
abbrev pub is_job_so : Farm → (JobRow → Bool) → Holder → Bool
is_job_so F test (Holder.Job n) = option_map_or test (job_of F n) false
is_job_so F test h = false

abbrev pub is_res_so : Farm → (ResRow → Bool) → Holder → Bool
is_res_so F test (Holder.Res n) = option_map_or test (res_of F n) false
is_res_so F test h = false

-- the jobs that pass are changed, and the boards that they hold
abbrev pub change_jobs : (JobRow → Bool) → (JobRow → JobRow) → (BoardRow → BoardRow) → Farm → Farm
change_jobs test f g F = record F { jobs = change_where test f F.jobs; boards = change_where (λ b. is_job_so F test b.holder) g F.boards }

-- the reservations that pass are changed, and the boards that they hold
abbrev pub change_res : (ResRow → Bool) → (ResRow → ResRow) → (BoardRow → BoardRow) → Farm → Farm
change_res test f g F = record F { reservations = change_where test f F.reservations; boards = change_where (λ b. is_res_so F test b.holder) g F.boards }

-- 1. the collecting group gives its boards back, and none collects
abbrev pub giving_back : Farm → Farm
giving_back F = record (change_jobs (λ j. (j.group == F.collector) && same_job_state j.state JobState.Scheduling) unplaced_job freed_board F) { collector = 0 }

-- 2. each dead reservation is expired, and the board that it holds is free
abbrev pub expire : Farm → ℕ → Farm
expire F t = change_res (is_dead t) (λ r. record r { state = ResState.Expired }) freed_board F

-- 3. each due board is checked, while there is room
abbrev pub is_reached : ℕ → BoardRow → Check → Bool
is_reached t b Check.Never = false
is_reached t b (Check.Hours n) = nat_le (3600 * n) (t - b.last_check)
is_reached t b (Check.Jobs n) = nat_le n b.jobs_since

abbrev pub is_due_by : Check → ℕ → BoardRow → Bool
is_due_by Check.Never t b = false
is_due_by check t b = same_health b.health Health.Unknown || (same_health b.health Health.Good && is_reached t b check)

abbrev pub is_due : Farm → ℕ → BoardRow → Bool
is_due F t b = is_nobody b.holder && is_due_by (check_of F.types b.kind) t b

abbrev pub has_room : Farm → ℕ → Bool
has_room F n = nat_le (length F.jobs + n) most_jobs && nat_le (F.next + n) numbers_end

-- a new job, which waits for its board
abbrev pub new_job : ℕ → ℕ → List ℕ → ℕ → Want → Option (List ℕ) → List ℕ → JobRow
new_job number group owner priority want role body = record {
  number = number;
  group = group;
  checking = false;
  owner = owner;
  priority = priority;
  want = want;
  role = role;
  state = JobState.Submitted;
  outcome = None;
  board = None;
  body = body;
}

-- the job that checks a board
abbrev pub check_job : ℕ → BoardRow → JobRow
check_job number b = record (new_job number number (codes "admin") highest_priority (record { kind = Some b.kind; tags = [] }) None []) {
  checking = true;
  state = JobState.Scheduled;
  board = Some b.name;
}

abbrev pub check_one : Farm → BoardRow → Farm
check_one F b =
    if has_room F 1
    then record F {
      jobs = put job_cmp F.jobs (check_job F.next b);
      boards = change_where (λ c. bytes_eq c.name b.name) (held_board (Holder.Job F.next) State.Reserved) F.boards;
      next = F.next + 1;
    }
    else F

abbrev pub checks : Farm → ℕ → Farm
checks F t = fold check_one F (filter (is_due F t) F.boards)

-- 4. the claims are taken, the one that collected first and then in queue order, and each is given the least list of free boards that meets it
abbrev pub placed_job : JobState → List ℕ → JobRow → JobRow
placed_job state name j = record j { state = state; board = Some name }

abbrev pub allocated_reservation : List ℕ → ℕ → ResRow → ResRow
allocated_reservation name t r = record r { state = ResState.Allocated; board = Some name; deadline = t + lease }

-- a member is in the state and holds the board
abbrev pub give_member : JobState → Farm → JobRow × BoardRow → Farm
give_member state F (j, b) = record F {
  jobs = change_where (λ m. m.number == j.number) (placed_job state b.name) F.jobs;
  boards = change_where (λ c. bytes_eq c.name b.name) (held_board (Holder.Job j.number) State.Reserved) F.boards;
}

-- each member is given its board
abbrev pub give_group : Farm → ℕ → List BoardRow → Farm
give_group F group bs = fold (give_member JobState.Scheduled) F (zip (members F group) bs)

abbrev pub give_res : Farm → ℕ → List BoardRow → ℕ → Farm
give_res F number [] t = F
give_res F number (b ∷ bs) t = record F {
  reservations = change_where (λ r. r.number == number) (allocated_reservation b.name t) F.reservations;
  boards = change_where (λ c. bytes_eq c.name b.name) (held_board (Holder.Res number) State.Reserved) F.boards;
}

abbrev pub give : Farm → Claimed → List BoardRow → ℕ → Farm
give F c bs t =
    if c.reservation then give_res F c.number bs t else give_group F c.number bs

-- where no list meets a group of two or more and none collects yet, it collects: each member in turn takes the first free board that fits it
abbrev pub first_free : Farm → Want → Option BoardRow
first_free F want = find (λ b. is_free F.types b && fits b want) F.boards

abbrev pub collect_member : Farm → JobRow → Farm
collect_member F j = option_map_or (λ b. give_member JobState.Scheduling F (j, b)) (first_free F j.want) F

abbrev pub collect : Farm → ℕ → Farm
collect F group = record (fold collect_member F (members F group)) { collector = group }

abbrev pub may_collect : Farm → Claimed → Bool
may_collect F c = (F.collector == 0) && not c.reservation && nat_le 2 (length c.wants)

abbrev pub pass_over : Farm → Claimed → Farm
pass_over F c = if may_collect F c then collect F c.number else F

-- the farm so far, and how many claims were served
pub record Served : Type 0 where
  pub farm : Farm
  pub claims : ℕ

abbrev pub serve : ℕ → Served → Claimed → Served
serve t s c =
    option_map_or (λ bs. record { farm = give s.farm c bs t; claims = s.claims + 1 })
    (least s.farm.boards (is_free s.farm.types) c.wants) (record { farm = pass_over s.farm c; claims = s.claims })

-- the claim of a group goes first, if it is one
abbrev pub is_group : ℕ → Claimed → Bool
is_group group c = not c.reservation && (c.number == group)

abbrev pub claims_taken : Farm → ℕ → List Claimed
claims_taken F group = filter (is_group group) (queue F) ++ filter (λ c. not (is_group group c)) (queue F)

abbrev pub serve_all : Farm → ℕ → ℕ → Served
serve_all F group t = fold (serve t) (record { farm = F; claims = 0 }) (claims_taken F group)
