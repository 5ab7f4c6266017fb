-- What the program does for one claim of a pass, and for a member of a group that collects.
use Rattle.std.specs.Prelude.{◌≡◌, ◌≤◌, ◌==◌, ◌+◌, ℕ, Bool, true, false, List, [], ◌∷◌, length, map, not, slice_get, take, Vec, IsSomeAnd, Option, Some, None}
use Rattle.std.specs.Prelude.{filter_map, option_map, if◌then◌else◌}
use Rattle.std.specs.List.{AllByRecursion, filter, fold}
use Rattle.std.specs.Option.{option_map_or}
use Rattle.std.specs.Ordering.{is_lt}
use Rattle.std.specs.Str.{bytes_eq}
use Rattle.std.specs.declared.alloc.Global.{Global}
use Rattle.farm_types.specs.Names.{allocated_reservation, change_where, Claimed, collect_member, Farm, held_board, is_free, is_group, IsAmong, job_of}
use Rattle.farm_types.specs.Names.{leads_claim, least, members, pass_over, placed_job, queue, res_of, serve, shown_claim, shown_cmp}
use Rattle.farm_types.specs.declared.rows.BoardRow.{BoardRow}
use Rattle.farm_types.specs.declared.claims.Claim.{Claim}
use Rattle.farm_types.specs.declared.claims.ClaimKind.{ClaimKind}
use Rattle.farm_types.specs.declared.rows.Holder.{Holder}
use Rattle.farm_types.specs.declared.rows.JobRow.{JobRow}
use Rattle.farm_types.specs.declared.rows.JobState.{JobState}
use Rattle.farm_types.specs.declared.rows.State.{State}
use Rattle.farm_types.specs.declared.rows.Want.{Want}
use Rattle.farm_pick.specs.Heads.{is_later, last_spot}
use Rattle.farm_pick.specs.Queued.{QueueLists, idle_boards, queue_lists}
use Rattle.farm_core.specs.Came.{Seen}
use Rattle.farm_core.specs.Following.{without_boards}

-- the name of the board at a place, and of those at some places
abbrev pub name_at : List BoardRow → ℕ → Option (List ℕ)
name_at boards at = option_map (λ (b : BoardRow). b.name) (slice_get boards at)

abbrev pub names_at : List BoardRow → List ℕ → List (List ℕ)
names_at boards places = filter_map (name_at boards) places

-- a job, by its number, is in a state and holds the board of a name
abbrev pub assign_named : JobState → Farm → ℕ × List ℕ → Farm
assign_named state F (number, name) = record F {
  jobs = change_where (λ m. m.number == number) (placed_job state name) F.jobs;
  boards = change_where (λ c. bytes_eq c.name name) (held_board (Holder.Job number) State.Reserved)
      F.boards;
}

-- a reservation is given the first board of some names, for a lease from now on
abbrev pub assign_first : Farm → ℕ → List (List ℕ) → Farm
assign_first F number [] = F
assign_first F number (name ∷ names) = record F {
  reservations = change_where (λ r. r.number == number) (allocated_reservation name F.clock) F.reservations;
  boards = change_where (λ c. bytes_eq c.name name) (held_board (Holder.Res number) State.Reserved)
      F.boards;
}

-- a claim wants what the rows of its reservation or its group want
abbrev pub MatchesRows : Bool → Farm → Claimed → Type 0
MatchesRows true F c = IsSomeAnd (res_of F c.number) (λ r. c.wants ≡ r.want ∷ [])
MatchesRows false F c = c.wants ≡ map (λ m. m.want) (members F c.number)

-- what a claim wants, by the rows of its reservation or its group
abbrev pub wants_of : Farm → ClaimKind → ℕ → List Want
wants_of F ClaimKind.Reservation number =
    option_map_or (λ r. r.want ∷ []) (res_of F number) []
wants_of F ClaimKind.Group number = map (λ m. m.want) (members F number)

-- no free boards meet some wants
abbrev pub IsMissed : Farm → List Want → Type 0
IsMissed F wants = least F.boards (is_free F.types) wants ≡ None

-- nor any of those that are remembered
abbrev pub AreMisses : Farm → List (Vec Want Global) → Type 0
AreMisses F misses = AllByRecursion (λ v. IsMissed F v.items) misses

-- some wants are remembered first of all, and behind them seven that were
abbrev pub IsRemembered : List (Vec Want Global) → List Want → List (Vec Want Global) → Type 0
IsRemembered old wants new = (v : Vec Want Global) × (v.items ≡ wants) × (new ≡ v ∷ take 7 old)

-- to serve a claim changes nothing: no free boards meet it, and it may not collect
abbrev pub IsSkipped : Farm → Claimed → Type 0
IsSkipped F c = IsMissed F c.wants × (F.collector ≡ 0 → length c.wants ≤ 1)

-- the claim is the next of the queue after a place, but for some; or all after it are such
abbrev pub IsNextBut : (Claimed → Type 0) → Farm → Option (ℕ × ℕ) → Option Claim → Type 0
IsNextBut Skipped F last None = (d : Claimed) → IsAmong d (queue F)
    → is_later (last_spot last) (shown_claim d) ≡ true → Skipped d
IsNextBut Skipped F last (Some c) =
    (d : Claimed) × IsAmong d (queue F) × (shown_claim d ≡ c) × (is_later (last_spot last) c ≡ true)
    × ((e : Claimed) → IsAmong e (queue F) → is_later (last_spot last) (shown_claim e) ≡ true
    → is_lt (shown_cmp (shown_claim e) c) ≡ true → Skipped e)

-- but for such as no free boards meet, and but for such as to serve changes nothing
abbrev pub IsNextCandidate : Farm → Option (ℕ × ℕ) → Option Claim → Type 0
IsNextCandidate F last claim = IsNextBut (λ d. IsMissed F d.wants) F last claim

abbrev pub IsNext : Farm → Option (ℕ × ℕ) → Option Claim → Type 0
IsNext F last claim = IsNextBut (IsSkipped F) F last claim

-- one more, if a claim was served
abbrev pub count_after : ℕ → Bool → ℕ
count_after n served = if served then n + 1 else n

-- the queues once a claim was given the boards that meet it, if some do, and else perhaps collects
abbrev pub queues_given : Farm → Claimed → QueueLists → QueueLists
queues_given F c lists = option_map_or (λ bs. record {
  claims = filter (λ x. not (x.claim.number == c.number)) lists.claims;
  boards = without_boards (map (λ (b : BoardRow). b.name) bs) lists.boards;
}) (least F.boards (is_free F.types) c.wants)
    (record lists { boards = idle_boards (pass_over F c) })

-- serving the claim, the machine comes to the farm that the tables come to, and the queues follow
abbrev pub Serves : Seen → Claimed → Bool → Seen → Type 0
Serves D c served E =
    ((n : ℕ) → serve D.farm.clock (record { farm = D.farm; claims = n }) c ≡ record {
      farm = E.farm;
      claims = count_after n served;
    }) × (E.queues ≡ queues_given D.farm c D.queues)

-- a claim that is met is served, and one that isn't leaves all as it is
pub record Tries (D : Seen) (c : Claimed) (served : Bool) (E : Seen) : Type 0 where
  pub met : served ≡ true → Serves D c true E
  pub misses : served ≡ false → (E ≡ D) × (least D.farm.boards (is_free D.farm.types) c.wants ≡ None)

-- for how many boards a group waits, if it is a claim, and else none
abbrev pub boards_for : Farm → ℕ → ℕ
boards_for F group = option_map_or (λ j. if leads_claim F j then length (members F group) else 0)
    (job_of F group) 0

-- the group that collected before is served, if it is a claim, and so many were served
pub record Begins (D : Seen) (former count : ℕ) (E : Seen) : Type 0 where
  pub serves : fold (serve D.farm.clock) (record { farm = D.farm; claims = 0 })
      (filter (is_group former) (queue D.farm)) ≡ record { farm = E.farm; claims = count }
  pub fits : E.queues ≡ queue_lists E.farm

-- the job of that number is there and wants what this row wants
abbrev pub HasWant : Farm → ℕ → JobRow → Type 0
HasWant F number j = (j.number ≡ number) × IsSomeAnd (job_of F number) (λ r. r.want ≡ j.want)

-- the member takes what it gets, and the free boards follow
abbrev pub Collects : Seen → JobRow → Seen → Type 0
Collects D j E = E ≡ record D {
  farm = collect_member D.farm j;
  queues = record D.queues { boards = idle_boards (collect_member D.farm j) };
}
