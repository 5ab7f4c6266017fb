-- Who waits, for how long, and who is next; what is left of answers, and who is cut where that is
-- too much. Times are in nanoseconds, those of a clock since its start.
use Rattle.std.specs.Prelude.{◌≡◌, ◌⊎◌, ◌+◌, ◌-◌, ◌*◌, ◌^◌, ◌<◌, ◌≤◌, ℕ, List, [], ◌∷◌, Option, Some, None, drop, ◌++◌, All, Bool, true, false, IsTrue}
use Rattle.std.specs.Prelude.{Contains, IsSomeAnd, min, nat_lt, if◌then◌else◌, ⊤, length, sum_by}
use Rattle.std.specs.Option.{option_map}
use Rattle.std.specs.Duration.{as_nanos, max_nanos}
use Rattle.std.specs.VecDeque.{deque_items, deque_len}
use Rattle.std.specs.declared.time.Duration.{Duration}
use Rattle.std.specs.Io.KnownBytes.{Appends}
use Rattle.farm_room.specs.declared.connection.Connection.{Connection}
use Rattle.farm_room.specs.declared.connections.Connections.{Connections}
use Rattle.farm_room.specs.declared.outbox.Outbox.{Outbox}

-- ---- times

-- how long a client may take
abbrev pub limit : ℕ
limit = 10 * 10 ^ 9

-- a time that isn't known is taken for the clock's start
abbrev pub time_of : Option Duration → ℕ
time_of None = 0
time_of (Some now) = as_nanos now

-- nobody is accepted at this time
abbrev pub IsPaused : Option Duration → Option Duration → Type 0
IsPaused (Some now) (Some until) = as_nanos now < as_nanos until
IsPaused now until = ⊥

-- what began then takes longer than it may, or nobody knows how long
abbrev pub HasTimedOut : Option Duration → Duration → Type 0
HasTimedOut None since = ⊤
HasTimedOut (Some now) since = limit < as_nanos now - as_nanos since

-- the first that waits does so for longer than it may
abbrev pub IsOverdue : Option Duration → List Connection → Type 0
IsOverdue now [] = ⊥
IsOverdue now (first ∷ rest) = HasTimedOut now first.since

-- those whose time was over went, as far as they came first
pub record CutsOverdue (now : Option Duration) (old new : List Connection) : Type 0 where
  pub cut : List Connection
  pub parts : old ≡ cut ++ new
  pub overdue : All (λ one. HasTimedOut now one.since) cut
  pub in_time : IsOverdue now new → ⊥

-- how long nobody is accepted
abbrev pub pause_left : ℕ → Option Duration → Option ℕ
pause_left now None = None
pause_left now (Some until) =
    if nat_lt now (as_nanos until) then Some (as_nanos until - now) else None

-- how long it takes until what began then has taken a millisecond more than it may
abbrev pub time_left : ℕ → ℕ → ℕ
time_left now since = min (since + (limit + 10 ^ 6)) max_nanos - now

-- until the first that waits has
abbrev pub limit_left : ℕ → List Connection → Option ℕ
limit_left now [] = None
limit_left now (first ∷ rest) = Some (time_left now (as_nanos first.since))

-- the shorter of two times, or the only one
abbrev pub shorter : Option ℕ → Option ℕ → Option ℕ
shorter None other = other
shorter (Some one) None = Some one
shorter (Some one) (Some other) = Some (min one other)

-- ---- the connections of a listener

-- how many are still to be returned, or to be reported as refused
abbrev pub outstanding : Connections → ℕ
outstanding it = it.to_accept + it.refused + deque_len it.incomplete + deque_len it.ready

-- as many are outstanding as before
abbrev pub LosesNobody : Connections → Connections → Type 0
LosesNobody old new = outstanding old < 2 ^ 64 → outstanding new ≡ outstanding old

-- the most connections that wait
abbrev pub most_waiting : ℕ
most_waiting = 1024

-- those of a row stay, and others may come behind them
abbrev pub Stay : List Connection → List Connection → Type 0
Stay old new = (more : List Connection) × (new ≡ old ++ more)

-- all of a row stay, wherever others come
abbrev pub AllStay : List Connection → List Connection → Type 0
AllStay old new = (one : Connection) → Contains old one → Contains new one

-- all that were ready are ready still, but for the one that is taken
abbrev pub TakesReady : Connections → Connections → Option Connection → Type 0
TakesReady old new result = (one : Connection) → Contains (deque_items old.ready) one
    → Contains (deque_items new.ready) one ⊎ (result ≡ Some one)

-- where a place is free the incomplete ones stay, and else all but the oldest
pub record MakesPlace (old new : Connections) : Type 0 where
  pub free : deque_len old.incomplete + deque_len old.ready < most_waiting
      → Stay (deque_items old.incomplete) (deque_items new.incomplete)
  pub taken : most_waiting ≤ deque_len old.incomplete + deque_len old.ready
      → Stay (drop 1 (deque_items old.incomplete)) (deque_items new.incomplete)

-- the oldest incomplete one went, and nobody else
abbrev pub OldestGoes : Connections → Connections → Type 0
OldestGoes old new = (0 < deque_len old.incomplete)
    × (deque_items new.incomplete ≡ drop 1 (deque_items old.incomplete))

-- it goes, and counts as refused; nobody does where there is none
abbrev pub LetsOldestGo : Connections → Connections → Bool → Type 0
LetsOldestGo old new true = OldestGoes old new × LosesNobody old new
    × (new.has_arrivals ≡ old.has_arrivals) × (new.to_accept ≡ old.to_accept)
LetsOldestGo old new false = (deque_len old.incomplete ≡ 0) × (new ≡ old)

-- one that the system refused counts as refused; then nobody is accepted for a tenth of a second,
-- unless the oldest incomplete one may go and does
pub record Refuses (now : Option Duration) (may_go : Bool) (old new : Connections) (paused : Bool)
    : Type 0 where
  pub all : LosesNobody old new
  pub arrivals : new.has_arrivals ≡ old.has_arrivals
  pub pauses : paused ≡ true → option_map as_nanos new.paused_until
      ≡ option_map (λ at. min (as_nanos at + 100 * 10 ^ 6) max_nanos) now
  pub goes : paused ≡ false → IsTrue may_go × OldestGoes old new

-- none of so many was accepted or refused, or is kept waiting
pub record IsUntouched (max : ℕ) (it : Connections) : Type 0 where
  pub to_accept : it.to_accept ≡ max
  pub all : outstanding it ≡ max
  pub unpaused : it.paused_until ≡ None

-- one is ready, overdue or refused, or none is left
abbrev pub IsDue : Option Duration → Connections → Type 0
IsDue now it = (0 < deque_len it.ready) ⊎ (IsOverdue now (deque_items it.incomplete)
    ⊎ ((0 < it.refused) ⊎ (outstanding it ≡ 0)))

-- it is the first of a row
pub record IsFirst (row : List Connection) (connection : Connection) : Type 0 where
  pub rest : List Connection
  pub row_is : row ≡ connection ∷ rest

-- one fewer is outstanding; where the first that waits is overdue it goes and nobody is taken, and
-- else the first that is ready is, if there is one
pub record TakesNext (now : Option Duration) (old new : Connections) (result : Option Connection)
    : Type 0 where
  pub one_fewer : outstanding new ≡ outstanding old - 1
  pub overdue : IsOverdue now (deque_items old.incomplete) → (result ≡ None)
      × (deque_items new.incomplete ≡ drop 1 (deque_items old.incomplete))
  pub in_time : (IsOverdue now (deque_items old.incomplete) → ⊥) → 0 < deque_len old.ready
      → IsSomeAnd result (IsFirst (deque_items old.ready))
  pub nobody : deque_len old.ready ≡ 0 → result ≡ None
  pub numbered : new.numbered ≡ old.numbered
  pub arrivals : new.has_arrivals ≡ old.has_arrivals

-- ---- what is left of answers that wait aside

-- the bytes that are left of an answer
abbrev pub unsent : Outbox → List ℕ
unsent it = drop it.sent it.bytes.items

-- how many bytes wait aside for it, those too that were sent
abbrev pub held : Outbox → ℕ
held it = length it.bytes.items

-- some bytes from the front of what was left went to the writer, in their order, and no others did
pub record SendsSome (old new : Option (List ℕ)) (before after : List ℕ) : Type 0 where
  pub sent : List ℕ
  pub parts : before ≡ sent ++ after
  pub appends : Appends old new sent

-- ---- clients whose answers wait aside

-- how many bytes wait aside for a row of them
abbrev pub held_by : List Connection → ℕ
held_by row = sum_by (λ one. held one.outbox) row

-- they are no more, in number and in bytes, than may wait aside
pub record Fits (row : List Connection) : Type 0 where
  pub few : length row ≤ 256
  pub small : held_by row ≤ 64 * 2 ^ 20

-- the oldest were cut until the others fit, and nobody without need
pub record CutsOldest (old new : List Connection) : Type 0 where
  pub cut : List Connection
  pub parts : old ≡ cut ++ new
  pub fits : Fits new
  pub needed : (before : List Connection) (last : Connection) → cut ≡ before ++ last ∷ [] → Fits (last ∷ new) → ⊥

-- one more waits aside or not, and the others as far as they fit
abbrev pub PutsAside : List Connection → List Connection → Type 0
PutsAside old new = (new ≡ old) ⊎ (CutsOldest old new
    ⊎ ((one : Connection) × CutsOldest (old ++ one ∷ []) new))
