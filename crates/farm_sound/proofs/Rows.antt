-- Rows of jobs, reservations and boards in another state, and what they hold then.
use Rattle.std.proofs.Common.{◌+◌, ◌↔◌, ◌≡◌, ◌≤◌, IfSome, IsSome, IsTrue, List, None, Option, Some, ap, arith, is_some, refl, subst, sym, true, ℕ, []}
use Rattle.farm_sound.proofs.Names.{BoardRow, Farm, Health, Holder, JobRow, JobState, Outcome, ResRow, ResState, State, Want}
use Rattle.farm_types.specs.Names.{Hold, hold, holds, in_state, is_priority, is_want, IsBoardOf, IsBoardRow, IsJobRow, IsJobText, IsName, IsResRow}
use Rattle.farm_types.specs.Names.{IsSubmission, job_gives, new_job, phase, res_gives, shown_hold, submission_of}
use Rattle.farm_types.proofs.WordLemmas.{no_text}
use Rattle.farm_sound.proofs.Held.{IsLeft, Leaves}

-- ---- a new job

pub no_job_text : IsJobText []
no_job_text = record { few = omega arith; utf8 = no_text [] refl }

pub new_words : (number group : ℕ) (owner : List ℕ) (priority : ℕ) (want : Want) (role : Option (List ℕ)) (body : List ℕ) → IsName owner → IsTrue (is_priority priority)
    → IsTrue (is_want want) → IfSome role IsName → IsJobText body → IsSubmission (submission_of (new_job number group owner priority want role body))
new_words number group owner priority want role body name prio wanted named text =
    record { owner = name; priority = prio; want = wanted; role = named; texts = assumption no_job_text }

-- ---- rows in another state

pub job_row_at : (F : Farm) (j : JobRow) (s : JobState) (o : Option Outcome) (b : Option (List ℕ)) → IsBoardOf F b
    → (IsTrue (is_some o) ↔ (s ≡ JobState.Finished)) → (IsSome (job_gives s) → IsSome b) → (s ≡ JobState.Submitted → b ≡ None)
    → (j.checking ≡ true → phase s ≡ 0 → ⊥) → IsJobRow F j → IsJobRow F (record j { state = s; outcome = o; board = b })
job_row_at F j s o b there ended holds waits checked is = record {
  number = is.number;
  apart = is.apart;
  words = is.words;
  kind = is.kind;
  board = there;
  outcome = ended;
  waits = waits;
  holds = holds;
  group = is.group;
  follows = λ later. let f = is.follows later in
      record {
        previous = f.previous;
        there = f.there;
        group = f.group;
        owner = f.owner;
        priority = f.priority;
        ordinary = f.ordinary;
        body = f.body;
      };
  check = λ so. let c = is.check so in
      record { alone = c.alone; owner = c.owner; priority = c.priority; state = checked so; tags = c.tags; role = c.role; body = c.body };
}

-- a job that waits no longer
pub job_row_in : (F : Farm) (j : JobRow) (s : JobState) (o : Option Outcome) (b : Option (List ℕ)) → IsBoardOf F b
    → (IsTrue (is_some o) ↔ (s ≡ JobState.Finished)) → (IsSome (job_gives s) → IsSome b) → (phase s ≡ 0 → ⊥) → IsJobRow F j
    → IsJobRow F (record j { state = s; outcome = o; board = b })
job_row_in F j s o b there ended holds started is = job_row_at F j s o b there ended holds (λ e. absurd (started (ap phase e))) (λ _. started) is

pub res_row_in : (F : Farm) (r : ResRow) (s : ResState) (d : ℕ) (b : Option (List ℕ)) → d ≤ F.clock + 60 → IsBoardOf F b
    → (s ≡ ResState.Waiting → b ≡ None) → (IsSome (res_gives s) → IsSome b) → IsResRow F r
    → IsResRow F (record r { state = s; deadline = d; board = b })
res_row_in F r s d b low there waits holds is = record {
  number = is.number;
  owner = is.owner;
  priority = is.priority;
  want = is.want;
  kind = is.kind;
  deadline = low;
  board = there;
  waits = waits;
  holds = holds;
}

pub board_row_in : (F : Farm) (b : BoardRow) (h : Holder) (s : State) → (b.health ≡ Health.Retired → h ≡ Holder.Nobody) → IsBoardRow F b
    → IsBoardRow F (record b { holder = h; state = s })
board_row_in F b h s retired is = record {
  words = is.words;
  kind = is.kind;
  counts = is.counts;
  checked = is.checked;
  retired = retired;
}

-- an outcome is there as before
pub still_none : (o : Option Outcome) (s t : JobState) → (s ≡ JobState.Finished → ⊥) → (t ≡ JobState.Finished → ⊥)
    → (IsTrue (is_some o) ↔ (s ≡ JobState.Finished)) → (IsTrue (is_some o) ↔ (t ≡ JobState.Finished))
still_none o s t going goes is = (λ so. absurd (going (is.0 so)), λ e. absurd (goes e))

-- ---- holds

pub hold_nothing : (h : Holder) (board : Option (List ℕ)) → hold h board None ≡ None
hold_nothing h None = refl
hold_nothing h (Some name) = refl

-- the board goes on in another state
pub leaves_on : (h : Holder) (board : Option (List ℕ)) (s t : State) → Leaves (hold h board (Some s)) (hold h board (Some t)) (in_state t)
leaves_on h None s t = record { none = λ _. refl; left = λ b is. cc }
leaves_on h (Some name) s t = record {
  none = λ is. cc;
  left = λ b is.
      let e : record { board = name; holder = h; state = s } ≡ shown_hold b = cc in
      ap (λ (x : Hold). record { board = x.board; holder = x.holder; state = t }) e;
}

-- the board is let go
pub leaves_off : (old : Option Hold) (h : Holder) (board : Option (List ℕ)) (g : BoardRow → BoardRow) → ((b : BoardRow) → (g b).holder ≡ Holder.Nobody)
    → ((b : BoardRow) → (g b).state ≡ State.Idle) → Leaves old (hold h board None) g
leaves_off old h board g nobody free =
    record { none = λ _. hold_nothing h board; left = λ b _. subst (λ o. IsLeft o (g b)) (sym (hold_nothing h board)) (nobody b, free b) }

-- nothing changes
pub leaves_same : (o : Option Hold) → Leaves o o (λ b. b)
leaves_same None = record { none = λ is. is; left = λ b is. cc }
leaves_same (Some x) = record { none = λ is. is; left = λ b is. cc }
