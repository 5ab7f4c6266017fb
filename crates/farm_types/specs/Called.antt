-- The words that files, requests, answers and reports share: which word names what.
use Rattle.std.specs.Prelude.{ℕ, List, [], ◌∷◌, ◌++◌, Option, Some, None, Result, Ok, codes, decimal, if◌then◌else◌}
use Rattle.std.specs.List.{find}
use Rattle.std.specs.Str.{bytes_eq}
use Rattle.farm_types.specs.Limits.{highest_priority}
use Rattle.farm_types.specs.Codes.{health_word, outcome_word}
use Rattle.farm_types.specs.Reads.{◌>>=◌}
use Rattle.farm_types.specs.declared.rows.Check.{Check}
use Rattle.farm_types.specs.declared.rows.Health.{Health}
use Rattle.farm_types.specs.declared.rows.Holder.{Holder}
use Rattle.farm_types.specs.declared.rows.Outcome.{Outcome}
use Rattle.farm_types.specs.declared.claims.ClaimKind.{ClaimKind}
use Rattle.farm_types.specs.declared.called.CheckUnit.{CheckUnit}

-- the first of these whose word the text is
abbrev pub first_called : {X : Type 0} → (X → List ℕ) → List X → List ℕ → Option X
first_called word xs text = find (λ x. bytes_eq text (word x)) xs

-- one of five words
abbrev pub health_called : List ℕ → Option Health
health_called = first_called health_word (Health.Good ∷ Health.Bad ∷ Health.Unknown ∷ Health.Maintenance ∷ Health.Retired ∷ [])

-- one of three words: a job is canceled by a command of its own, and not by its end
abbrev pub outcome_called : List ℕ → Option Outcome
outcome_called = first_called outcome_word (Outcome.Complete ∷ Outcome.Incomplete ∷ Outcome.Infra ∷ [])

-- ---- priorities

-- the priority of a claim that names none
abbrev pub medium_priority : ℕ
medium_priority = 50

-- one of three words
abbrev pub priority_called : List ℕ → Option ℕ
priority_called text =
    if bytes_eq text (codes "low") then Some 0
    else if bytes_eq text (codes "medium") then Some medium_priority
    else if bytes_eq text (codes "high") then Some highest_priority
    else None

-- ---- checks

-- what a check's frequency counts
abbrev pub unit_of : Check → CheckUnit
unit_of Check.Never = CheckUnit.None
unit_of (Check.Hours n) = CheckUnit.Hours
unit_of (Check.Jobs n) = CheckUnit.Jobs

abbrev pub unit_word : CheckUnit → List ℕ
unit_word CheckUnit.None = codes "none"
unit_word CheckUnit.Hours = codes "hours"
unit_word CheckUnit.Jobs = codes "jobs"

-- one of three words
abbrev pub unit_called : List ℕ → Option CheckUnit
unit_called = first_called unit_word (CheckUnit.None ∷ CheckUnit.Hours ∷ CheckUnit.Jobs ∷ [])

-- the check of a unit: the frequency counts where there is one
abbrev pub check_by : {E : Type 0} → CheckUnit → Result ℕ E → Result Check E
check_by CheckUnit.None every = Ok Check.Never
check_by CheckUnit.Hours every = every >>= λ n. Ok (Check.Hours n)
check_by CheckUnit.Jobs every = every >>= λ n. Ok (Check.Jobs n)

-- ---- who holds and who waits

-- who holds a board
abbrev pub holder_text : Holder → List ℕ
holder_text Holder.Nobody = codes "none"
holder_text (Holder.Job n) = codes "job " ++ decimal n
holder_text (Holder.Res n) = codes "reservation " ++ decimal n

-- who waits in the queue
abbrev pub claim_word : ClaimKind → List ℕ
claim_word ClaimKind.Group = codes "group"
claim_word ClaimKind.Reservation = codes "reservation"
