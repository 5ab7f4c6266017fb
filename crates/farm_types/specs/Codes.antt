-- The numbers by which tables keep what is one of a few things.
use Rattle.std.specs.Prelude.{ℕ, ◌==◌, Bool, Option, List, [], ◌∷◌, codes}
use Rattle.std.specs.List.{find}
use Rattle.farm_types.specs.declared.rows.Health.{Health}
use Rattle.farm_types.specs.declared.rows.State.{State}
use Rattle.farm_types.specs.declared.rows.JobState.{JobState}
use Rattle.farm_types.specs.declared.rows.ResState.{ResState}
use Rattle.farm_types.specs.declared.rows.Outcome.{Outcome}

abbrev pub health_code : Health → ℕ
health_code Health.Good = 0
health_code Health.Bad = 1
health_code Health.Unknown = 2
health_code Health.Maintenance = 3
health_code Health.Retired = 4

abbrev pub state_code : State → ℕ
state_code State.Idle = 0
state_code State.Reserved = 1
state_code State.Running = 2

abbrev pub job_state_code : JobState → ℕ
job_state_code JobState.Submitted = 0
job_state_code JobState.Scheduling = 1
job_state_code JobState.Scheduled = 2
job_state_code JobState.Running = 3
job_state_code JobState.Canceling = 4
job_state_code JobState.Finished = 5

abbrev pub outcome_code : Outcome → ℕ
outcome_code Outcome.Complete = 1
outcome_code Outcome.Incomplete = 2
outcome_code Outcome.Infra = 3
outcome_code Outcome.Canceled = 4

abbrev pub res_state_code : ResState → ℕ
res_state_code ResState.Waiting = 0
res_state_code ResState.Allocated = 1
res_state_code ResState.Acquired = 2
res_state_code ResState.Expired = 3
res_state_code ResState.Canceled = 4

-- whether two are the same
abbrev pub same_health : Health → Health → Bool
same_health a b = health_code a == health_code b

abbrev pub same_job_state : JobState → JobState → Bool
same_job_state a b = job_state_code a == job_state_code b

abbrev pub same_outcome : Outcome → Outcome → Bool
same_outcome a b = outcome_code a == outcome_code b

abbrev pub same_res_state : ResState → ResState → Bool
same_res_state a b = res_state_code a == res_state_code b

-- the one with a code, if there is one
abbrev pub health_with : ℕ → Option Health
health_with code = find (λ x. health_code x == code) (Health.Good ∷ Health.Bad ∷ Health.Unknown ∷ Health.Maintenance ∷ Health.Retired ∷ [])

abbrev pub state_with : ℕ → Option State
state_with code = find (λ x. state_code x == code) (State.Idle ∷ State.Reserved ∷ State.Running ∷ [])

abbrev pub job_state_with : ℕ → Option JobState
job_state_with code = find (λ x. job_state_code x == code) (JobState.Submitted ∷ JobState.Scheduling ∷ JobState.Scheduled ∷ JobState.Running ∷ JobState.Canceling ∷ JobState.Finished ∷ [])

abbrev pub outcome_with : ℕ → Option Outcome
outcome_with code = find (λ x. outcome_code x == code) (Outcome.Complete ∷ Outcome.Incomplete ∷ Outcome.Infra ∷ Outcome.Canceled ∷ [])

abbrev pub res_state_with : ℕ → Option ResState
res_state_with code = find (λ x. res_state_code x == code) (ResState.Waiting ∷ ResState.Allocated ∷ ResState.Acquired ∷ ResState.Expired ∷ ResState.Canceled ∷ [])

-- the words in answers and reports
abbrev pub health_word : Health → List ℕ
health_word Health.Good = codes "Good"
health_word Health.Bad = codes "Bad"
health_word Health.Unknown = codes "Unknown"
health_word Health.Maintenance = codes "Maintenance"
health_word Health.Retired = codes "Retired"

abbrev pub state_word : State → List ℕ
state_word State.Idle = codes "Idle"
state_word State.Reserved = codes "Reserved"
state_word State.Running = codes "Running"

abbrev pub job_state_word : JobState → List ℕ
job_state_word JobState.Submitted = codes "Submitted"
job_state_word JobState.Scheduling = codes "Scheduling"
job_state_word JobState.Scheduled = codes "Scheduled"
job_state_word JobState.Running = codes "Running"
job_state_word JobState.Canceling = codes "Canceling"
job_state_word JobState.Finished = codes "Finished"

abbrev pub outcome_word : Outcome → List ℕ
outcome_word Outcome.Complete = codes "Complete"
outcome_word Outcome.Incomplete = codes "Incomplete"
outcome_word Outcome.Infra = codes "Infra"
outcome_word Outcome.Canceled = codes "Canceled"

abbrev pub res_state_word : ResState → List ℕ
res_state_word ResState.Waiting = codes "waiting"
res_state_word ResState.Allocated = codes "allocated"
res_state_word ResState.Acquired = codes "acquired"
res_state_word ResState.Expired = codes "expired"
res_state_word ResState.Canceled = codes "canceled"
