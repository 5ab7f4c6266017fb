-- Codes and priorities are small numbers.
use Rattle.std.proofs.Common.{ℕ, ◌≤◌, ◌≢◌, IsTrue, arith, refl}
use Rattle.farm_store.proofs.Names.{first_state_code, health_code, holder_of, IsSmall, job_state_code, JobState, nat_tests, outcome_code, res_state_code}
use Rattle.farm_store.proofs.Names.{state_code, unit_code}
use Rattle.farm_types.specs.Limits.{is_priority}
use Rattle.farm_types.specs.declared.rows.Check.{Check}
use Rattle.farm_types.specs.declared.rows.Health.{Health}
use Rattle.farm_types.specs.declared.rows.Holder.{Holder}
use Rattle.farm_types.specs.declared.rows.Outcome.{Outcome}
use Rattle.farm_types.specs.declared.rows.ResState.{ResState}
use Rattle.farm_types.specs.declared.rows.State.{State}

pub unit_is_small : (c : Check) → IsSmall (unit_code c)
unit_is_small Check.Never = omega arith
unit_is_small (Check.Hours n) = omega arith
unit_is_small (Check.Jobs n) = omega arith

pub holder_is_small : (h : Holder) → IsSmall (holder_of h)
holder_is_small Holder.Nobody = omega arith
holder_is_small (Holder.Job n) = omega arith
holder_is_small (Holder.Res n) = omega arith

pub health_is_small : (h : Health) → IsSmall (health_code h)
health_is_small Health.Good = omega arith
health_is_small Health.Bad = omega arith
health_is_small Health.Unknown = omega arith
health_is_small Health.Maintenance = omega arith
health_is_small Health.Retired = omega arith

pub state_is_small : (s : State) → IsSmall (state_code s)
state_is_small State.Idle = omega arith
state_is_small State.Reserved = omega arith
state_is_small State.Running = omega arith

pub job_state_is_small : (s : JobState) → IsSmall (job_state_code s)
job_state_is_small JobState.Submitted = omega arith
job_state_is_small JobState.Scheduling = omega arith
job_state_is_small JobState.Scheduled = omega arith
job_state_is_small JobState.Running = omega arith
job_state_is_small JobState.Canceling = omega arith
job_state_is_small JobState.Finished = omega arith

-- the first edition's codes are 0 to 4
pub first_code_is_low : (s : JobState) → s ≢ JobState.Scheduling → first_state_code s ≤ 4
first_code_is_low JobState.Submitted known = omega arith
first_code_is_low JobState.Scheduling known = absurd (known refl)
first_code_is_low JobState.Scheduled known = omega arith
first_code_is_low JobState.Running known = omega arith
first_code_is_low JobState.Canceling known = omega arith
first_code_is_low JobState.Finished known = omega arith

pub outcome_is_small : (o : Outcome) → IsSmall (outcome_code o)
outcome_is_small Outcome.Complete = omega arith
outcome_is_small Outcome.Incomplete = omega arith
outcome_is_small Outcome.Infra = omega arith
outcome_is_small Outcome.Canceled = omega arith

pub res_state_is_small : (s : ResState) → IsSmall (res_state_code s)
res_state_is_small ResState.Waiting = omega arith
res_state_is_small ResState.Allocated = omega arith
res_state_is_small ResState.Acquired = omega arith
res_state_is_small ResState.Expired = omega arith
res_state_is_small ResState.Canceled = omega arith

pub priority_is_small : (p : ℕ) → IsTrue (is_priority p) → IsSmall p
priority_is_small p h = let low : p ≤ 100 = grind (arith, nat_tests) in omega arith
