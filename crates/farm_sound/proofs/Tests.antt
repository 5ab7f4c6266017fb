-- What the tests of numbers and states say.
use Rattle.std.proofs.Common.{◌&&◌, ◌==◌, ◌||◌, ◌≡◌, Bool, arith, false, not, refl, subst, sym, true, ℕ}
use Rattle.farm_sound.proofs.Names.{false≢true, Health, Holder, JobRow, JobState, nat_tests, ResState}
use Rattle.farm_types.specs.Names.{is_nobody, phase, same_health, same_job_state, same_res_state, waits}

pub both : (a b : Bool) → (a && b) ≡ true → (a ≡ true) × (b ≡ true)
both true b is = (refl, is)
both false b is = absurd (false≢true is)

pub same_number : (a b : ℕ) → (a == b) ≡ true → a ≡ b
same_number a b is = grind (arith, nat_tests)

pub both_false : (a b : Bool) → (a || b) ≡ false → (a ≡ false) × (b ≡ false)
both_false true b is = absurd (false≢true (sym is))
both_false false b is = (refl, is)

pub not_false : (b : Bool) → not b ≡ false → b ≡ true
not_false true is = refl
not_false false is = absurd (false≢true (sym is))

-- ---- states

pub running_from : (s : JobState) → same_job_state s JobState.Running ≡ true → s ≡ JobState.Running
running_from JobState.Running is = refl
running_from s is = absurd (false≢true is)

pub scheduled_from : (s : JobState) → same_job_state s JobState.Scheduled ≡ true → s ≡ JobState.Scheduled
scheduled_from JobState.Scheduled is = refl
scheduled_from s is = absurd (false≢true is)

pub started_from : (s : JobState) → (same_job_state s JobState.Running || same_job_state s JobState.Canceling) ≡ true
    → (phase s ≡ 2) × (s ≡ JobState.Finished → ⊥)
started_from JobState.Running is = (refl, λ e. cc)
started_from JobState.Canceling is = (refl, λ e. cc)
started_from s is = absurd (false≢true is)

-- who waits for boards is in the first phase
pub waits_from : (j : JobRow) → waits j ≡ true → phase j.state ≡ 0
waits_from j is = grind arith

pub scheduling_from : (s : JobState) → same_job_state s JobState.Scheduling ≡ true → s ≡ JobState.Scheduling
scheduling_from JobState.Scheduling is = refl
scheduling_from s is = absurd (false≢true is)

pub waiting_from : (s : ResState) → same_res_state s ResState.Waiting ≡ true → s ≡ ResState.Waiting
waiting_from ResState.Waiting is = refl
waiting_from s is = absurd (false≢true is)

pub allocated_from : (s : ResState) → same_res_state s ResState.Allocated ≡ true → s ≡ ResState.Allocated
allocated_from ResState.Allocated is = refl
allocated_from s is = absurd (false≢true is)

pub acquired_from : (s : ResState) → same_res_state s ResState.Acquired ≡ true → s ≡ ResState.Acquired
acquired_from ResState.Acquired is = refl
acquired_from s is = absurd (false≢true is)

-- ---- holders

pub nobody_from : (h : Holder) → is_nobody h ≡ true → h ≡ Holder.Nobody
nobody_from Holder.Nobody is = refl
nobody_from h is = absurd (false≢true is)

-- a Retired board has no holder
pub retired_idle : (health : Health) (h : Holder) → (same_health health Health.Retired && not (is_nobody h)) ≡ false → health ≡ Health.Retired
    → h ≡ Holder.Nobody
retired_idle health Holder.Nobody is retired = refl
retired_idle health h is retired = absurd (false≢true (sym (subst (λ x. (same_health x Health.Retired && true) ≡ false) retired is)))
