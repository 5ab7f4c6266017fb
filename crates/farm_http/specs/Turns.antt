-- The turns of a reader or a writer: how often it was called and how often it failed, by its own
-- count.
use Rattle.std.specs.Prelude.{◌≡◌, ◌≢◌, ℕ, ◌+◌, ◌-◌, ◌^◌, ◌<◌, ◌≤◌, ◌⊎◌, min, suc, zero, ⊤, Option, Some, None, Result, Ok, Err}
use Rattle.std.specs.IoError.{error_kind}
use Rattle.std.specs.declared.io.Error.{Error}
use Rattle.std.specs.declared.io.ErrorKind.TheVariants.{Interrupted}
use Rattle.farm_http.specs.declared.fault.WireFault.{WireFault}
use Rattle.farm_http.specs.declared.fault.WireFault.TheVariants.{Read}

-- how many turns were taken, and at how many of them it failed
pub record Turns : Type 0 where
  pub taken : ℕ
  pub failed : ℕ

-- one more; a count stops at `u64::MAX`
abbrev pub one_more : ℕ → ℕ
one_more n = min (n + 1) (2 ^ 64 - 1)

-- one turn was taken, where turns are counted
abbrev pub TakesTurn : Option Turns → Option Turns → Type 0
TakesTurn None new = ⊤
TakesTurn (Some old) new = new ≡ Some (record old { taken = one_more old.taken })

-- it failed at one turn, where turns are counted
abbrev pub FailsAtTurn : Option Turns → Option Turns → Type 0
FailsAtTurn None new = ⊤
FailsAtTurn (Some old) new =
    new ≡ Some (record { taken = one_more old.taken; failed = one_more old.failed })

-- a read takes one turn, and fails where it gives an error that is no interruption
abbrev pub CountsRead : Option Turns → Option Turns → Result ℕ Error → Type 0
CountsRead old new (Ok n) = TakesTurn old new
CountsRead old new (Err e) = (error_kind e ≡ Interrupted → TakesTurn old new)
    × (error_kind e ≢ Interrupted → FailsAtTurn old new)

-- a write takes one turn, and fails where it gives an error or takes no byte
abbrev pub CountsWrite : Option Turns → Option Turns → Result ℕ Error → Type 0
CountsWrite old new (Ok n) = (0 < n → TakesTurn old new) × (n ≡ 0 → FailsAtTurn old new)
CountsWrite old new (Err e) = FailsAtTurn old new

-- so many turns were taken, and it failed at none of them
unfoldable pub TakesTurns : ℕ → Option Turns → Option Turns → Type 0
TakesTurns zero old new = new ≡ old
TakesTurns (suc n) old new = (before : Option Turns) × TakesTurns n old before × TakesTurn before new

-- it took so many turns, and failed at the next
abbrev pub FailsBehind : ℕ → Option Turns → Option Turns → Type 0
FailsBehind n old new = (before : Option Turns) × TakesTurns n old before × FailsAtTurn before new

-- it took so many turns at most, and failed at none
abbrev pub TakesAtMost : ℕ → Option Turns → Option Turns → Type 0
TakesAtMost most old new = (n : ℕ) × (n ≤ most) × TakesTurns n old new

-- it failed at one of so many turns, the last that it took
abbrev pub FailsWithin : ℕ → Option Turns → Option Turns → Type 0
FailsWithin most old new = (n : ℕ) × (n < most) × FailsBehind n old new

-- it failed at one of so many turns, or took them all
abbrev pub IsSpent : ℕ → Option Turns → Option Turns → Type 0
IsSpent had old new = FailsWithin had old new ⊎ TakesTurns had old new

-- of so many turns that it had these are left, and it failed at none of the others
abbrev pub LeavesTurns : ℕ → ℕ → Option Turns → Option Turns → Type 0
LeavesTurns had left old new = (n : ℕ) × (had ≡ left + n) × TakesTurns n old new

-- with the fault Read it failed at one of so many turns or took all, with any other it failed at none
abbrev pub IsSpentBy : ℕ → ℕ → Option Turns → Option Turns → WireFault → Type 0
IsSpentBy had left old new Read = IsSpent had old new
IsSpentBy had left old new fault = LeavesTurns had left old new

-- reading took some of so many turns, and these are left
abbrev pub SpendsTurns : {A : Type 0} → ℕ → ℕ → Option Turns → Option Turns → Result A WireFault
    → Type 0
SpendsTurns had left old new (Ok a) = LeavesTurns had left old new
SpendsTurns had left old new (Err fault) = IsSpentBy had left old new fault
