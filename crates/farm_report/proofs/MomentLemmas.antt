-- What a clock shows in whole seconds.
use Rattle.std.proofs.Common.{ℕ, zero, suc, ℤ, pos, ◌+ℤ◌, ◌*ℤ◌, ◌≡◌, ◌≢◌, List, Some, None, refl, arith}
use Rattle.std.proofs.lemmas.Int.{ints}
use Rattle.jiff.specs.Types.{DateTime, Time}
use Rattle.jiff.specs.Words.{civil_nanos, civil_seconds, nanos_of_seconds, time_text}
use Rattle.farm_report.specs.Moments.{ShowsCheck, ShowsMoment}

-- an instant of whole seconds at an offset
pub together : (civil instant moment ahead : ℤ) → civil ≡ instant +ℤ nanos_of_seconds ahead → instant ≡ moment *ℤ pos 1_000_000_000
    → civil ≡ (moment +ℤ ahead) *ℤ pos 1_000_000_000
together civil instant moment ahead a b = omega (arith, ints)

-- a datetime of whole seconds has no fraction
pub in_seconds : (civil : DateTime) (n : ℤ) → civil_nanos civil ≡ n *ℤ pos 1_000_000_000
    → (civil_seconds civil ≡ n) × (civil.time.subsec_nanosecond ≡ 0)
unfolding civil_nanos civil_seconds
in_seconds civil n e =
    let most = civil.time.subsec_in in
    (omega (arith, ints), omega (arith, ints))

-- and its time shows none
pub no_fraction : (t : Time) → t.subsec_nanosecond ≡ 0 → time_text None t ≡ time_text (Some 0) t
no_fraction t e = rw e refl

pub checked_then : (ahead : ℤ) (moment : ℕ) (text : List ℕ) → moment ≢ 0 → ShowsMoment ahead moment text → ShowsCheck ahead moment text
checked_then ahead zero text some shows = absurd (some refl)
checked_then ahead (suc n) text some shows = shows
