-- Moments, in seconds since 1970-01-01 00:00:00 UTC, as the civil date and time at an offset.
use Rattle.std.specs.Prelude.{◌≡◌, ℕ, zero, suc, ℤ, pos, ◌+ℤ◌, List, [], ◌∷◌, ◌++◌, Some, codes}
use Rattle.jiff.specs.Types.{DateTime}
use Rattle.jiff.specs.Words.{civil_seconds, date_text, time_text}
use Rattle.farm_report.specs.declared.moment.TheConstants.{LAST_SECOND, MOST_MINUTES}

-- how far a report's clock may be from UTC, in minutes
abbrev pub most_minutes : ℕ
most_minutes = 840

-- the last second that the calendar has at every offset, shortly before the year 10000
abbrev pub last_second : ℕ
last_second = 253402207200

-- the text shows what a clock shows at the moment, which is so many seconds ahead of UTC, in whole
-- seconds: `2023-11-14 22:13:20`
abbrev pub ShowsMoment : ℤ → ℕ → List ℕ → Type 0
ShowsMoment ahead moment text = (civil : DateTime) × (civil_seconds civil ≡ pos moment +ℤ ahead)
    × (text ≡ date_text civil.date ++ 32 ∷ time_text (Some 0) civil.time)

-- the same of a board's last check, of which there is none where the number is 0
abbrev pub ShowsCheck : ℤ → ℕ → List ℕ → Type 0
ShowsCheck ahead zero text = text ≡ codes "never"
ShowsCheck ahead (suc n) text = ShowsMoment ahead (suc n) text

-- the numbers that the code names are these
abbrev pub MomentsAgree : Type 0
MomentsAgree = (LAST_SECOND ∷ MOST_MINUTES ∷ []) ≡ (last_second ∷ most_minutes ∷ [])
