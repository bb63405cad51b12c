-- The stamp of a local time.
use Rattle.std.specs.Prelude.{◌≡◌, ℕ, ℤ, pos, ◌+ℤ◌, ◌≤ℤ◌, ◌+◌, ◌-◌, ◌/◌, ◌%◌, List, [], ◌∷◌, ◌++◌, codes, Some, slice_get, unsigned_abs}
use Rattle.std.specs.Int.{int_rem_euclid}
use Rattle.jiff_core.specs.DateTime.{civil_nanos}
use Rattle.jiff_core.specs.Timestamp.{nanos_of_seconds}
use Rattle.jiff_core.specs.declared.civil.datetime.DateTime.{DateTime}
use Rattle.jiff_core.specs.declared.timestamp.Timestamp.{Timestamp}
use Rattle.jiff_tz.specs.Zone.{offset_at}
use Rattle.jiff_tz.specs.declared.timezone.TimeZone.{TimeZone}

-- the last two decimal digits of a number
abbrev pub two_digits : ℕ → List ℕ
two_digits n = (48 + n / 10 % 10) ∷ (48 + n % 10) ∷ []

-- the months of a stamp
abbrev pub months : List (List ℕ)
months = codes "JAN" ∷ codes "FEB" ∷ codes "MAR" ∷ codes "APR" ∷ codes "MAY" ∷ codes "JUN" ∷ codes "JUL" ∷ codes "AUG" ∷ codes "SEP" ∷ codes "OCT" ∷ codes "NOV" ∷ codes "DEC" ∷ []

-- the letters are those of the month of this number, counted from 1
abbrev pub IsMonth : ℕ → List ℕ → Type 0
IsMonth month letters = slice_get months (month - 1) ≡ Some letters

-- the characters of the stamp with this day, month, year within its century, hour, minute and second
abbrev pub stamp_text : ℕ → List ℕ → ℕ → ℕ → ℕ → ℕ → List ℕ
stamp_text day month year hour minute second = two_digits day ++ (month ++ (two_digits year ++ (two_digits hour ++ (two_digits minute ++ two_digits second))))

-- the number of a year within its century
abbrev pub year_of_century : ℤ → ℕ
year_of_century year = unsigned_abs (int_rem_euclid year (pos 100))

-- the characters are those of the stamp of this time
abbrev pub IsStampOf : DateTime → List ℕ → Type 0
IsStampOf time stamp =
    (letters : List ℕ) × IsMonth time.date.month letters
    × (stamp ≡ stamp_text time.date.day letters (year_of_century time.date.year) time.time.hour time.time.minute time.time.second)

-- a clock in some zone shows this time at an instant
abbrev pub IsLocal : Timestamp → DateTime → Type 0
IsLocal instant time = (zone : TimeZone) × (civil_nanos time ≡ instant.nanosecond +ℤ nanos_of_seconds (offset_at zone instant.nanosecond))

-- the stamp is that of the local time at this second since 1970
abbrev pub IsStampAt : ℕ → List ℕ → Type 0
IsStampAt second stamp = (instant : Timestamp) × (instant.nanosecond ≡ nanos_of_seconds (pos second)) × ((time : DateTime) × IsLocal instant time × IsStampOf time stamp)

-- the stamp is that of a local time, from 1970 on
abbrev pub IsStampOfLocal : List ℕ → Type 0
IsStampOfLocal stamp = (instant : Timestamp) × (pos 0 ≤ℤ instant.nanosecond) × ((time : DateTime) × IsLocal instant time × IsStampOf time stamp)
