-- The seconds of a date in a header.
use Rattle.std.specs.Prelude.{◌≡◌, ◌⊎◌, ℕ, pos, int_div, ◌+◌, ◌*◌, ◌-◌, nat_lt, if◌then◌else◌, List, Ok, slice_index, slice_range}
use Rattle.jiff_core.specs.Date.{IsYmd}
use Rattle.jiff_core.specs.Time.{IsHms}
use Rattle.jiff_core.specs.declared.civil.datetime.DateTime.{DateTime}
use Rattle.jiff_core.specs.declared.timestamp.Timestamp.{Timestamp}
use Rattle.jiff_tz.specs.Ambiguous.{IsInstantAt, compatible_offset}
use Rattle.jiff_tz.specs.Zone.{ambiguous_at}
use Rattle.jiff_tz.specs.declared.timezone.TimeZone.{TimeZone}
use Rattle.fs_host.specs.Times.{IsMonth}

-- the number that two digits spell, from this index on
abbrev pub two_at : List ℕ → ℕ → ℕ
two_at date at = (slice_index date at - 48) * 10 + (slice_index date (at + 1) - 48)

-- the year of its last two digits: 70 to 99 are 19YY, other ones are 20YY
abbrev pub full_year : ℕ → ℕ
full_year year = if nat_lt year 70 then 2000 + year else 1900 + year

-- the 13 characters of a date, 01JAN80103000, have this time
abbrev pub IsDated : List ℕ → DateTime → Type 0
IsDated date time = (month : ℕ) × IsMonth month (slice_range date 2 5)
    × IsYmd (pos (full_year (two_at date 5))) (pos month) (pos (two_at date 0)) time.date
    × IsHms (pos (two_at date 7)) (pos (two_at date 9)) (pos (two_at date 11)) (pos 0) time.time

-- a clock in some zone shows the time in this second since 1970
abbrev pub IsSecondOf : DateTime → ℕ → Type 0
IsSecondOf time second = (zone : TimeZone) × (instant : Timestamp) × IsInstantAt time (compatible_offset (ambiguous_at zone time)) (Ok instant)
    × (int_div instant.nanosecond (pos 1000000000) ≡ pos second)

-- the second at which a clock in some zone shows a date; 0 if there is none
abbrev pub IsSecondAt : List ℕ → ℕ → Type 0
IsSecondAt date second = (second ≡ 0) ⊎ ((time : DateTime) × IsDated date time × IsSecondOf time second)
