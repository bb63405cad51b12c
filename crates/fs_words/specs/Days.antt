-- The days of a month, and the times of a day.
use Rattle.std.specs.Prelude.{ℕ, ◌+◌, ◌*◌, ◌-◌, ◌%◌, Bool, false, ◌&&◌, ◌||◌, ◌==◌, nat_le, nat_lt, min, take, drop, slice_index, List, [], ◌∷◌, codes, if◌then◌else◌}
use Rattle.std.specs.List.{position}
use Rattle.std.specs.Option.{option_map_or}
use Rattle.std.specs.Str.{bytes_eq}

-- The number of days of a month, in a year given by its last two digits: of 1970 to 2069 each fourth is a leap year.
abbrev pub days_in : ℕ → ℕ → ℕ
days_in month year = if month == 2 then (if year % 4 == 0 then 29 else 28) else (if (month == 4) || (month == 6) || (month == 9) || (month == 11) then 30 else 31)

-- this day of a month exists, and this time of a day
abbrev pub is_true_moment : ℕ → ℕ → ℕ → ℕ → ℕ → ℕ → Bool
is_true_moment day month year hour minute second = nat_le 1 day && nat_le day (days_in month year) && nat_lt hour 24 && nat_lt minute 60 && nat_lt second 60

-- the months, as stamps write them
abbrev pub months : List (List ℕ)
months = codes "JAN" ∷ codes "FEB" ∷ codes "MAR" ∷ codes "APR" ∷ codes "MAY" ∷ codes "JUN" ∷ codes "JUL" ∷ codes "AUG" ∷ codes "SEP" ∷ codes "OCT" ∷ codes "NOV" ∷ codes "DEC" ∷ []

-- the number of two digits
abbrev pub of_two : ℕ → ℕ → ℕ
of_two tens ones = min (min ((tens - 48) * 10) 255 + (ones - 48)) 255

-- the number of the two digits at this position
abbrev pub two_at : List ℕ → ℕ → ℕ
two_at text at = of_two (slice_index text at) (slice_index text (at + 1))

-- a stamp specifies a day that exists, and a time of the day
abbrev pub is_true_stamp : List ℕ → Bool
is_true_stamp text = option_map_or (λ (place : ℕ). is_true_moment (two_at text 0) (place + 1) (two_at text 5) (two_at text 7) (two_at text 9) (two_at text 11)) (position (λ (m : List ℕ). bytes_eq m (take 3 (drop 2 text))) months) false
