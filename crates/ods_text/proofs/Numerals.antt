-- Numbers in decimal, below 2^64.
use Rattle.std.proofs.Common.{◌≡◌, ◌≢◌, ℕ, ◌+◌, ◌^◌, ◌<◌, ◌≤◌, List, [], ◌∷◌, length, get_or, Result, Ok, Some, sym, ap, ◌∙◌, arith, inl, inr}
use Rattle.std.specs.Fmt.{decimal}
use Rattle.std.specs.Str.{IsUtf8}
use Rattle.std.specs.Str.Parse.{AllDigits, digits_value, ParsesUnsigned}
use Rattle.std.proofs.lemmas.Fmt.{parse-decimal, decimal_digit, decimal_nonempty, first_decimal, IsAscii-decimal, decimal_injective, decimal-digits_value, digits_decimal}
use Rattle.std.proofs.lemmas.Bool.{cases_lt}
use Rattle.std.proofs.lemmas.Str.{IsUtf8-from_ascii}
use Rattle.std.proofs.lemmas.Str.Parse.{IsNumeralModel, numerals_by_value, tells_digits, parse_plain, digit_at}
use Rattle.ods_text.specs.One.{IsTheOne}
use Rattle.ods_text.specs.Numbers.{IsLargeNumber, IsSmallNumber}

numerals : IsNumeralModel (AllDigits 10) (digits_value 10)
numerals = numerals_by_value (AllDigits 10) tells_digits

-- a number's digits are text
pub number_is_text : (ds : List ℕ) (n : ℕ) → IsLargeNumber ds n → IsUtf8 ds
number_is_text ds n p = let e = p.1 in let small : n < 2 ^ 64 = omega (arith, p.0) in rw e (IsUtf8-from_ascii (decimal n) (IsAscii-decimal n small))

-- the digits of a number are `0`, or begin with one from 1 to 9
pub number_begins : (ds : List ℕ) (n : ℕ) → IsLargeNumber ds n → ds ≢ 48 ∷ [] → (0 < length ds) × (49 ≤ get_or ds 0 0) × (get_or ds 0 0 ≤ 57)
number_begins ds n p not_zero =
    let e = p.1 in
    let small : n < 2 ^ 64 = omega (arith, p.0) in
    let some : 0 < length (decimal n) = decimal_nonempty n small in
    elim (cases_lt 0 n) [
      | inl h ↦ rw e (some, omega (arith, first_decimal n h small), (digit_at (decimal n) 0 (digits_decimal numerals n small) some).1)
      | inr h ↦
          let zero_text : decimal n ≡ (48 + n) ∷ [] = decimal_digit n (omega arith) in
          let none : n ≡ 0 = omega arith in
          absurd (not_zero (e ∙ zero_text ∙ ap (λ (k : ℕ). (48 + k) ∷ []) none))
    ]

-- one text spells one number
pub one_number : (ds : List ℕ) (m n : ℕ) → IsLargeNumber ds m → IsLargeNumber ds n → m ≡ n
one_number ds m n p q =
    let a : m < 2 ^ 64 = omega (arith, p.0) in
    let b : n < 2 ^ 64 = omega (arith, q.0) in
    decimal_injective m n a b (sym p.1 ∙ q.1)

-- what is spelled is the one
pub the_number : (ds : List ℕ) (n : ℕ) → IsLargeNumber ds n → IsTheOne (IsLargeNumber ds) (Some n)
the_number ds n p = (p, λ y q. one_number ds y n q p)

-- `0` is spelled by `0`
pub zero_is_read : (ds : List ℕ) → ds ≡ 48 ∷ [] → IsLargeNumber ds 0
zero_is_read ds e = (omega arith, e ∙ sym (decimal_digit 0 (omega arith)))

-- what is read from digits that begin with 1 to 9
pub number_is_read : {E : Type 0} (ds text : List ℕ) (n : ℕ) (r : Result ℕ E) → text ≡ ds → 0 < length ds → 49 ≤ get_or ds 0 0 → get_or ds 0 0 ≤ 57 → ParsesUnsigned 64 10 text r → r ≡ Ok n → IsLargeNumber ds n
number_is_read {E} ds text n r same some low high parsed ok =
    let says = parse_plain numerals {E = E} 64 ds (Ok n) (rw (same, ok) at parsed) (λ e. absurd (omega (arith, e))) in
    let spelled : decimal n ≡ ds = ap decimal says.1 ∙ decimal-digits_value numerals ds says.0.0 some (λ e. absurd (omega (arith, e))) (omega (arith, says.0.2)) in
    (omega (arith, says.0.2, says.1), sym spelled)

-- a number is read from its digits
pub read_from_digits : {E : Type 0} (ds text : List ℕ) (n : ℕ) (r : Result ℕ E) → text ≡ ds → IsLargeNumber ds n → ParsesUnsigned 64 10 text r → r ≡ Ok n
read_from_digits ds text n r same p parsed =
    let small : n < 2 ^ 64 = p.0 in
    parse-decimal 64 n text r (omega arith) (omega arith) (same ∙ p.1) parsed

-- `0` spells no other
pub zero_only : (ds : List ℕ) (n : ℕ) → ds ≡ 48 ∷ [] → IsLargeNumber ds n → n ≡ 0
zero_only ds n e p = one_number ds n 0 p (zero_is_read ds e)

-- a number below 2^16 is one below 2^64
pub wide : (ds : List ℕ) (n : ℕ) → IsSmallNumber ds n → IsLargeNumber ds n
wide ds n p = (omega (arith, p.0), p.1)
