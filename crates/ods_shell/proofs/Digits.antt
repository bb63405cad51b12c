-- How many decimal digits a number of 16 bits has.
use Rattle.std.proofs.Common.{◌≡◌, ℕ, ◌+◌, ◌/◌, ◌%◌, ◌<◌, ◌≤◌, [], ◌∷◌, ◌∙◌, ap, arith, length, length-append}
use Rattle.std.specs.Fmt.{decimal}
use Rattle.std.proofs.lemmas.Fmt.{decimal_digit, decimal_step}

pub length_1 : (n : ℕ) → n < 10 → length (decimal n) ≡ 1
length_1 n few = ap length (decimal_digit n few)

-- a number from 10 on has a digit more than its tenth
longer : (n k : ℕ) → 10 ≤ n → n < 100000 → length (decimal (n / 10)) ≡ k → length (decimal n) ≡ k + 1
longer n k some few tenth = ap length (decimal_step n some (omega arith)) ∙ length-append (decimal (n / 10)) ((48 + n % 10) ∷ []) ∙ ap (λ j. j + 1) tenth

pub length_2 : (n : ℕ) → 10 ≤ n → n < 100 → length (decimal n) ≡ 2
length_2 n some few = longer n 1 some (omega arith) (length_1 (n / 10) (omega arith))

pub length_3 : (n : ℕ) → 100 ≤ n → n < 1000 → length (decimal n) ≡ 3
length_3 n some few = longer n 2 (omega arith) (omega arith) (length_2 (n / 10) (omega arith) (omega arith))

pub length_4 : (n : ℕ) → 1000 ≤ n → n < 10000 → length (decimal n) ≡ 4
length_4 n some few = longer n 3 (omega arith) (omega arith) (length_3 (n / 10) (omega arith) (omega arith))

pub length_5 : (n : ℕ) → 10000 ≤ n → n < 65536 → length (decimal n) ≡ 5
length_5 n some few = longer n 4 (omega arith) (omega arith) (length_4 (n / 10) (omega arith) (omega arith))
