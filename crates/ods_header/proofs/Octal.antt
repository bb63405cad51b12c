-- A byte in octal has the digits that it needs, and no more.
use Rattle.std.proofs.Common.{◌≡◌, ℕ, zero, suc, ◌+◌, ◌/◌, ◌%◌, ◌<◌, ◌≤◌, true, false, [], ◌∷◌, subst, length, length-append, refl, eqb-true, eq-eqb, zero-add, arith, ◌∙◌, ap}
use Rattle.std.proofs.lemmas.Bool.{lt-ltb, le-ltb}
use Rattle.std.specs.Prelude.{nat_eq, nat_lt, if◌then◌else◌}
use Rattle.std.specs.List.{list_all, range_with_len}
use Rattle.std.specs.Fmt.{digits}
use Rattle.std.proofs.lemmas.List.FromFn.{get_or-range_with_len, length-range_with_len}
use Rattle.std.proofs.lemmas.List.Sums.{AllPass-from_list_all}
use lib.Pointwise.{pointwise, pointwise_decides}
use Rattle.ods_header.specs.Text.{octal, octal_digits}

-- how many octal digits a byte needs
abbrev pub digits_needed : ℕ → ℕ
digits_needed n = if nat_lt n 8 then 1 else if nat_lt n 64 then 2 else 3

-- all bytes, one after another
all_bytes : list_all (λ n. pointwise nat_eq (octal n) (octal_digits (digits_needed n) n)) (range_with_len 0 256) ≡ true
unfolding digits
all_bytes = refl

octal_is : (n : ℕ) → n < 256 → octal n ≡ octal_digits (digits_needed n) n
octal_is n small =
    let within : n < length (range_with_len 0 256) = rw (length-range_with_len 0 256) small in
    let here = get_or-range_with_len 0 256 n 0 small ∙ zero-add n in
    let each = AllPass-from_list_all (λ n. pointwise nat_eq (octal n) (octal_digits (digits_needed n) n)) (range_with_len 0 256) all_bytes n 0 within in
    let P : ℕ → Type 0 = λ k. pointwise nat_eq (octal k) (octal_digits (digits_needed k) k) ≡ true in
    let decides : (x y : ℕ) → (nat_eq x y ≡ true → x ≡ y) × (x ≡ y → nat_eq x y ≡ true) = λ x y. (eqb-true x y, eq-eqb x y) in
    (pointwise_decides {E = nat_eq} decides (octal n) (octal_digits (digits_needed n) n)).0 (subst P here each)

-- below 8 one digit, below 64 two, and three for any other byte
pub octal_1 : (n : ℕ) → n < 8 → octal n ≡ octal_digits 1 n
octal_1 n few = let one : nat_lt n 8 ≡ true = lt-ltb n 8 few in rw one at (octal_is n (omega arith))

pub octal_2 : (n : ℕ) → 8 ≤ n → n < 64 → octal n ≡ octal_digits 2 n
octal_2 n some few = let one : nat_lt n 8 ≡ false = le-ltb n 8 some in let two : nat_lt n 64 ≡ true = lt-ltb n 64 few in rw (one, two) at (octal_is n (omega arith))

pub octal_3 : (n : ℕ) → 64 ≤ n → n < 256 → octal n ≡ octal_digits 3 n
octal_3 n some few = let one : nat_lt n 8 ≡ false = le-ltb n 8 (omega arith) in let two : nat_lt n 64 ≡ false = le-ltb n 64 some in rw (one, two) at (octal_is n few)

-- there are as many digits as are asked for
pub length-octal_digits : (digits n : ℕ) → length (octal_digits digits n) ≡ digits
length-octal_digits zero n = refl
length-octal_digits (suc digits) n = length-append (octal_digits digits (n / 8)) ((48 + n % 8) ∷ []) ∙ ap (λ k. k + 1) (length-octal_digits digits (n / 8)) ∙ omega arith
