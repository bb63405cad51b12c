-- The text of a directory in the master directory, by what its name is.
use Rattle.std.proofs.Common.{◌≡◌, ◌∙◌, ℕ, ◌+◌, ◌*◌, ◌-◌, ◌≤◌, Bool, true, false, List, [], ◌∷◌, ap, refl, arith, take, drop, length, cond, zero, suc, le-leb, leb-true, eqb-true}
use Rattle.std.specs.Prelude.{nat_le, ◌&&◌, ◌==◌}
use Rattle.std.specs.List.{All}
use Rattle.ods_paths.specs.Numbers.{IsNumberedName}
use Rattle.ods_shell.specs.Texts.{is_numbered, is_octal, octal_of, shown_numbers, shown_one}

left_of : (a b : Bool) → (a && b) ≡ true → a ≡ true
left_of true b both = refl
left_of false b both = both

right_of : (a b : Bool) → (a && b) ≡ true → b ≡ true
right_of true b both = both
right_of false b both = let clash : false ≡ true = both in absurd (cc)

both_of : (a b : Bool) → a ≡ true → b ≡ true → (a && b) ≡ true
both_of a b first second = ap (λ x. x && b) first ∙ second

digit_passes : (c : ℕ) → 48 ≤ c → c ≤ 55 → (nat_le 48 c && nat_le c 55) ≡ true
digit_passes c low high = both_of (nat_le 48 c) (nat_le c 55) (le-leb 48 c low) (le-leb c 55 high)

digit_is : (c : ℕ) → (nat_le 48 c && nat_le c 55) ≡ true → (48 ≤ c) × (c ≤ 55)
digit_is c pass = (leb-true 48 c (left_of (nat_le 48 c) (nat_le c 55) pass), leb-true c 55 (right_of (nat_le 48 c) (nat_le c 55) pass))

abbrev is_digit : ℕ → Bool
is_digit c = nat_le 48 c && nat_le c 55

abbrev Digit : ℕ → Type 0
Digit c = (48 ≤ c) × (c ≤ 55)

-- three digits that spell n
abbrev Spells : ℕ → ℕ → ℕ → ℕ → Type 0
Spells a b c n = Digit a × Digit b × Digit c × (n ≤ 255) × (((0 * 8 + (a - 48)) * 8 + (b - 48)) * 8 + (c - 48) ≡ n)

each_of_three : (a b c : ℕ) → Digit a → Digit b → Digit c → All Digit (a ∷ b ∷ c ∷ [])
each_of_three a b c first second third zero d low = first
each_of_three a b c first second third (suc zero) d low = second
each_of_three a b c first second third (suc (suc zero)) d low = third
each_of_three a b c first second third (suc (suc (suc k))) d low = absurd (omega (arith, low))

value_is : (a b c n : ℕ) → ((0 * 8 + (a - 48)) * 8 + (b - 48)) * 8 + (c - 48) ≡ n → octal_of (a ∷ b ∷ c ∷ []) ≡ n
value_is a b c n value = let there : (a - 48) * 64 + (b - 48) * 8 + (c - 48) ≡ n = omega (arith, value) in there

three_pass : (a b c n : ℕ) → Spells a b c n → is_octal (a ∷ b ∷ c ∷ []) ≡ true
three_pass a b c n is =
    let value = value_is a b c n is.4 in
    let small : octal_of (a ∷ b ∷ c ∷ []) ≤ 255 = omega (arith, value, is.3) in
    both_of (is_digit a && (is_digit b && (is_digit c && true))) (nat_le (octal_of (a ∷ b ∷ c ∷ [])) 255)
    (both_of (is_digit a) (is_digit b && (is_digit c && true)) (digit_passes a is.0.0 is.0.1)
    (both_of (is_digit b) (is_digit c && true) (digit_passes b is.1.0 is.1.1) (both_of (is_digit c) true (digit_passes c is.2.0 is.2.1) refl)))
    (le-leb (octal_of (a ∷ b ∷ c ∷ [])) 255 small)

three_are : (a b c : ℕ) → is_octal (a ∷ b ∷ c ∷ []) ≡ true → Spells a b c (octal_of (a ∷ b ∷ c ∷ []))
three_are a b c pass =
    let digits : (is_digit a && (is_digit b && (is_digit c && true))) ≡ true = left_of (is_digit a && (is_digit b && (is_digit c && true))) (nat_le (octal_of (a ∷ b ∷ c ∷ [])) 255) pass in
    let later : (is_digit b && (is_digit c && true)) ≡ true = right_of (is_digit a) (is_digit b && (is_digit c && true)) digits in
    let last : (is_digit c && true) ≡ true = right_of (is_digit b) (is_digit c && true) later in
    let small : octal_of (a ∷ b ∷ c ∷ []) ≤ 255 = leb-true (octal_of (a ∷ b ∷ c ∷ [])) 255 (right_of (is_digit a && (is_digit b && (is_digit c && true))) (nat_le (octal_of (a ∷ b ∷ c ∷ [])) 255) pass) in
    let value : ((0 * 8 + (a - 48)) * 8 + (b - 48)) * 8 + (c - 48) ≡ (a - 48) * 64 + (b - 48) * 8 + (c - 48) = omega arith in (
      digit_is a (left_of (is_digit a) (is_digit b && (is_digit c && true)) digits),
      digit_is b (left_of (is_digit b) (is_digit c && true) later),
      digit_is c (left_of (is_digit c) true last),
      small,
      value,
    )

by_six : (P : List ℕ → Type 0) → ((a b c d e f : ℕ) → P (a ∷ b ∷ c ∷ d ∷ e ∷ f ∷ [])) → (name : List ℕ) → length name ≡ 6 → P name
by_six P all [] six = absurd (omega (arith, six))
by_six P all (a ∷ []) six = absurd (omega (arith, six))
by_six P all (a ∷ b ∷ []) six = absurd (omega (arith, six))
by_six P all (a ∷ b ∷ c ∷ []) six = absurd (omega (arith, six))
by_six P all (a ∷ b ∷ c ∷ d ∷ []) six = absurd (omega (arith, six))
by_six P all (a ∷ b ∷ c ∷ d ∷ e ∷ []) six = absurd (omega (arith, six))
by_six P all (a ∷ b ∷ c ∷ d ∷ e ∷ f ∷ []) six = all a b c d e f
by_six P all (a ∷ b ∷ c ∷ d ∷ e ∷ f ∷ g ∷ more) six = absurd (omega (arith, six))

abbrev ByNumbers : List ℕ → Type 0
ByNumbers name = (group member : ℕ) → IsNumberedName name group member → shown_one name ≡ shown_numbers group member

numbers_of_six : (a b c d e f : ℕ) → ByNumbers (a ∷ b ∷ c ∷ d ∷ e ∷ f ∷ [])
unfolding shown_one
numbers_of_six a b c d e f group member is =
    let first : Spells a b c group = (is.first.digits 0 0 (omega arith), is.first.digits 1 0 (omega arith), is.first.digits 2 0 (omega arith), is.first.small, is.first.value) in
    let last : Spells d e f member = (is.last.digits 0 0 (omega arith), is.last.digits 1 0 (omega arith), is.last.digits 2 0 (omega arith), is.last.small, is.last.value) in
    let passes : (is_octal (a ∷ b ∷ c ∷ []) && is_octal (d ∷ e ∷ f ∷ [])) ≡ true = both_of (is_octal (a ∷ b ∷ c ∷ [])) (is_octal (d ∷ e ∷ f ∷ [])) (three_pass a b c group first) (three_pass d e f member last) in
    let group_is = value_is a b c group first.4 in
    let member_is = value_is d e f member last.4 in
    ap (λ x. cond x (shown_numbers (octal_of (a ∷ b ∷ c ∷ [])) (octal_of (d ∷ e ∷ f ∷ []))) (a ∷ b ∷ c ∷ d ∷ e ∷ f ∷ [])) passes ∙ (λ i. shown_numbers (group_is i) (member_is i))

pub shown_by_numbers : (name : List ℕ) (group member : ℕ) → IsNumberedName name group member → shown_one name ≡ shown_numbers group member
shown_by_numbers name group member is = by_six ByNumbers numbers_of_six name is.six group member is

-- a name that passes is numbered
abbrev IsNumberedIf : List ℕ → Type 0
IsNumberedIf name = is_numbered name ≡ true → IsNumberedName name (octal_of (take 3 name)) (octal_of (drop 3 name))

numbered_of_six : (a b c d e f : ℕ) → IsNumberedIf (a ∷ b ∷ c ∷ d ∷ e ∷ f ∷ [])
numbered_of_six a b c d e f pass =
    let parts : (is_octal (a ∷ b ∷ c ∷ []) && is_octal (d ∷ e ∷ f ∷ [])) ≡ true = pass in
    let first = three_are a b c (left_of (is_octal (a ∷ b ∷ c ∷ [])) (is_octal (d ∷ e ∷ f ∷ [])) parts) in
    let last = three_are d e f (right_of (is_octal (a ∷ b ∷ c ∷ [])) (is_octal (d ∷ e ∷ f ∷ [])) parts) in
    record {
      six = refl;
      first = record { some = omega arith; few = omega arith; digits = each_of_three a b c first.0 first.1 first.2; small = first.3; value = first.4 };
      last = record { some = omega arith; few = omega arith; digits = each_of_three d e f last.0 last.1 last.2; small = last.3; value = last.4 };
    }

numbered_is : (name : List ℕ) → IsNumberedIf name
numbered_is name pass = by_six IsNumberedIf numbered_of_six name (eqb-true (length name) 6 (left_of (length name == 6) (is_octal (take 3 name)) (left_of ((length name == 6) && is_octal (take 3 name)) (is_octal (drop 3 name)) pass))) pass

named : (name text : List ℕ) (b : Bool) → (b ≡ true → ⊥) → cond b text name ≡ name
named name text true not = absurd (not refl)
named name text false not = refl

pub shown_by_name : (name : List ℕ) → ((group member : ℕ) → IsNumberedName name group member → ⊥) → shown_one name ≡ name
unfolding shown_one
shown_by_name name none =
    named name (shown_numbers (octal_of (take 3 name)) (octal_of (drop 3 name))) (is_numbered name)
    (λ pass. none (octal_of (take 3 name)) (octal_of (drop 3 name)) (numbered_is name pass))
