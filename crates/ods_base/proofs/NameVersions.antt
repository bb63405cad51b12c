-- The version in the text of a name: decimal digits without leading zeros.
use Rattle.std.proofs.Common.{◌≡◌, ◌≢◌, ℕ, ◌^◌, ◌<◌, ◌≤◌, List, [], ◌∷◌, length, get_or, Result, Ok, refl, sym, ap, ◌∙◌, arith, inl, inr}
use Rattle.std.specs.Fmt.{decimal}
use Rattle.std.specs.Str.{IsUtf8}
use Rattle.std.specs.Str.Parse.{AllDigits, digits_value, ParsesUnsigned}
use Rattle.std.proofs.lemmas.Fmt.{parse-decimal, decimal_digit, decimal_nonempty, first_decimal, IsAscii-decimal, decimal_injective, decimal-digits_value, digits_decimal}
use Rattle.std.proofs.lemmas.Bool.{cases_lt}
use Rattle.std.proofs.lemmas.Str.{IsUtf8-from_ascii}
use Rattle.std.proofs.lemmas.Str.Parse.{IsNumeralModel, numerals_by_value, tells_digits, parse_plain, digit_at}
use Rattle.ods_base.specs.Name.{IsVersionText}
use Rattle.ods_base.specs.declared.name.Pick.{Pick}
use Rattle.ods_base.specs.declared.name.Pick.TheVariants.{Exact, Highest, Lowest}

-- the text of a version is no other text
not_digits : (v : ℕ) (c : ℕ) (rest : List ℕ) → 1 ≤ v → v ≤ 32767 → c ≤ 48 → decimal v ≢ c ∷ rest
not_digits v c rest low high small e = absurd (omega (arith, first_decimal v (omega arith) (omega arith), ap (λ l. get_or l 0 0) e))

behind_semicolon : (xs ys : List ℕ) → 59 ∷ xs ≡ 59 ∷ ys → xs ≡ ys
behind_semicolon xs ys e = cc

-- what stands behind the type means one version
pub same_pick : (text : List ℕ) (p q : Pick) → IsVersionText p text → IsVersionText q text → p ≡ q
same_pick text Highest Highest a b = refl
same_pick text Lowest Lowest a b = refl
same_pick text Highest Lowest (inl a) b = absurd (cc)
same_pick text Highest Lowest (inr a) b = absurd (cc)
same_pick text Lowest Highest a (inl b) = absurd (cc)
same_pick text Lowest Highest a (inr b) = absurd (cc)
same_pick text Highest (Exact v) (inl a) b = let e = b.2 in absurd (cc)
same_pick text Highest (Exact v) (inr a) b = absurd (not_digits v 48 [] b.0 b.1 (omega arith) (behind_semicolon _ _ (sym b.2 ∙ a)))
same_pick text (Exact v) Highest b (inl a) = let e = b.2 in absurd (cc)
same_pick text (Exact v) Highest b (inr a) = absurd (not_digits v 48 [] b.0 b.1 (omega arith) (behind_semicolon _ _ (sym b.2 ∙ a)))
same_pick text Lowest (Exact v) a b = absurd (not_digits v 45 (49 ∷ []) b.0 b.1 (omega arith) (behind_semicolon _ _ (sym b.2 ∙ a)))
same_pick text (Exact v) Lowest b a = absurd (not_digits v 45 (49 ∷ []) b.0 b.1 (omega arith) (behind_semicolon _ _ (sym b.2 ∙ a)))
same_pick text (Exact v) (Exact w) a b =
    let bound : w ≤ 32767 = b.1 in
    ap Exact (decimal_injective v w (omega (arith, a.1)) (omega (arith, bound)) (behind_semicolon _ _ (sym a.2 ∙ b.2)))
