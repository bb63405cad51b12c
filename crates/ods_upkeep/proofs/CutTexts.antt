-- The cut of a text at its first separator, by what stands before that and behind it.
use Rattle.std.proofs.Common.{◌≡◌, ◌∙◌, ℕ, suc, ◌+◌, ◌<◌, Bool, true, false, List, [], ◌∷◌, length, take, drop, Some, None, refl, sym, ap, subst, arith, add-one}
use Rattle.std.specs.Prelude.{◌==◌}
use Rattle.std.specs.List.{after_first, before_first, position_or_len}
use Rattle.ods_text.specs.Cuts.{cut_of, is}

module _ (c b : ℕ) (text : List ℕ) where
  here : (b == c) ≡ true → position_or_len (is c) (b ∷ text) ≡ 0
  here r = rw r refl

  later : (b == c) ≡ false → position_or_len (is c) (b ∷ text) ≡ suc (position_or_len (is c) text)
  later r = let one : position_or_len (is c) (b ∷ text) ≡ 1 + position_or_len (is c) text = rw r refl in omega (arith, one)

  none_later : (r : Bool) → (b == c) ≡ r → position_or_len (is c) (b ∷ text) ≡ length (b ∷ text) → (position_or_len (is c) text ≡ length text → cut_of c text ≡ None) → cut_of c (b ∷ text) ≡ None
  none_later true r e rest = absurd (omega (arith, here r, e))
  none_later false r e rest = rw (r, rest (omega (arith, later r, e))) refl

  some_later : (r : Bool) → (b == c) ≡ r → position_or_len (is c) (b ∷ text) < length (b ∷ text)
      → (position_or_len (is c) text < length text → cut_of c text ≡ Some (take (position_or_len (is c) text) text, drop (suc (position_or_len (is c) text)) text))
      → cut_of c (b ∷ text) ≡ Some (take (position_or_len (is c) (b ∷ text)) (b ∷ text), drop (suc (position_or_len (is c) (b ∷ text))) (b ∷ text))
  some_later true r e rest = rw r refl
  some_later false r e rest =
      subst (λ (k : ℕ). cut_of c (b ∷ text) ≡ Some (take k (b ∷ text), drop (suc k) (b ∷ text))) (sym (later r)) (rw (r, rest (omega (arith, later r, e))) refl)

nowhere : (c : ℕ) (text : List ℕ) → position_or_len (is c) text ≡ length text → cut_of c text ≡ None
nowhere c [] e = refl
nowhere c (b ∷ text) e = none_later c b text (b == c) refl e (nowhere c text)

somewhere : (c : ℕ) (text : List ℕ) → position_or_len (is c) text < length text → cut_of c text ≡ Some (take (position_or_len (is c) text) text, drop (suc (position_or_len (is c) text)) text)
somewhere c [] e = absurd (omega (arith, e))
somewhere c (b ∷ text) e = some_later c b text (b == c) refl e (somewhere c text)

-- no separator
pub cut_none : (c : ℕ) (text : List ℕ) → position_or_len (λ b. b == c) text ≡ length text → cut_of c text ≡ None
cut_none c text none = nowhere c text none

-- the first of them
pub cut_some : (c : ℕ) (text front back : List ℕ) → front ≡ before_first (λ b. b == c) text → back ≡ after_first (λ b. b == c) text → position_or_len (λ b. b == c) text < length text → cut_of c text ≡ Some (front, back)
cut_some c text front back before behind some =
    somewhere c text some ∙ ap (λ (k : ℕ). Some (take (position_or_len (is c) text) text, drop k text)) (sym (add-one (position_or_len (is c) text)))
    ∙ ap (λ (l : List ℕ). Some (l, after_first (is c) text)) (sym before) ∙ ap (λ (l : List ℕ). Some (front, l)) (sym behind)
