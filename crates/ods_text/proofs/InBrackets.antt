-- Brackets come off one way.
use Rattle.std.proofs.Common.{◌≡◌, ℕ, ◌-◌, List, [], ◌∷◌, ◌++◌, length, take, drop, arith, length-append, Option, Some, None, refl, sym, ap, ◌∙◌, subst}
use Rattle.std.proofs.lemmas.List.{take_at}
use Rattle.ods_text.specs.One.{IsTheOne}
use Rattle.ods_text.specs.Users.{IsUser, IsUserInBrackets}

inside : List ℕ → List ℕ
inside text = take (length text - 2) (drop 1 text)

inside_is : (i : List ℕ) → inside (91 ∷ (i ++ 93 ∷ [])) ≡ i
unfolding inside
inside_is i = ap (λ (n : ℕ). take n (i ++ 93 ∷ [])) (let e : length (91 ∷ (i ++ 93 ∷ [])) - 2 ≡ length i = omega (arith, length-append i (93 ∷ [])) in e) ∙ take_at i (93 ∷ []) (length i) refl

same_inside : (text i j : List ℕ) → text ≡ 91 ∷ (i ++ 93 ∷ []) → text ≡ 91 ∷ (j ++ 93 ∷ []) → i ≡ j
same_inside text i j a b = sym (inside_is i) ∙ ap inside (sym a ∙ b) ∙ inside_is j

-- who stands between the brackets
within : (text i : List ℕ) (y : ℕ × ℕ) → text ≡ 91 ∷ (i ++ 93 ∷ []) → IsUserInBrackets text y → IsUser i y
within text i y e p = subst (λ (l : List ℕ). IsUser l y) (same_inside text p.0 i p.1 e) p.2

-- is the user that the text names
pub in_brackets : (text i : List ℕ) (r : Option (ℕ × ℕ)) → text ≡ 91 ∷ (i ++ 93 ∷ []) → IsTheOne (IsUser i) r → IsTheOne (IsUserInBrackets text) r
in_brackets text i None e none = λ y p. none y (within text i y e p)
in_brackets text i (Some x) e one = ((i, e, one.0), λ y p. one.1 y (within text i y e p))
