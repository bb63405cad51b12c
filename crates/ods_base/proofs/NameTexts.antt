-- The text of a name, put together from its parts.
use Rattle.std.proofs.Common.{◌≡◌, ℕ, List, [], ◌∷◌, ◌++◌, append_assoc}

-- a text that is written part by part
pub text_of_parts : (empty one dotted two closed whole name ext version : List ℕ) → empty ≡ [] → one ≡ empty ++ name → dotted ≡ one ++ 46 ∷ [] → two ≡ dotted ++ ext → closed ≡ two ++ 59 ∷ [] → whole ≡ closed ++ version →
    whole ≡ (name ++ 46 ∷ ext) ++ 59 ∷ version
text_of_parts empty one dotted two closed whole name ext version a b c d e f = rw (f, e, d, c, b, a) (simp append_assoc)
