-- The bytes of an ident area, one by one.
use Rattle.std.proofs.Common.{◌≡◌, ℕ, suc, ◌+◌, ◌<◌, true, List, [], ◌∷◌, ◌++◌, length, length-drop, ◌-◌, drop, get_or, replicate, refl, sym, ap, ◌∙◌, arith, drop-cons}
use Rattle.std.specs.List.{flat_map}
use Rattle.std.proofs.lemmas.Bool.{eqb-true, and_parts}
use Rattle.ods_request.specs.Stamps.{is_stamp}
use Rattle.ods_request.specs.Steps.{word_bytes}

-- so many elements from a place on
abbrev pub from : ℕ → ℕ → List ℕ → List ℕ
from Prim.Native.Nat.zero k s = []
from (suc n) k s = get_or s k 0 ∷ from n (suc k) s

from-drop : (n k : ℕ) (s : List ℕ) → length s ≡ k + n → drop k s ≡ from n k s
from-drop Prim.Native.Nat.zero k s h = none (drop k s) (length-drop k s)
  where
    none : (xs : List ℕ) → length xs ≡ length s - k → xs ≡ []
    none [] e = refl
    none (x ∷ xs) e = absurd (omega (arith, e, h))
from-drop (suc n) k s h =
    let lt : k < length s = omega (arith, h) in
    let rest : length s ≡ suc k + n = omega (arith, h) in
    drop-cons s k 0 lt ∙ ap (λ xs. get_or s k 0 ∷ xs) (from-drop n (suc k) s rest)

-- the elements of a list, one by one
pub elements : (n : ℕ) (s : List ℕ) → length s ≡ n → s ≡ from n 0 s
elements n s h = from-drop n 0 s (omega (arith, h))

-- the bytes of an ident area from its words and its stamp
abbrev pub bytes_of : List ℕ → ℕ → ℕ → List ℕ → List ℕ
bytes_of ws e v s = flat_map word_bytes (ws ++ e ∷ v ∷ 1 ∷ []) ++ s ++ s ++ replicate 8 0

pub ident_is : (ws : List ℕ) (e v : ℕ) (s : List ℕ) → length ws ≡ 3 → is_stamp s ≡ true → bytes_of (from 3 0 ws) e v (from 13 0 s) ≡ bytes_of ws e v s
ident_is ws e v s three stamp =
    let long : length s ≡ 13 = eqb-true (length s) 13 (and_parts _ _ stamp).0 in
    λ i. bytes_of (sym (elements 3 ws three) i) e v (sym (elements 13 s long) i)
