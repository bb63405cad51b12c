-- The row of the empty pattern, and what the last row says.
use Rattle.std.proofs.Common.{◌≡◌, ◌≢◌, ◌↔◌, ℕ, zero, suc, ◌+◌, ◌<◌, ◌≤◌, List, [], ◌∷◌, ◌++◌, length, take, drop, get_or, Bool, true, false, replicate, refl, sym, ap, ◌∙◌, subst, arith, inl, inr, set, length-set}
use Rattle.std.specs.Bool.{IsTrue}
use Rattle.std.specs.Char.{to_ascii_uppercase}
use Rattle.std.proofs.lemmas.Bool.{cases_eq}
use Rattle.std.proofs.lemmas.List.{drop_all, get_or-set_same, get_or-set_other, length-take, get_or-take, length-drop, append_assoc}
use Rattle.ods_paths.specs.Patterns.{Matches, capitals}
use Rattle.ods_paths.specs.Rows.{Says, IsRow}

-- a list of no says no
falses : (n j : ℕ) → get_or (replicate n false) j false ≡ false
falses zero j = refl
falses (suc n) zero = refl
falses (suc n) (suc j) = falses n j

pub end_row : (text : List ℕ) → length text ≤ 9 → IsRow text (set (take (length text + 1) (replicate 10 false)) (length text) true) []
end_row text small =
    let n : ℕ = length text in
    let row : List Bool = take (n + 1) (replicate 10 false) in
    let size : length row ≡ n + 1 = length-take (n + 1) (replicate 10 false) ∙ omega arith in
    record {
      size = length-set row n true ∙ size;
      each = λ j within. elim (cases_eq j n) [
        | inl e ↦ (
          λ says. drop_all j text (omega (arith, e)),
          λ m. ap (λ k. get_or (set row n true) k false) e ∙ get_or-set_same row n true false (omega (arith, size)),
        )
        | inr ne ↦
            let other : get_or (set row n true) j false ≡ false = get_or-set_other row n j true false ne ∙ get_or-take (n + 1) (replicate 10 false) j false (omega arith) ∙ falses 10 j in (
              λ says. let clash : false ≡ true = sym other ∙ says in absurd (cc),
              λ m. absurd (omega (arith, ne, length-drop j text, ap length m)),
            )
      ];
    }

-- one more character before the rest of a pattern
pub one_before : (pattern left before done : List ℕ) (c upper : ℕ) (text : List ℕ) (row : List Bool) → pattern ≡ left ++ done → left ≡ before ++ c ∷ [] → upper ≡ to_ascii_uppercase c → IsRow text row (upper ∷ capitals done) →
    (rest : List ℕ) × (pattern ≡ before ++ rest) × IsRow text row (capitals rest)
one_before pattern left before done c upper text row e f g is =
    (c ∷ done, e ∙ ap (λ l. l ++ done) f ∙ append_assoc before (c ∷ []) done, subst (λ (u : ℕ). IsRow text row (u ∷ capitals done)) g is)

-- the first place says whether the whole text matches
pub whole_row : (pattern left done text : List ℕ) (row : List Bool) → length left ≡ 0 → pattern ≡ left ++ done → IsRow text row (capitals done) → (IsTrue (get_or row 0 false)) ↔ Matches (capitals pattern) text
whole_row pattern [] done text row none e is = subst (λ (p : List ℕ). IsTrue (get_or row 0 false) ↔ Matches (capitals p) text) (sym e) (is.each 0 (omega arith))
whole_row pattern (x ∷ left) done text row none e is = absurd (omega (arith, none))
