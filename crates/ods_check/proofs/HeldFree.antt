-- Blocks that files hold stand in the image, and are listed ascending.
use Rattle.std.proofs.Common.{◌≡◌, ℕ, ◌+◌, ◌-◌, ◌<◌, List, [], ◌∷◌, ◌++◌, length, get_or, subst, sym, ◌∙◌, arith, inl, inr}
use Rattle.std.specs.Prelude.{◌⊎◌}
use Rattle.std.specs.List.{Contains}
use Rattle.std.specs.List.Sorted.{IsStrictlyIncreasing}
use Rattle.std.proofs.lemmas.Bool.{cases_lt}
use Rattle.std.proofs.lemmas.List.{get_or_append_left, get_or-append_right, length-append}
use Rattle.std.proofs.lemmas.List.Elements.{Contains-get_or}
use Rattle.std.proofs.lemmas.Option.{slice_get_within, get_or_from_slice_get}
use Rattle.ods_space.specs.Layout.{VolumeLayout}
use Rattle.ods_space.specs.Files.{Holds}
use Rattle.ods_check.specs.HeldFree.{IsHeldFree}

pub held_inside : (I : List (List ℕ)) (L : VolumeLayout) (n v b : ℕ) → Holds I L n v b → b < length I
held_inside I L n v b h =
    let within = slice_get_within h.blocks (v - 1) b h.named in
    subst (λ y. y < length I) (get_or_from_slice_get h.blocks (v - 1) b 0 h.named) (h.file.whole.inside (v - 1) 0 within)

pub held_free_inside : (I : List (List ℕ)) (L : VolumeLayout) (b : ℕ) → IsHeldFree I L b → b < length I
held_free_inside I L b h = held_inside I L h.0 h.1.0 b h.1.1

-- a greater number behind those that ascend
rising_push : (xs : List ℕ) (x : ℕ) → IsStrictlyIncreasing xs → ((n : ℕ) → Contains xs n → n < x) → IsStrictlyIncreasing (xs ++ x ∷ [])
rising_push xs x rising below k low =
    let long : length (xs ++ x ∷ []) ≡ length xs + 1 = length-append xs (x ∷ []) in
    let first : k < length xs = omega (arith, low, long) in
    let here : get_or (xs ++ x ∷ []) k 0 ≡ get_or xs k 0 = get_or_append_left xs (x ∷ []) 0 k first in
    elim (cases_lt (k + 1) (length xs)) [
      | inl less ↦
          let next : get_or (xs ++ x ∷ []) (k + 1) 0 ≡ get_or xs (k + 1) 0 = get_or_append_left xs (x ∷ []) 0 (k + 1) less in
          let was = rising k less in
          omega (arith, here, next, was)
      | inr more ↦
          let last : length xs ≡ k + 1 = omega (arith, more, low, long) in
          let none : (k + 1) - (k + 1) ≡ 0 = omega arith in
          let next : get_or (xs ++ x ∷ []) (k + 1) 0 ≡ x = get_or-append_right xs (x ∷ []) (k + 1) (k + 1) 0 last (omega arith) ∙ subst (λ j. get_or (x ∷ []) ((k + 1) - (k + 1)) 0 ≡ get_or (x ∷ []) j 0) none (λ i. get_or (x ∷ []) ((k + 1) - (k + 1)) 0) in
          let less : get_or xs k 0 < x = below (get_or xs k 0) (Contains-get_or xs k 0 first) in
          omega (arith, here, next, less)
    ]

-- one more number, where it is so
pub rising_more : (Is : Type 0) (k : ℕ) (old new : List ℕ) → IsStrictlyIncreasing old → ((n : ℕ) → Contains old n → n < k) → (Is × (new ≡ old ++ k ∷ [])) ⊎ ((¬ Is) × (new ≡ old)) → IsStrictlyIncreasing new
rising_more Is k old new rising below (inl h) = subst IsStrictlyIncreasing (sym h.1) (rising_push old k rising below)
rising_more Is k old new rising below (inr h) = subst IsStrictlyIncreasing (sym h.1) rising

pub none_rising : (xs : List ℕ) → xs ≡ [] → IsStrictlyIncreasing xs
none_rising xs none = subst IsStrictlyIncreasing (sym none) (λ k low. absurd (omega (arith, low)))
