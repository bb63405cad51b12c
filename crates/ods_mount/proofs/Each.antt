-- The blocks of a file, one by one.
use Rattle.std.proofs.Common.{◌≡◌, ℕ, ◌+◌, ◌-◌, ◌<◌, ◌≤◌, List, length, slice_get, Some, inl, inr, sym, ap, ◌∙◌, subst, arith}
use Rattle.std.proofs.lemmas.Bool.{cases_lt}
use Rattle.std.proofs.lemmas.Option.{slice_get_within}
use Rattle.ods_space.specs.Layout.{VolumeLayout}
use Rattle.ods_space.specs.Files.{HasBlocks, Holds}
use Rattle.ods_space.proofs.Surveyed.{same_blocks}

-- P of each of the first i numbers, with its place
abbrev pub EachBefore : (ℕ → ℕ → Type 0) → List ℕ → ℕ → Type 0
EachBefore P xs i = (j b : ℕ) → j < i → slice_get xs j ≡ Some b → P j b

pub each_next : (P : ℕ → ℕ → Type 0) (xs : List ℕ) (i b : ℕ) → slice_get xs i ≡ Some b → EachBefore P xs i → P i b → EachBefore P xs (i + 1)
each_next P xs i b here before this j c low at = elim (cases_lt j i) [
  | inl less ↦ before j c less at
  | inr more ↦
      let e : i ≡ j = omega arith in
      let found : Some b ≡ Some c = sym here ∙ ap (slice_get xs) e ∙ at in
      let is : b ≡ c = cc in
      let Q : ℕ → Type 0 = λ y. P i y in
      let R : ℕ → Type 0 = λ y. P y c in
      subst R e (subst Q is this)
]

pub each_of : (P : ℕ → ℕ → Type 0) (xs : List ℕ) (i : ℕ) → length xs ≤ i → EachBefore P xs i → (j b : ℕ) → slice_get xs j ≡ Some b → P j b
each_of P xs i all before j b at = let within = slice_get_within xs j b at in before j b (omega arith) at

-- block i of a file, from 0, is held as block i + 1, from 1
pub holds_at : (I : List (List ℕ)) (L : VolumeLayout) (n : ℕ) (blocks : List ℕ) (i b : ℕ) → HasBlocks I L n blocks → slice_get blocks i ≡ Some b → Holds I L n (i + 1) b
holds_at I L n blocks i b has at =
    let place : i + 1 - 1 ≡ i = omega arith in
    record { blocks = blocks; file = has; first = omega arith; named = ap (slice_get blocks) place ∙ at }

-- what a file holds is one of its blocks
pub held_at : (I : List (List ℕ)) (L : VolumeLayout) (n : ℕ) (blocks : List ℕ) (v b : ℕ) → HasBlocks I L n blocks → Holds I L n v b → (j : ℕ) × (v ≡ j + 1) × (slice_get blocks j ≡ Some b)
held_at I L n blocks v b has held =
    let first = held.first in
    let P : List ℕ → Type 0 = λ xs. slice_get xs (v - 1) ≡ Some b in
    (v - 1, omega arith, subst P (same_blocks I L n held.blocks blocks held.file has) held.named)
