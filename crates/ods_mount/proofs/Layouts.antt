-- An image has at most one home block, one index and one layout.
use Rattle.std.proofs.Common.{◌≡◌, ◌⊎◌, ℕ, List, [], None, inl, inr, refl, sym, ap, ◌∙◌, subst}
use Rattle.std.proofs.lemmas.Bool.{cases_order}
use Rattle.ods_space.proofs.Surveyed.{same_blocks}
use Rattle.ods_base.specs.Image.{block_at}
use Rattle.ods_header.specs.declared.home.Home.{Home}
use Rattle.ods_header.specs.Home.{IsHomeAt, IsHomeOf, home_of}
use Rattle.ods_space.specs.Layout.{VolumeLayout}
use Rattle.ods_space.specs.Chain.{IsIndex}
use Rattle.ods_space.specs.Files.{HasBlocks, IsLayoutOf}
use Rattle.ods_space.proofs.Chains.{same_chain}
use Rattle.ods_mount.specs.Faults.{IsSeenBy}

pub same_place : (I : List (List ℕ)) (a b : ℕ) → IsHomeAt I a → IsHomeAt I b → a ≡ b
same_place I a b x y = elim (cases_order a b) [
  | inl e ↦ e
  | inr (inl below) ↦ absurd (y.least a x.place below x.inside x.home)
  | inr (inr above) ↦ absurd (x.least b y.place above y.inside y.home)
]

pub same_home : (I : List (List ℕ)) (h g : Home) → IsHomeOf I h → IsHomeOf I g → h ≡ g
same_home I h g x y = x.2 ∙ ap (λ lbn. home_of (block_at I lbn)) (same_place I x.0 y.0 x.1 y.1) ∙ sym y.2

pub same_index : (I : List (List ℕ)) (h : Home) (xs ys : List ℕ) → IsIndex I h xs → IsIndex I h ys → xs ≡ ys
same_index I h xs ys x y = (same_chain I h None [] 0 1 x.0 xs y.0 ys x.1 y.1).1

-- the blocks of a file do not depend on the bitmap
pub with_bitmap : (I : List (List ℕ)) (L : VolumeLayout) (bitmap : List ℕ) (n : ℕ) (xs : List ℕ) → HasBlocks I L n xs → HasBlocks I (record { home = L.home; index = L.index; bitmap = bitmap }) n xs
with_bitmap I L bitmap n xs x = record { file = x.file; others = x.others; whole = record { chain = x.whole.chain; inside = x.whole.inside } }

same_parts : (L M : VolumeLayout) → L.home ≡ M.home → L.index ≡ M.index → L.bitmap ≡ M.bitmap → L ≡ M
same_parts L M p q r = λ i. record { home = p i; index = q i; bitmap = r i }

-- a layout by its home block, its index and its bitmap, or that BITMAP.SYS has none
pub same_by_parts : (I : List (List ℕ)) (L M : VolumeLayout) → IsLayoutOf I L → IsHomeOf I M.home → IsIndex I M.home M.index
    → HasBlocks I M 2 M.bitmap ⊎ ((M.bitmap ≡ []) × ((blocks : List ℕ) → ¬ HasBlocks I M 2 blocks)) → M ≡ L
same_by_parts I L M x at indexed mapped =
    let home : M.home ≡ L.home = same_home I M.home L.home at x.home in
    let P : Home → Type 0 = λ h. IsIndex I h M.index in
    let index : M.index ≡ L.index = same_index I L.home M.index L.index (subst P home indexed) (x.index.others, x.index.whole.chain) in
    let near : M ≡ record { home = L.home; index = L.index; bitmap = M.bitmap } = same_parts M (record { home = L.home; index = L.index; bitmap = M.bitmap }) home index refl in
    let bitmap : M.bitmap ≡ L.bitmap = elim mapped [
      | inl has ↦
          let Q : VolumeLayout → Type 0 = λ N. HasBlocks I N 2 M.bitmap in
          same_blocks I L 2 M.bitmap L.bitmap (with_bitmap I _ L.bitmap 2 M.bitmap (subst Q near has)) x.bitmap
      | inr none ↦
          let Q : VolumeLayout → Type 0 = λ N. HasBlocks I N 2 L.bitmap in
          absurd (none.1 L.bitmap (subst Q (sym near) (with_bitmap I L M.bitmap 2 L.bitmap x.bitmap)))
    ] in
    same_parts M L home index bitmap

pub same_layout : (I : List (List ℕ)) (L M : VolumeLayout) → IsLayoutOf I L → IsSeenBy I M → M ≡ L
same_layout I L M x y = same_by_parts I L M x y.home y.index y.bitmap

pub layout_is_one : (I : List (List ℕ)) (L M : VolumeLayout) → IsLayoutOf I L → IsLayoutOf I M → L ≡ M
layout_is_one I L M x y = same_by_parts I M L y x.home (x.index.others, x.index.whole.chain) (inl x.bitmap)
