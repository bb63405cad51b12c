-- The blocks that a file has once a change is made, by what it holds then.
use Rattle.std.proofs.Common.{◌≡◌, ℕ, suc, ◌+◌, ◌-◌, ◌<◌, refl, ap, sym, ◌∙◌, subst, List, [], ◌∷◌, length, take, map, Some, None, arith}
use Rattle.std.specs.Prelude.{slice_get}
use Rattle.std.proofs.lemmas.Option.{same_Some}
use Rattle.ods_base.specs.Image.{block_at}
use Rattle.ods_space.specs.Layout.{VolumeLayout}
use Rattle.ods_space.specs.Files.{HasBlocks, Holds}
use Rattle.ods_space.proofs.Surveyed.{same_blocks}
use Rattle.ods_mount.proofs.Each.{holds_at}
use Rattle.ods_mount.specs.Faults.{contents_of}

-- each element of one list stands at its place in another
abbrev StandsIn : List ℕ → List ℕ → Type 0
StandsIn xs ys = (i x : ℕ) → slice_get xs i ≡ Some x → slice_get ys i ≡ Some x

front_of : (xs ys : List ℕ) → StandsIn xs ys → take (length xs) ys ≡ xs
front_of [] ys in_ys = refl
front_of (x ∷ xs) [] in_ys = let none : None ≡ Some x = in_ys 0 x refl in absurd (cc)
front_of (x ∷ xs) (y ∷ ys) in_ys =
    let head : y ≡ x = same_Some _ _ (in_ys 0 x refl) in
    let rest : take (length xs) ys ≡ xs = front_of xs ys (λ i z h. in_ys (suc i) z h) in
    λ t. head t ∷ rest t

same_of : (xs ys : List ℕ) → StandsIn xs ys → StandsIn ys xs → ys ≡ xs
same_of [] [] there back = refl
same_of [] (y ∷ ys) there back = let none : None ≡ Some y = back 0 y refl in absurd (cc)
same_of (x ∷ xs) [] there back = let none : None ≡ Some x = there 0 x refl in absurd (cc)
same_of (x ∷ xs) (y ∷ ys) there back =
    let head : y ≡ x = same_Some _ _ (there 0 x refl) in
    let rest : ys ≡ xs = same_of xs ys (λ i z h. there (suc i) z h) (λ i z h. back (suc i) z h) in
    λ t. head t ∷ rest t

some_first : (xs : List ℕ) → 0 < length xs → (x : ℕ) × (slice_get xs 0 ≡ Some x)
some_first [] some = absurd (omega (arith, some))
some_first (x ∷ xs) some = (x, refl)

pub mapped_same : {X : Type 0} (f g : ℕ → X) (xs : List ℕ) → ((i x : ℕ) → slice_get xs i ≡ Some x → g x ≡ f x) → map g xs ≡ map f xs
mapped_same f g [] each = refl
mapped_same f g (x ∷ xs) each =
    let head : g x ≡ f x = each 0 x refl in
    let rest : map g xs ≡ map f xs = mapped_same f g xs (λ i z h. each (suc i) z h) in
    λ t. head t ∷ rest t

behind : (i : ℕ) → i + 1 - 1 ≡ i
behind i = omega arith

module _ (I J : List (List ℕ)) (L M : VolumeLayout) (f : ℕ) (blocks : List ℕ) (h : HasBlocks I L f blocks) where
  -- what it held it holds then
  abbrev pub HoldsStill : Type 0
  HoldsStill = (v x : ℕ) → Holds I L f v x → Holds J M f v x

  in_held : HoldsStill → (held : List ℕ) → HasBlocks J M f held → StandsIn blocks held
  in_held still held has i x at =
      let k = still (i + 1) x (holds_at I L f blocks i x h at) in
      ap (slice_get held) (sym (behind i)) ∙ ap (λ l. slice_get l (i + 1 - 1)) (same_blocks J M f held k.blocks has k.file) ∙ k.named

  -- so whatever blocks it has then begin with those that it had
  pub front_by : HoldsStill → (held : List ℕ) → HasBlocks J M f held → take (length blocks) held ≡ blocks
  front_by still held has = front_of blocks held (in_held still held has)

  -- and where it holds no other it has those
  pub same_by : 0 < length blocks → HoldsStill → ((v x : ℕ) → Holds J M f v x → Holds I L f v x) → HasBlocks J M f blocks
  same_by some still back =
      let first = some_first blocks some in
      let g = still (0 + 1) first.0 (holds_at I L f blocks 0 first.0 h first.1) in
      subst (HasBlocks J M f) (same_of blocks g.blocks (in_held still g.blocks g.file) (λ i x at.
      let k = back (i + 1) x (holds_at J M f g.blocks i x g.file at) in
      ap (slice_get blocks) (sym (behind i)) ∙ ap (λ l. slice_get l (i + 1 - 1)) (same_blocks I L f blocks k.blocks h k.file) ∙ k.named)) g.file

  -- and their bytes, where none of the blocks changes
  pub bytes_by : ((v x : ℕ) → Holds I L f v x → block_at J x ≡ block_at I x) → contents_of J blocks ≡ contents_of I blocks
  bytes_by each = mapped_same (block_at I) (block_at J) blocks (λ i x at. each (i + 1) x (holds_at I L f blocks i x h at))
