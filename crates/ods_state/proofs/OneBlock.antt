-- One block of a plain file is replaced.
use Rattle.std.proofs.Common.{◌≡◌, ◌≢◌, ℕ, zero, suc, get_or, ◌+◌, ◌-◌, ◌<◌, refl, ap, sym, ◌∙◌, subst, List, [], ◌∷◌, length, Some, arith, inl, inr}
use Rattle.std.specs.Prelude.{◌⊎◌, map, slice_get, slice_set}
use Rattle.std.proofs.lemmas.List.{get_or-set_other, get_or-set_same, length-set}
use Rattle.std.proofs.lemmas.Option.{same_Some, slice_get_within, get_or_from_slice_get}
use Rattle.std.proofs.lemmas.Bool.{cases_eq}
use Rattle.ods_mount.proofs.Each.{holds_at}
use Rattle.ods_base.specs.Image.{block_at}
use Rattle.ods_space.specs.Layout.{VolumeLayout}
use Rattle.ods_space.specs.Files.{HasBlocks, Holds}
use Rattle.ods_mount.specs.Faults.{contents_of, CouldBeWritten}
use Rattle.ods_mount.specs.Sound.{IsSoundBy}
use Rattle.ods_state.proofs.Data.{IsDataChange}

-- where two functions answer alike at each element, they map the list alike
pub mapped_alike : {X : Type 0} (f g : ℕ → X) (xs : List ℕ) → ((i y : ℕ) → slice_get xs i ≡ Some y → g y ≡ f y) → map g xs ≡ map f xs
mapped_alike f g [] same = refl
mapped_alike f g (x ∷ xs) same = λ i. same 0 x refl i ∷ mapped_alike f g xs (λ k y e. same (suc k) y e) i

-- and where they differ at one place, one list is the other with that element set
pub mapped_but_one : {X : Type 0} (f g : ℕ → X) (b : X) (xs : List ℕ) (k : ℕ) → ((i y : ℕ) → i ≢ k → slice_get xs i ≡ Some y → g y ≡ f y) → ((y : ℕ) → slice_get xs k ≡ Some y → g y ≡ b) → map g xs ≡ slice_set (map f xs) k b
mapped_but_one f g b [] k others here = refl
mapped_but_one f g b (x ∷ xs) zero others here = λ i. here x refl i ∷ mapped_alike f g xs (λ k y e. others (suc k) y (λ z. absurd (omega arith)) e) i
mapped_but_one f g b (x ∷ xs) (suc k) others here = λ i. others 0 x (λ z. absurd (omega arith)) refl i ∷ mapped_but_one f g b xs k (λ j y ne e. others (suc j) y (λ z. ne (omega arith)) e) here i

module _ (I : List (List ℕ)) (L : VolumeLayout) (S : IsSoundBy I L) (n vbn x : ℕ) (b : List ℕ) (h : Holds I L n vbn x) where
  pub held_inside : x < length I
  held_inside =
      let within = slice_get_within h.blocks (vbn - 1) x h.named in
      let is : get_or h.blocks (vbn - 1) 0 ≡ x = get_or_from_slice_get h.blocks (vbn - 1) x 0 h.named in
      subst (λ y. y < length I) is (h.file.whole.inside (vbn - 1) 0 within)

  pub block_here : block_at (slice_set I x b) x ≡ b
  block_here = get_or-set_same I x b [] held_inside

  pub block_there : (y : ℕ) → y ≢ x → block_at (slice_set I x b) y ≡ block_at I y
  block_there y ne = get_or-set_other I x y b [] ne

  -- a block that another file holds, or this file elsewhere, is another block
  other_file : (m v y : ℕ) → Holds I L m v y → m ≢ n → y ≢ x
  other_file m v y g ne e = ne (S.once m n v vbn x (subst (λ z. Holds I L m v z) e g) h).0

  file_block : (m : ℕ) (blocks : List ℕ) → HasBlocks I L m blocks → (i y : ℕ) → slice_get blocks i ≡ Some y → Holds I L m (i + 1) y
  file_block m blocks file i y e = holds_at I L m blocks i y file e

  elsewhere_by : n ≢ 1 → n ≢ 3 → n ≢ 5 → (y : ℕ) → (y ≡ x) ⊎ (y ≢ x) → (block_at (slice_set I x b) y ≡ block_at I y) ⊎ CouldBeWritten I L y
  elsewhere_by one three five y (inl e) = inr (inr (n, vbn, subst (λ z. Holds I L n vbn z) (sym e) h, three, five, λ p. one p.0))
  elsewhere_by one three five y (inr ne) = inl (block_there y ne)

  pub data_changes : n ≢ 1 → n ≢ 2 → n ≢ 3 → n ≢ 5 → IsDataChange I (slice_set I x b) L
  data_changes one two three five = record {
    long = length-set I x b;
    index = λ i y e. block_there y (other_file 1 (i + 1) y (file_block 1 L.index S.layout.index i y e) (λ z. one (sym z)));
    bitmap = λ i y e. block_there y (other_file 2 (i + 1) y (file_block 2 L.bitmap S.layout.bitmap i y e) (λ z. two (sym z)));
    elsewhere = λ y. elsewhere_by one three five y (cases_eq y x);
  }

  -- the contents of another file stay
  pub others_contents : (m : ℕ) (blocks : List ℕ) → HasBlocks I L m blocks → m ≢ n → contents_of (slice_set I x b) blocks ≡ contents_of I blocks
  others_contents m blocks file ne = mapped_alike (block_at I) (block_at (slice_set I x b)) blocks (λ i y e. block_there y (other_file m (i + 1) y (file_block m blocks file i y e) ne))

  -- of the file itself that block is replaced
  pub own_contents : contents_of (slice_set I x b) h.blocks ≡ slice_set (contents_of I h.blocks) (vbn - 1) b
  own_contents = mapped_but_one (block_at I) (block_at (slice_set I x b)) b h.blocks (vbn - 1)
      (λ i y ne e. block_there y (λ is.
      let twice = S.once n n (i + 1) vbn x (subst (λ z. Holds I L n (i + 1) z) is (file_block n h.blocks h.file i y e)) h in
      let at : i + 1 ≡ vbn = twice.1 in
      ne (omega arith)))
      (λ y e.
      let is : y ≡ x = same_Some y x (sym e ∙ h.named) in
      ap (λ z. block_at (slice_set I x b) z) is ∙ block_here)
