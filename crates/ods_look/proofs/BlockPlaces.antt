-- The blocks that a file of a sound image has: how many, and which at a place, counted from 0.
use Rattle.std.proofs.Common.{◌≡◌, ℕ, ◌+◌, ◌-◌, ◌<◌, ◌≤◌, refl, ap, sym, ◌∙◌, subst, true, List, [], length, Option, Some, None, arith}
use Rattle.std.specs.Prelude.{slice_get, slice_index, is_some}
use Rattle.std.specs.Option.{IfSome, IfNone, option_map}
use Rattle.std.proofs.lemmas.Option.{slice_get-map, get_or_from_slice_get, slice_get-get_or}
use Rattle.std.proofs.lemmas.List.{length-map}
use Rattle.ods_base.specs.Image.{IsImage, block_at}
use Rattle.ods_space.specs.Layout.{VolumeLayout}
use Rattle.ods_space.specs.Chain.{index_for, headers_of, named_by}
use Rattle.ods_space.specs.Files.{IsFile, HasBlocks, Holds}
use Rattle.ods_space.proofs.Sizes.{chain_size}
use Rattle.ods_space.proofs.Wholes.{chain_seen}
use Rattle.ods_mount.specs.Faults.{contents_of}
use Rattle.ods_mount.specs.Sound.{IsSoundBy}
use Rattle.ods_space.proofs.Chains.{same_chain}
use Rattle.ods_space.specs.Chain.{chain_blocks}
use Rattle.ods_look.specs.Blocks.{blocks_in_order}

-- what the headers of a file name is its blocks in order
pub named_in_order : (I : List (List ℕ)) (L : VolumeLayout) (n : ℕ) → named_by (headers_of I L n) ≡ blocks_in_order I L n
unfolding blocks_in_order
named_in_order I L n = refl

module _ {I : List (List ℕ)} {L : VolumeLayout} {n : ℕ} where
  pub blocks_are_one : {xs ys : List ℕ} → HasBlocks I L n xs → HasBlocks I L n ys → xs ≡ ys
  blocks_are_one {xs = xs} {ys = ys} h g = (same_chain I L.home (index_for L n) [] 0 n h.others xs g.others ys h.whole.chain g.whole.chain).1

  -- the blocks in order are the file's
  pub in_order : IsImage I → IsSoundBy I L → IsFile I L n → HasBlocks I L n (blocks_in_order I L n)
  unfolding blocks_in_order
  in_order image S file =
      let whole = S.chains n file in
      let seen = chain_seen I L n whole.1.others whole.0 image S.layout whole.1.whole.chain in
      subst (HasBlocks I L n) (seen.named ∙ ap named_by (sym seen.headers)) whole.1

  pub few_blocks : {xs : List ℕ} → IsImage I → HasBlocks I L n xs → length xs ≤ chain_blocks
  few_blocks {xs = xs} image h = chain_size I L.home (index_for L n) n h.others xs image h.whole.chain

  module _ {xs : List ℕ} (h : HasBlocks I L n xs) (i : ℕ) (inside : i < length (contents_of I xs)) where
    within : i < length xs
    within = subst (λ k. i < k) (length-map xs (block_at I)) inside

    behind : (k : ℕ) → k + 1 - 1 ≡ k
    behind k = omega arith

    held_at : Holds I L n (i + 1) (slice_index xs i)
    held_at = record { blocks = xs; file = h; first = omega arith; named = ap (slice_get xs) (behind i) ∙ slice_get-get_or xs i 0 within }

    -- the block at this place is found
    pub is_located : (o : Option ℕ) → IfNone o ((lbn : ℕ) → ¬ Holds I L n (i + 1) lbn) → is_some o ≡ true
    is_located None none = absurd (none (slice_index xs i) held_at)
    is_located (Some x) none = refl

    pub located_is : (o : Option ℕ) (lbn : ℕ) → o ≡ Some lbn → IfSome o (Holds I L n (i + 1)) → lbn ≡ slice_index xs i
    located_is o lbn is some =
        let g : Holds I L n (i + 1) lbn = subst (λ p. IfSome p (Holds I L n (i + 1))) is some in
        let at : slice_get xs (i + 1 - 1) ≡ Some lbn = ap (λ bs. slice_get bs (i + 1 - 1)) (blocks_are_one h g.file) ∙ g.named in
        sym (get_or_from_slice_get xs i lbn 0 (ap (slice_get xs) (sym (behind i)) ∙ at))

    pub located_inside : slice_index xs i < length I
    located_inside = h.whole.inside i 0 within

    pub block_of : block_at I (slice_index xs i) ≡ block_at (contents_of I xs) i
    block_of = sym (get_or_from_slice_get (contents_of I xs) i (block_at I (slice_index xs i)) []
        (slice_get-map (block_at I) xs i ∙ ap (option_map (block_at I)) (slice_get-get_or xs i 0 within)))
