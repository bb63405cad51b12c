-- The noted end of a file's chain of headers, and its end after the file has grown.
use Rattle.std.proofs.Common.{◌≡◌, ℕ, ◌+◌, ◌≤◌, List, [], ◌∷◌, ◌++◌, length, refl, sym, ap, ◌∙◌, subst, arith}
use Rattle.std.specs.List.{Contains}
use Rattle.std.proofs.lemmas.List.{length-append}
use Rattle.ods_base.specs.Image.{IsImage}
use Rattle.ods_header.specs.Header.{IsLaidOut, room_of}
use Rattle.ods_space.specs.Layout.{VolumeLayout, header_at}
use Rattle.ods_space.specs.Chain.{chain_blocks, IsChain, index_for}
use Rattle.ods_space.specs.Files.{IsLayoutOf, IsWhole}
use Rattle.ods_space.proofs.Chains.{same_chain}
use Rattle.ods_space.proofs.Wholes.{chain_seen}
use Rattle.ods_alloc.specs.Extend.{last_of}
use Rattle.ods_alloc.proofs.EndWalks.{walked, walked_few}
use Rattle.ods_alloc.proofs.Fields.{last_in}
use Rattle.ods_state.specs.declared.known_end.KnownEnd.{KnownEnd}
use Rattle.ods_state.specs.Ends.{IsEndKnown}
use Rattle.ods_state.proofs.IndexEnd.{valid_in}

module _ (I : List (List ℕ)) (L : VolumeLayout) (n : ℕ) (end : KnownEnd) (known : IsEndKnown I L end) (own : end.file ≡ n) where
  -- what is noted, of the chain of this file
  pub chain_known : (others blocks : List ℕ) → IsChain I L n others blocks → (end.headers ≡ length (n ∷ others)) × (end.blocks ≡ length blocks) × (end.last ≡ last_of n others)
  chain_known = subst (λ m. (others blocks : List ℕ) → IsChain I L m others blocks → (end.headers ≡ length (m ∷ others)) × (end.blocks ≡ length blocks) × (end.last ≡ last_of m others)) own known

  pub known_measured : (last : List ℕ) (room : ℕ) → last ≡ header_at I L end.last → room ≡ room_of last → (others blocks : List ℕ) → IsWhole I L n others blocks
      → (end.headers ≡ length (n ∷ others)) × (end.blocks ≡ length blocks) × (room ≡ room_of (header_at I L (last_of n others)))
  known_measured last room there is others blocks whole =
      let k = chain_known others blocks whole.chain in
      (k.0, k.1, is ∙ ap room_of there ∙ ap (λ m. room_of (header_at I L m)) k.2)

  -- the last header of a chain has its parts in place
  pub chain_laid_out : (others blocks : List ℕ) → IsImage I → IsLayoutOf I L → IsChain I L n others blocks → IsLaidOut (header_at I L end.last)
  chain_laid_out others blocks image layout chain =
      let k = chain_known others blocks chain in
      (valid_in I L (n ∷ others) end.last (chain_seen I L n others blocks image layout chain).valid (subst (Contains (n ∷ others)) (sym k.2) (last_in n others))).header.layout

  module _ (image : IsImage I) (layout : IsLayoutOf I L) (whole : (others : List ℕ) × (blocks : List ℕ) × IsWhole I L n others blocks) where
    pub known_few : (end.headers ≤ 256) × (end.blocks ≤ chain_blocks)
    known_few =
        let k = chain_known whole.0 whole.1 whole.2.chain in
        let met = walked I L n whole.0 whole.1 image layout whole.2 in
        let most = walked_few I L n whole.0 whole.1 image layout whole.2 in
        (omega (arith, k.0, met.0, most.0), omega (arith, k.1, met.1, most.1))

    -- the last header has its parts in place
    pub known_laid_out : IsLaidOut (header_at I L end.last)
    known_laid_out = chain_laid_out whole.0 whole.1 image layout whole.2.chain

pub last_of-append : (n : ℕ) (xs ys : List ℕ) → last_of n (xs ++ ys) ≡ last_of (last_of n xs) ys
last_of-append n [] ys = refl
last_of-append n (x ∷ xs) ys = last_of-append x xs ys

-- what is noted of the chain of a file that got these headers and blocks behind its own
pub grown_known : (J : List (List ℕ)) (M : VolumeLayout) (end : KnownEnd) (n : ℕ) (others numbers old taken : List ℕ) → IsChain J M n (others ++ numbers) (old ++ taken) → end.file ≡ n
    → end.headers ≡ length (n ∷ others) + length numbers → end.blocks ≡ length old + length taken → end.last ≡ last_of (last_of n others) numbers → IsEndKnown J M end
grown_known J M end n others numbers old taken chain own headers blocks last hs bs found =
    let here : IsChain J M n hs bs = subst (λ m. IsChain J M m hs bs) own found in
    let is = same_chain J M.home (index_for M n) [] 0 n hs bs (others ++ numbers) (old ++ taken) here chain in
    let long = ap length is.0 ∙ length-append others numbers in
    (omega (arith, headers, long), blocks ∙ sym (ap length is.1 ∙ length-append old taken), last ∙ sym (last_of-append n others numbers) ∙ ap (last_of n) (sym is.0) ∙ ap (λ m. last_of m hs) (sym own))
