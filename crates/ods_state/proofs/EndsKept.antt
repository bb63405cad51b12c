-- What is noted of where a file's chain ends stays true where nothing moves, and so where one block of a file is replaced.
use Rattle.std.proofs.Common.{◌≡◌, ◌≢◌, ℕ, sym, subst, List, [], Option, Some, None, inl, inr}
use Rattle.std.specs.Prelude.{◌⊎◌, slice_set}
use Rattle.std.proofs.lemmas.Bool.{cases_eq}
use Rattle.ods_space.specs.Layout.{VolumeLayout}
use Rattle.ods_space.specs.Chain.{Follows, IsChain, index_for}
use Rattle.ods_space.specs.Files.{IsFile, Holds}
use Rattle.ods_space.proofs.Chains.{head_of, same_chain}
use Rattle.ods_space.proofs.Surveyed.{index_for_other}
use Rattle.ods_mount.specs.Sound.{IsSoundBy}
use Rattle.ods_state.specs.declared.known_end.KnownEnd.{KnownEnd}
use Rattle.ods_state.specs.Ends.{IsEndKnown, IsKnownIn}
use Rattle.ods_state.proofs.Data.{is_still}
use Rattle.ods_state.proofs.OneBlock.{data_changes}
use Rattle.ods_state.proofs.Still.{IsStill, chain_kept, was_file}

module _ (I J : List (List ℕ)) (L : VolumeLayout) (S : IsSoundBy I L) (K : IsStill I J L) where
  -- a chain of the changed image starts at a file of the old one
  starts_at_file : (n : ℕ) (others blocks : List ℕ) → IsChain J L n others blocks → IsFile I L n
  starts_at_file n others blocks chain = by (cases_eq n 1)
    where
      by : (n ≡ 1) ⊎ (n ≢ 1) → IsFile I L n
      by (inl one) = subst (IsFile I L) (sym one) S.layout.index.file
      by (inr other) =
          let found : Follows J L.home (Some L.index) [] 0 n others blocks = subst (λ x. Follows J L.home x [] 0 n others blocks) (index_for_other L n other) chain in
          was_file I J L S K n (head_of J L.home (Some L.index) [] 0 n others blocks found)

  -- and is the chain that this file had
  chain_was : (n : ℕ) (others blocks : List ℕ) → IsChain J L n others blocks → IsChain I L n others blocks
  chain_was n others blocks chain =
      let old = S.chains n (starts_at_file n others blocks chain) in
      let had : IsChain I L n old.1.others old.0 = old.1.whole.chain in
      let is = same_chain J L.home (index_for L n) [] 0 n old.1.others old.0 others blocks (chain_kept I J L S K n old.1.others old.0 had) chain in
      subst (λ ms. IsChain I L n ms blocks) is.0 (subst (λ bs. IsChain I L n old.1.others bs) is.1 had)

  end_stays : (end : KnownEnd) → IsEndKnown I L end → IsEndKnown J L end
  end_stays end known = λ others blocks chain. known others blocks (chain_was end.file others blocks chain)

  -- whatever is noted stays true
  pub ends_stay : (end : Option KnownEnd) → IsKnownIn I L end → IsKnownIn J L end
  ends_stay None known = tt
  ends_stay (Some end) known = end_stays end known

-- also where a block of any file but files 1, 2, 3 and 5 gets other bytes
pub block_keeps_ends : (I : List (List ℕ)) (L : VolumeLayout) → IsSoundBy I L → (n vbn x : ℕ) (b : List ℕ) → Holds I L n vbn x
    → n ≢ 1 → n ≢ 2 → n ≢ 3 → n ≢ 5 → (end : Option KnownEnd) → IsKnownIn I L end → IsKnownIn (slice_set I x b) L end
block_keeps_ends I L S n vbn x b h one two three five =
    ends_stay I (slice_set I x b) L S (is_still I (slice_set I x b) L S (data_changes I L S n vbn x b h one two three five))
