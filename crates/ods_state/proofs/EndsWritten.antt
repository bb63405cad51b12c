-- A change of blocks that a file holds, not INDEXF.SYS, and a change of the first header of a file, leave what is noted of where the chain of another file ends.
use Rattle.std.proofs.Common.{◌≡◌, ◌≢◌, ℕ, ◌+◌, ◌<◌, refl, ap, sym, ◌∙◌, subst, IsTrue, List, [], length, Option, Some, None, arith, inl, inr}
use Rattle.std.specs.Option.{option_map_or}
use Rattle.std.proofs.lemmas.List.{ext_get_or}
use Rattle.ods_base.specs.Image.{block_at}
use Rattle.ods_header.specs.Header.{IsValidHeader, segment_of}
use Rattle.ods_space.specs.Layout.{VolumeLayout, header_at, place_of}
use Rattle.ods_space.specs.Chain.{IsChain, index_for}
use Rattle.ods_space.specs.Files.{IsFile, Holds}
use Rattle.ods_space.proofs.Chains.{same_chain}
use Rattle.ods_alloc.proofs.NewHeaders.{free_has_place}
use Rattle.ods_mount.specs.Sound.{IsSoundBy}
use Rattle.ods_state.specs.Change.{disk}
use Rattle.ods_state.specs.Moves.{NothingMoves}
use Rattle.ods_state.specs.declared.known_end.KnownEnd.{KnownEnd}
use Rattle.ods_state.specs.Ends.{IsEndKnown}
use Rattle.ods_state.proofs.EndsBack.{IsOfChain, StoodBefore, end_back, no_index_bitmap}
use Rattle.ods_state.proofs.EndsAllocated.{IsOfFile, no_block_of, starts_at_file}
use Rattle.ods_state.proofs.Bookkeeping.{index_holds}
use Rattle.ods_state.proofs.Links.{bits_stay, header_held}

-- where no block changes and the layout stays, all stays
pub same_keeps : (I J : List (List ℕ)) (L M : VolumeLayout) → M ≡ L → length J ≡ length I → ((x : ℕ) → block_at J x ≡ block_at I x) → (end : KnownEnd) → IsEndKnown I L end → IsEndKnown J M end
same_keeps I J L M layout long blocks end known =
    subst (λ N. IsEndKnown J N end) (sym layout) (subst (λ K. IsEndKnown K L end) (sym (ext_get_or [] J I long (λ x below. blocks x))) known)

module _ (I J : List (List ℕ)) (L : VolumeLayout) (S : IsSoundBy I L) where
  -- where no chain changes, a file that was there has the chain that it had
  chain_of : NothingMoves (disk I L) (disk J L) → (f : ℕ) → IsFile I L f → (others blocks : List ℕ) → IsChain J L f others blocks → IsChain I L f others blocks
  chain_of still f file others blocks chain =
      let old = S.chains f file in
      let had : IsChain I L f old.1.others old.0 = old.1.whole.chain in
      let is = same_chain J L.home (index_for L f) [] 0 f old.1.others old.0 others blocks (still.chains f old.1.others old.0 had) chain in
      subst (λ ms. IsChain I L f ms blocks) is.0 (subst (λ bs. IsChain I L f old.1.others bs) is.1 had)

  pub there_keeps : NothingMoves (disk I L) (disk J L) → (end : KnownEnd) → IsFile I L end.file → IsEndKnown I L end → IsEndKnown J L end
  there_keeps still end file known = λ others blocks chain. known others blocks (chain_of still end.file file others blocks chain)

  -- blocks that a file holds
  module _ (n : ℕ) (high : n ≢ 1) (only : (x : ℕ) → ¬ ((vbn : ℕ) × Holds I L n vbn x) → block_at J x ≡ block_at I x) where
    -- no block of INDEXF.SYS changes
    index_stays : (v x : ℕ) → Holds I L 1 v x → block_at J x ≡ block_at I x
    index_stays v x h = only x (λ p. high (S.once n 1 p.0 v x p.1 h).0)

    bitmap_stays : (i : ℕ) → i < L.home.index_bitmap_size → block_at J (L.home.index_bitmap_lbn + i) ≡ block_at I (L.home.index_bitmap_lbn + i)
    bitmap_stays i low = index_stays (2 + i + 1) (L.home.index_bitmap_lbn + i) (index_holds I L S (2 + i) (L.home.index_bitmap_lbn + i) (S.index_place i (omega (arith, low))))

    stood : (f : ℕ) (others blocks : List ℕ) (m : ℕ) → IsOfChain J L f others blocks m → StoodBefore I J L.home L.index L.index m
    stood f others blocks m c = by (place_of L m) refl
      where
        by : (o : Option ℕ) → place_of L m ≡ o → StoodBefore I J L.home L.index L.index m
        by None none = absurd (free_has_place L m c.is.first c.is.last none)
        by (Some y) place = record {
          last = c.is.last;
          in_use = subst IsTrue (bits_stay I J L.home bitmap_stays m) c.is.in_use;
          same = ap (λ o. option_map_or (block_at J) o []) place ∙ index_stays _ y (header_held I L S m y place) ∙ sym (ap (λ o. option_map_or (block_at I) o []) place);
        }

    pub held_keeps : (end : KnownEnd) → end.file ≢ 1 → IsEndKnown I L end → IsEndKnown J L end
    held_keeps end one = end_back I J L L refl end one (stood end.file)

  -- the first header of a file and blocks that it holds, where no chain changes
  module _ (n : ℕ) (high : n ≢ 1) (only : (x : ℕ) → ¬ IsOfFile I L n x → block_at J x ≡ block_at I x) (still : NothingMoves (disk I L) (disk J L)) (T : IsSoundBy J L) (f : ℕ) (other : f ≢ n) where
    bitmap_untouched : (i : ℕ) → i < L.home.index_bitmap_size → block_at J (L.home.index_bitmap_lbn + i) ≡ block_at I (L.home.index_bitmap_lbn + i)
    bitmap_untouched i low = only (L.home.index_bitmap_lbn + i) away
      where
        held : Holds I L 1 (2 + i + 1) (L.home.index_bitmap_lbn + i)
        held = index_holds I L S (2 + i) (L.home.index_bitmap_lbn + i) (S.index_place i (omega (arith, low)))

        away : ¬ IsOfFile I L n (L.home.index_bitmap_lbn + i)
        away (inl p) = no_index_bitmap I L S p.0 (L.home.index_bitmap_lbn + i) p.2 (omega arith, omega (arith, low))
        away (inr p) = high (S.once n 1 p.1.0 (2 + i + 1) (L.home.index_bitmap_lbn + i) p.1.1 held).0

    was_file : IsFile J L f → IsFile I L f
    was_file file = by (place_of L f) refl
      where
        by : (o : Option ℕ) → place_of L f ≡ o → IsFile I L f
        by None none = absurd (free_has_place L f file.first file.last none)
        by (Some y) place =
            let same : header_at J L f ≡ header_at I L f =
            ap (λ o. option_map_or (block_at J) o []) place ∙ only y (no_block_of I L S n f y other place) ∙ sym (ap (λ o. option_map_or (block_at I) o []) place) in
            record {
              first = file.first;
              last = file.last;
              in_use = subst IsTrue (bits_stay I J L.home bitmap_untouched f) file.in_use;
              valid = subst (λ c. IsValidHeader c f) same file.valid;
              segment = ap segment_of (sym same) ∙ file.segment;
            }

  pub file_keeps : (n : ℕ) → n ≢ 1 → ((x : ℕ) → ¬ IsOfFile I L n x → block_at J x ≡ block_at I x) → NothingMoves (disk I L) (disk J L) → IsSoundBy J L
      → (end : KnownEnd) → end.file ≢ n → IsEndKnown I L end → IsEndKnown J L end
  file_keeps n high only still T end other known = λ others blocks chain. known others blocks (chain_of still end.file (was_file n high only still T end.file other (starts_at_file J L T end.file others blocks chain)) others blocks chain)
