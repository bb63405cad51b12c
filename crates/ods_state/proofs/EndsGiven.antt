-- A file that gives back headers leaves the chain of each other file as it was, and so what is noted of where that ends: Delete and Truncate.
use Rattle.std.proofs.Common.{◌≡◌, ◌≢◌, ℕ, refl, ap, sym, ◌∙◌, subst, IsTrue, List, [], ◌++◌, not, Option, Some, None, take, inl, inr}
use Rattle.std.specs.Prelude.{◌⊎◌}
use Rattle.std.specs.Option.{option_map_or}
use Rattle.std.specs.List.{Contains}
use Rattle.std.proofs.lemmas.List.Elements.{Contains-append_cases}
use Rattle.ods_base.specs.Image.{block_at}
use Rattle.ods_space.specs.Layout.{VolumeLayout, is_in_use, place_of}
use Rattle.ods_alloc.specs.Extend.{GivesBits, is_one_of}
use Rattle.ods_alloc.proofs.NewHeaders.{free_has_place}
use Rattle.ods_mount.specs.Sound.{IsSoundBy}
use Rattle.ods_state.specs.Change.{disk}
use Rattle.ods_state.specs.Moves.{AreCutOff, AreGivenBack, TouchedByGiving}
use Rattle.ods_state.specs.Wants.{HasHeaders}
use Rattle.ods_state.specs.declared.known_end.KnownEnd.{KnownEnd}
use Rattle.ods_state.specs.Ends.{IsEndKnown}
use Rattle.ods_state.proofs.EndsBack.{IsOfChain, StoodBefore, end_back, first_of_two, no_index_bitmap, no_storage_bitmap, not_second}
use Rattle.ods_state.proofs.EndsAllocated.{starts_at_file}
use Rattle.ods_state.proofs.Links.{place_is_one}
use Rattle.ods_state.proofs.Taken.{one_of}
use Rattle.ods_state.proofs.Wanted.{headers_are_one}

-- a number that was given back is not in use
given_unused : {I J : List (List ℕ)} {L : VolumeLayout} {given gone : List ℕ} → GivesBits I L given gone J → (m : ℕ) → IsTrue (is_in_use J L.home m) → ¬ Contains gone m
given_unused {I} {J} {L} {given} {gone} bits m used among = not_second (is_in_use I L.home m) (is_one_of gone m) (subst IsTrue (bits.index_bits m) used) (one_of gone m among)

module _ (I J : List (List ℕ)) (L : VolumeLayout) (S : IsSoundBy I L) (n : ℕ) (only : (x : ℕ) → ¬ TouchedByGiving (disk I L) n x → block_at J x ≡ block_at I x) where
  -- the file had these headers, and none of them is of the chain of file f then
  module _ (headers old given gone : List ℕ) (has : HasHeaders I L n headers old) (bits : GivesBits I L given gone J) (f : ℕ)
      (apart : (others blocks : List ℕ) (m : ℕ) → IsOfChain J L f others blocks m → ¬ Contains headers m) where
    module _ (others blocks : List ℕ) (m : ℕ) (c : IsOfChain J L f others blocks m) where
      stood_at : (y : ℕ) → place_of L m ≡ Some y → StoodBefore I J L.home L.index L.index m
      stood_at y place = record {
        last = c.is.last;
        in_use = first_of_two (is_in_use I L.home m) (not (is_one_of gone m)) (subst IsTrue (bits.index_bits m) c.is.in_use);
        same = ap (λ o. option_map_or (block_at J) o []) place ∙ only y untouched ∙ sym (ap (λ o. option_map_or (block_at I) o []) place);
      }
        where
          untouched : ¬ TouchedByGiving (disk I L) n y
          untouched (inl i) = no_index_bitmap I L S m y place i
          untouched (inr (inl s)) = no_storage_bitmap I L S m y place s
          untouched (inr (inr p)) =
              let same = headers_are_one I L n p.0 headers p.1 old p.2 has in
              let at : Contains headers p.3.0 = subst (λ l. Contains l p.3.0) same.0 p.3.1 in
              apart others blocks m c (subst (Contains headers) (place_is_one I L S p.3.0 m y p.3.2 place) at)

      stood : StoodBefore I J L.home L.index L.index m
      stood = by (place_of L m) refl
        where
          by : (o : Option ℕ) → place_of L m ≡ o → StoodBefore I J L.home L.index L.index m
          by None none = absurd (free_has_place L m c.is.first c.is.last none)
          by (Some y) place = stood_at y place

  -- a file that goes
  pub deleted_keeps : AreGivenBack (disk I L) (disk J L) n → (end : KnownEnd) → end.file ≢ 1 → IsEndKnown I L end → IsEndKnown J L end
  deleted_keeps t end one = end_back I J L L refl end one (stood t.headers t.blocks t.blocks t.headers t.file t.bits end.file (λ others blocks m c. given_unused t.bits m c.is.in_use))

  -- a file that is cut
  pub cut_keeps : IsSoundBy J L → (count : ℕ) → AreCutOff (disk I L) (disk J L) n count → (end : KnownEnd) → end.file ≢ 1 → end.file ≢ n → IsEndKnown I L end → IsEndKnown J L end
  cut_keeps T count t end one other = end_back I J L L refl end one (stood (t.kept ++ t.gone) t.blocks _ t.gone t.file t.bits end.file apart)
    where
      apart : (others blocks : List ℕ) (m : ℕ) → IsOfChain J L end.file others blocks m → ¬ Contains (t.kept ++ t.gone) m
      apart others blocks m c among = which (Contains-append_cases t.kept t.gone m among)
        where
          which : Contains t.kept m ⊎ Contains t.gone m → ⊥
          which (inr gone) = given_unused t.bits m c.is.in_use gone
          which (inl kept) =
              other (T.apart end.file n others t.chain.0 blocks (take count t.blocks) m c.file (starts_at_file J L T n t.chain.0 (take count t.blocks) t.chain.2.chain) c.chain t.chain.2.chain c.one
              (subst (λ l. Contains l m) t.chain.1 kept))
