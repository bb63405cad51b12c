-- One header is replaced by one that links alike: every header links alike then, and every index bit is as before.
use Rattle.std.proofs.Common.{◌≡◌, ◌≢◌, ℕ, ◌+◌, ◌-◌, ◌<◌, ◌≤◌, refl, ap, sym, ◌∙◌, subst, List, [], Option, Some, None, arith, inl, inr}
use Rattle.std.specs.Prelude.{◌⊎◌, slice_get, slice_set}
use Rattle.std.specs.Option.{option_map_or}
use Rattle.std.proofs.lemmas.Bool.{cases_eq}
use Rattle.ods_base.specs.Image.{block_at}
use Rattle.ods_space.specs.Layout.{VolumeLayout, place_of, header_at, is_in_use}
use Rattle.ods_space.specs.Files.{Holds}
use Rattle.ods_mount.specs.Sound.{IsSoundBy}
use Rattle.ods_state.proofs.OneBlock.{block_here, block_there}
use Rattle.ods_state.specs.Links.{SameLinks}
use Rattle.ods_state.proofs.Links.{LinkedAt, bits_stay, header_held, linked_same, numbered, place_is_one}

module _ (I : List (List ℕ)) (L : VolumeLayout) (S : IsSoundBy I L) (n x : ℕ) (b : List ℕ) (place : place_of L n ≡ Some x) where
  held : Holds I L 1 (2 + L.home.index_bitmap_size + n) x
  held = header_held I L S n x place

  -- the header is the new one, any other is as before
  pub header_here : header_at (slice_set I x b) L n ≡ b
  header_here = ap (λ o. option_map_or (block_at (slice_set I x b)) o []) place ∙ block_here I L S 1 (2 + L.home.index_bitmap_size + n) x b held

  pub header_there : (m : ℕ) → m ≢ n → header_at (slice_set I x b) L m ≡ header_at I L m
  header_there m ne = by_place (place_of L m) refl
    where
      same : (o : Option ℕ) → place_of L m ≡ o → option_map_or (block_at (slice_set I x b)) o [] ≡ option_map_or (block_at I) o []
      same None e = refl
      same (Some y) e = block_there I L S 1 (2 + L.home.index_bitmap_size + n) x b held y (λ is. ne (place_is_one I L S m n x (e ∙ ap (λ z. Some z) is) place))

      by_place : (o : Option ℕ) → place_of L m ≡ o → header_at (slice_set I x b) L m ≡ header_at I L m
      by_place o e = ap (λ p. option_map_or (block_at (slice_set I x b)) p []) e ∙ same o e ∙ sym (ap (λ p. option_map_or (block_at I) p []) e)

  -- the index bitmap lies in other blocks
  bitmap_there : (i : ℕ) → i < L.home.index_bitmap_size → block_at (slice_set I x b) (L.home.index_bitmap_lbn + i) ≡ block_at I (L.home.index_bitmap_lbn + i)
  bitmap_there i low = block_there I L S 1 (2 + L.home.index_bitmap_size + n) x b held (L.home.index_bitmap_lbn + i) (λ is. apart is)
    where
      own : Holds I L 1 (3 + i) (L.home.index_bitmap_lbn + i)
      own = record { blocks = L.index; file = S.layout.index; first = omega arith; named = ap (slice_get L.index) less ∙ S.index_place i (omega arith) }
        where
          less : 3 + i - 1 ≡ 2 + i
          less = omega arith

      apart : L.home.index_bitmap_lbn + i ≡ x → ⊥
      apart is =
          let twice : 3 + i ≡ 2 + L.home.index_bitmap_size + n = (S.once 1 1 (3 + i) (2 + L.home.index_bitmap_size + n) x (subst (λ z. Holds I L 1 (3 + i) z) is own) held).1 in
          let some : 1 ≤ n = numbered L n x place in
          absurd (omega arith)

  pub bits_there : (m : ℕ) → is_in_use (slice_set I x b) L.home m ≡ is_in_use I L.home m
  bits_there = bits_stay I (slice_set I x b) L.home bitmap_there

  module _ (to : SameLinks (header_at I L n) b n) (back : SameLinks b (header_at I L n) n) where
    pub linked : (m : ℕ) → LinkedAt I (slice_set I x b) L.home L.index m
    linked m = by_number (cases_eq m n)
      where
        by_number : (m ≡ n) ⊎ (m ≢ n) → LinkedAt I (slice_set I x b) L.home L.index m
        by_number (inl e) = subst (LinkedAt I (slice_set I x b) L.home L.index) (sym e) (record { links = subst (λ c. SameLinks (header_at I L n) c n) (sym header_here) to; used = bits_there n })
        by_number (inr ne) = linked_same I (slice_set I x b) L.home L.index m (header_there m ne) (bits_there m)

    pub linked_back : (m : ℕ) → LinkedAt (slice_set I x b) I L.home L.index m
    linked_back m = by_number (cases_eq m n)
      where
        by_number : (m ≡ n) ⊎ (m ≢ n) → LinkedAt (slice_set I x b) I L.home L.index m
        by_number (inl e) = subst (LinkedAt (slice_set I x b) I L.home L.index) (sym e) (record { links = subst (λ c. SameLinks c (header_at I L n) n) (sym header_here) back; used = sym (bits_there n) })
        by_number (inr ne) = linked_same (slice_set I x b) I L.home L.index m (sym (header_there m ne)) (sym (bits_there m))
