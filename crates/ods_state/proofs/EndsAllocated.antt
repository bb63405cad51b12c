-- A file that takes blocks and headers leaves the chain of each other file but INDEXF.SYS as it was, and so what is noted of where that ends.
use Rattle.std.proofs.Common.{◌≡◌, ◌≢◌, ℕ, ◌+◌, ◌<◌, ◌≤◌, refl, ap, sym, ◌∙◌, subst, IsTrue, List, [], ◌∷◌, ◌++◌, length, Option, Some, None, arith, inl, inr}
use Rattle.std.specs.Prelude.{◌⊎◌, slice_get}
use Rattle.std.specs.Option.{option_map_or}
use Rattle.std.specs.List.{Contains}
use Rattle.std.proofs.lemmas.Bool.{cases_eq, cases_lt}
use Rattle.std.proofs.lemmas.List.Elements.{All-contains, Contains-append_right}
use Rattle.std.proofs.lemmas.Map.Made.{Contains-tail}
use Rattle.std.proofs.lemmas.Option.{slice_get-get_or, slice_get_within}
use Rattle.ods_base.specs.Block.{zeros}
use Rattle.ods_base.specs.Image.{IsImage, block_at}
use Rattle.ods_space.specs.Layout.{VolumeLayout, header_at, is_in_use, last_number, place_of, with_places}
use Rattle.ods_space.specs.Chain.{Follows, IsChain}
use Rattle.ods_space.specs.Files.{IsFile, Holds}
use Rattle.ods_space.proofs.Chains.{head_of}
use Rattle.ods_space.proofs.Growing.{place_stays}
use Rattle.ods_space.proofs.Surveyed.{index_for_other}
use Rattle.ods_alloc.specs.Extend.{IsHeaderPlace, IsIndexBitmap, IsStorageBitmap, is_one_of}
use Rattle.ods_alloc.proofs.NewHeaders.{free_has_place}
use Rattle.ods_mount.specs.Sound.{IsSoundBy}
use Rattle.ods_request.specs.declared.requests.Request.{Request}
use Rattle.ods_state.specs.Change.{disk}
use Rattle.ods_state.specs.Made.{AreZeroed}
use Rattle.ods_state.specs.Moves.{AreAllocated, TouchedByAllocating, TouchedByIndex}
use Rattle.ods_state.specs.Wants.{Wants, allocated_blocks, allocated_numbers, index_blocks, index_end}
use Rattle.ods_state.specs.declared.known_end.KnownEnd.{KnownEnd}
use Rattle.ods_state.specs.Ends.{IsEndKnown}
use Rattle.ods_state.proofs.Chains.{first_in}
use Rattle.ods_state.proofs.EndsBack.{IsOfChain, StoodBefore, end_back, left_of, no_header, no_index_bitmap, no_storage_bitmap}
use Rattle.ods_state.proofs.IndexEnd.{end_in}
use Rattle.ods_state.proofs.Links.{header_held, header_is_no_data, place_is_one, placed}
use Rattle.ods_state.proofs.Taken.{none_empty, none_of}
use Rattle.ods_state.proofs.Wanted.{wants_are_one}

-- a chain starts at a file
pub starts_at_file : (J : List (List ℕ)) (M : VolumeLayout) → IsSoundBy J M → (n : ℕ) (others blocks : List ℕ) → IsChain J M n others blocks → IsFile J M n
starts_at_file J M T n others blocks chain = by (cases_eq n 1)
  where
    by : (n ≡ 1) ⊎ (n ≢ 1) → IsFile J M n
    by (inl one) = subst (IsFile J M) (sym one) T.layout.index.file
    by (inr other) =
        let found : Follows J M.home (Some M.index) [] 0 n others blocks = subst (λ x. Follows J M.home x [] 0 n others blocks) (index_for_other M n other) chain in
        head_of J M.home (Some M.index) [] 0 n others blocks found

-- the block is the first header of file n, or the file holds it and is not INDEXF.SYS
abbrev pub IsOfFile : List (List ℕ) → VolumeLayout → ℕ → ℕ → Type 0
IsOfFile I L n x = IsHeaderPlace L (n ∷ []) x ⊎ ((n ≢ 1) × ((vbn : ℕ) × Holds I L n vbn x))

-- header m of another file is no block of file n
pub no_block_of : (I : List (List ℕ)) (L : VolumeLayout) → IsSoundBy I L → (n m y : ℕ) → m ≢ n → place_of L m ≡ Some y → ¬ IsOfFile I L n y
no_block_of I L S n m y other place (inl p) = which (cases_eq n p.0)
  where
    which : (n ≡ p.0) ⊎ (n ≢ p.0) → ⊥
    which (inl is) = other (place_is_one I L S m p.0 y place p.2 ∙ sym is)
    which (inr ne) = none_empty p.0 (Contains-tail n [] p.0 ne p.1)
no_block_of I L S n m y other place (inr p) = p.0 (header_is_no_data I L S m y n p.1.0 place p.1.1)

module _ (I J : List (List ℕ)) (L : VolumeLayout) (X : List ℕ) (image : IsImage I) (S : IsSoundBy I L) (T : IsSoundBy J (with_places L X)) (r : Request) (headers old : List ℕ) (count : ℕ)
    (wants : Wants I L r headers old count) (t : AreAllocated (disk I L) (disk J (with_places L X)) headers old count)
    (clear : AreZeroed (disk I L) (disk J (with_places L X)) count ⊎ (t.number ≢ 1))
    (only : (x : ℕ) → ¬ TouchedByAllocating (disk I L) r (disk J (with_places L X)) x → ¬ IsOfFile I L t.number x → block_at J x ≡ block_at I x) where
  abbrev M : VolumeLayout
  M = with_places L X

  abbrev numbers : List ℕ
  numbers = allocated_numbers I L headers count

  abbrev took : List ℕ
  took = allocated_blocks I L count

  abbrev new : List ℕ
  new = index_blocks I L headers count

  module _ (f : ℕ) (one : f ≢ 1) (other : f ≢ t.number) (others blocks : List ℕ) (m : ℕ) (c : IsOfChain J M f others blocks m) where
    not_own : ¬ Contains (headers ++ numbers) m
    not_own own =
        other (T.apart f t.number others t.chain.0 blocks (old ++ took) m c.file (starts_at_file J M T t.number t.chain.0 (old ++ took) t.chain.2.chain) c.chain t.chain.2.chain c.one
        (subst (λ l. Contains l m) t.chain.1 own))

    not_new : ¬ Contains numbers m
    not_new among = not_own (Contains-append_right headers numbers m among)

    not_end : m ≢ index_end I L
    not_end is =
        let index = t.index.chain (1 ∷ S.layout.index.others) (S.layout.index.others, refl, S.layout.index.whole) in
        let at : Contains (1 ∷ index.0) m = subst (Contains (1 ∷ index.0)) (sym is) (subst (λ l. Contains l (index_end I L)) index.1 (end_in I L image S)) in
        one (T.apart f 1 others index.0 blocks (L.index ++ new) m c.file T.layout.index.file c.chain index.2.chain c.one at)

    some : 1 ≤ m
    some = c.is.first

    low : m ≤ last_number L
    low = by (cases_lt (last_number L) m)
      where
        by : (last_number L < m) ⊎ (m ≤ last_number L) → m ≤ last_number L
        by (inl past) = absurd (no_header (header_at J M m) m some (t.index.zeroed m past c.is.last not_new) c.is.valid)
        by (inr within) = within

    -- it has the place that it had, and the block there is none that changes
    module _ (y : ℕ) (place : place_of L m ≡ Some y) where
      place_then : place_of M m ≡ Some y
      place_then = place_stays L.home L.index _ m y place

      not_taken : ¬ Contains took y
      not_taken among = by clear
        where
          by : AreZeroed (disk I L) (disk J M) count ⊎ (t.number ≢ 1) → ⊥
          by (inl zeroed) = no_header (header_at J M m) m some (ap (λ o. option_map_or (block_at J) o []) place_then ∙ All-contains (λ x. block_at J x ≡ zeros) took y zeroed among) c.is.valid
          by (inr high) =
              let k = among.0 in
              let named : slice_get took k ≡ Some y = slice_get-get_or took k y among.1 ∙ ap Some among.2 in
              let held : Holds J M t.number (length old + k + 1) y = (t.held t.number (length old + k + 1) y).1 (inr (inl (k, refl, refl, named))) in
              high (header_is_no_data J M T m y t.number (length old + k + 1) place_then held)

      not_first : m ≢ t.number
      not_first is = not_own (subst (λ l. Contains l m) (sym t.chain.1) (subst (λ n. Contains (n ∷ t.chain.0) m) is (first_in m t.chain.0)))

      not_for_index : ¬ Contains new y
      not_for_index among =
          let k = among.0 in
          let named : slice_get new k ≡ Some y = slice_get-get_or new k y among.1 ∙ ap Some among.2 in
          let held : Holds J M 1 (length L.index + k + 1) y = (t.held 1 (length L.index + k + 1) y).1 (inr (inr (k, refl, refl, named))) in
          let same = (T.once 1 1 (length L.index + k + 1) (2 + L.home.index_bitmap_size + m) y held (header_held J M T m y place_then)).1 in
          let within = slice_get_within L.index (1 + L.home.index_bitmap_size + m) y (placed I L S m y place) in
          absurd (omega (arith, same, within))

      untouched : ¬ TouchedByAllocating (disk I L) r (disk J M) y
      untouched p =
          let same = wants_are_one I L r p.0 headers p.1 old p.2 count p.3 wants in
          at (subst (λ k. Cases headers k) same.2 (subst (λ hs. Cases hs p.2) same.0 p.4))
        where
          Cases : List ℕ → ℕ → Type 0
          Cases hs k = IsIndexBitmap L y ⊎ IsStorageBitmap L y ⊎ IsHeaderPlace L (hs ++ allocated_numbers I L hs k) y ⊎ Contains (allocated_blocks I L k) y ⊎ TouchedByIndex (disk I L) (index_blocks I L hs k) y

          at : Cases headers count → ⊥
          at (inl i) = no_index_bitmap I L S m y place i
          at (inr (inl s)) = no_storage_bitmap I L S m y place s
          at (inr (inr (inl q))) = not_own (subst (Contains (headers ++ numbers)) (place_is_one I L S q.0 m y q.2 place) q.1)
          at (inr (inr (inr (inl among)))) = not_taken among
          at (inr (inr (inr (inr (inl among))))) = not_for_index among
          at (inr (inr (inr (inr (inr q))))) = by (cases_eq (index_end I L) q.1.0)
            where
              by : (index_end I L ≡ q.1.0) ⊎ (index_end I L ≢ q.1.0) → ⊥
              by (inl is) = not_end (place_is_one I L S m q.1.0 y place q.1.2 ∙ sym is)
              by (inr ne) = none_empty q.1.0 (Contains-tail (index_end I L) [] q.1.0 ne q.1.1)

      stood_at : StoodBefore I J L.home L.index M.index m
      stood_at = record {
        last = low;
        in_use = left_of (is_in_use I L.home m) (is_one_of numbers m) (subst IsTrue (t.bits.index_bits m) c.is.in_use) (none_of numbers m not_new);
        same = ap (λ o. option_map_or (block_at J) o []) place_then ∙ only y untouched (no_block_of I L S t.number m y not_first place) ∙ sym (ap (λ o. option_map_or (block_at I) o []) place);
      }

    stood : StoodBefore I J L.home L.index M.index m
    stood = by (place_of L m) refl
      where
        by : (o : Option ℕ) → place_of L m ≡ o → StoodBefore I J L.home L.index M.index m
        by None none = absurd (free_has_place L m some low none)
        by (Some y) place = stood_at y place

  pub allocated_keeps : (end : KnownEnd) → end.file ≢ 1 → end.file ≢ t.number → IsEndKnown I L end → IsEndKnown J M end
  allocated_keeps end one other = end_back I J L M refl end one (stood end.file one other)

-- by whatever layout INDEXF.SYS has then
pub allocated_keeps_by : (I J : List (List ℕ)) (L M : VolumeLayout) → IsImage I → IsSoundBy I L → IsSoundBy J M → (r : Request) (headers old : List ℕ) (count : ℕ) → Wants I L r headers old count
    → (t : AreAllocated (disk I L) (disk J M) headers old count) → AreZeroed (disk I L) (disk J M) count ⊎ (t.number ≢ 1)
    → ((x : ℕ) → ¬ TouchedByAllocating (disk I L) r (disk J M) x → ¬ IsOfFile I L t.number x → block_at J x ≡ block_at I x)
    → (end : KnownEnd) → end.file ≢ 1 → end.file ≢ t.number → IsEndKnown I L end → IsEndKnown J M end
allocated_keeps_by I J L M image S T r headers old count wants t =
    subst (λ N. IsSoundBy J N → (u : AreAllocated (disk I L) (disk J N) headers old count) → AreZeroed (disk I L) (disk J N) count ⊎ (u.number ≢ 1)
    → ((x : ℕ) → ¬ TouchedByAllocating (disk I L) r (disk J N) x → ¬ IsOfFile I L u.number x → block_at J x ≡ block_at I x)
    → (end : KnownEnd) → end.file ≢ 1 → end.file ≢ u.number → IsEndKnown I L end → IsEndKnown J N end) (sym t.layout)
    (λ U u. allocated_keeps I J L (index_blocks I L headers count) image S U r headers old count wants u) T t
