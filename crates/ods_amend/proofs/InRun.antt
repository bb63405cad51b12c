-- A file is made while the free blocks below a run are marked as taken: it gets the run, and those blocks may be marked as free again.
use Rattle.std.proofs.Common.{◌≡◌, ◌≢◌, ℕ, zero, suc, ◌+◌, ◌-◌, ◌<◌, ◌≤◌, refl, ap, sym, ◌∙◌, subst, Bool, true, false, IsTrue, ◌&&◌, List, [], ◌∷◌, ◌++◌, length, take, drop, get_or, Option, Some, None, arith, inl, inr}
use Rattle.std.specs.Prelude.{◌⊎◌, nat_le, slice_get}
use Rattle.std.specs.List.{All, Contains, filter, range_with_len}
use Rattle.std.proofs.lemmas.Bool.{cases_lt, leb-true, leb-false}
use Rattle.std.proofs.lemmas.List.Elements.{All-contains, All-drop, All-take, Contains-get_or, filter_passes}
use Rattle.std.proofs.lemmas.List.FromFn.{get_or-range_with_len, length-range_with_len}
use Rattle.std.proofs.lemmas.Option.{get_or_from_slice_get, slice_get_within}
use Rattle.ods_base.specs.Image.{block_at}
use Rattle.ods_base.specs.Name.{RadName}
use Rattle.ods_base.specs.declared.file_id.FileId.{FileId}
use Rattle.ods_header.specs.Home.{IsHome, IsHomeAt, IsHomePlace}
use Rattle.ods_space.specs.Layout.{VolumeLayout, place_of}
use Rattle.ods_space.specs.Files.{HasBlocks, Holds}
use Rattle.ods_space.specs.Free.{free_blocks, is_free_block}
use Rattle.ods_space.proofs.Surveyed.{file_of_chain}
use Rattle.ods_alloc.specs.Extend.{IsHeaderPlace, IsIndexBitmap, IsStorageBitmap}
use Rattle.ods_alloc.proofs.FreeTests.{free_inside}
use Rattle.ods_alloc.proofs.Places.{place_in_index, storage_at}
use Rattle.ods_mount.specs.Sound.{IsSoundBy}
use Rattle.ods_mount.proofs.Each.{holds_at}
use Rattle.ods_request.specs.declared.answers.Answer.TheVariants.{Created}
use Rattle.ods_request.specs.declared.requests.Request.TheVariants.{Create}
use Rattle.ods_state.specs.Change.{disk}
use Rattle.ods_state.specs.Moves.{AreAllocated, ChangesOnlyTouched, Moves, TouchedByIndex, Touches}
use Rattle.ods_state.specs.Wants.{allocated_blocks, allocated_numbers, index_blocks, index_end}
use Rattle.ods_state.proofs.Bookkeeping.{well_placed}
use Rattle.ods_amend.specs.Bits.{AreMarked, IsLoose}
use Rattle.ods_amend.specs.Runs.{IsLowestRun, free_below}
use Rattle.ods_amend.proofs.BitsSound.{home_was}
use Rattle.ods_amend.proofs.HiddenFree.{free_hidden, hidden_free, hidden_low, run_is_lowest}
use Rattle.ods_amend.proofs.RunsFound.{clash}

first_taken : (k : ℕ) (xs : List ℕ) → slice_get (take (1 + k) xs) 0 ≡ slice_get xs 0
first_taken k xs = let e : 1 + k ≡ suc k = omega arith in ap (λ j. slice_get (take j xs) 0) e ∙ by xs
  where
    by : (ys : List ℕ) → slice_get (take (suc k) ys) 0 ≡ slice_get ys 0
    by [] = refl
    by (y ∷ ys) = refl

both_of : (a b : Bool) → (a && b) ≡ true → (a ≡ true) × (b ≡ true)
both_of true b e = (refl, e)
both_of false b e = absurd (cc e)

same_some : (x y : ℕ) → Some x ≡ Some y → x ≡ y
same_some x y e = cc

module _ (I J K : List (List ℕ)) (L M : VolumeLayout) (S : IsSoundBy I L) (first n : ℕ) (run : IsLowestRun I L n first) (mk : AreMarked I L (free_below I L first) false J)
    (name : RadName) (version : ℕ) (stamp : List ℕ) (id : FileId) (moves : Moves (disk J L) (Create name version n stamp) (Created id) (disk K M))
    (elsewhere : ChangesOnlyTouched (disk J L) (Create name version n stamp) (disk K M)) (SK : IsSoundBy K M) where
  SJ : IsSoundBy J L
  SJ = mk.sound

  -- the run is inside the image
  fits : first + n ≤ length I
  fits = by n refl
    where
      by : (m : ℕ) → n ≡ m → first + n ≤ length I
      by zero e = elim (cases_lt 0 first) [ inl some ↦ absurd (run.least 0 some (λ x low high. absurd (omega (arith, e, low, high)))) | inr none ↦ omega (arith, e, none) ]
      by (suc m) e = let last = free_inside I L (first + m) (run.free (first + m) (omega arith) (omega (arith, e))) in omega (arith, e, last)

  allocated : allocated_blocks J L n ≡ range_with_len first n
  allocated = run_is_lowest I J L first mk n run fits

  are : AreAllocated (disk J L) (disk K M) [] [] n
  are = moves.0.0 [] [] n (refl, refl, refl)

  -- the file is the one that the answer says
  number_is : are.number ≡ id.number
  number_is =
      let headers : slice_get (allocated_numbers J L [] n) 0 ≡ Some are.number = ap (λ l. slice_get l 0) are.chain.1 in
      let said : slice_get (allocated_numbers J L [] 0) 0 ≡ Some id.number = moves.1.1 in
      same_some are.number id.number (sym headers ∙ first_taken _ _ ∙ sym (first_taken _ _) ∙ said)

  pub has_run : HasBlocks K M id.number (range_with_len first n)
  has_run =
      let P : List ℕ → Type 0 = λ bs. HasBlocks K M are.number bs in
      let own : HasBlocks K M are.number (allocated_blocks J L n) = record { file = file_of_chain K M are.number are.chain.0 (allocated_blocks J L n) (record { home = SK.layout.home; index = SK.layout.index }) are.chain.2.chain; others = are.chain.0; whole = are.chain.2 } in
      subst (λ m. HasBlocks K M m (range_with_len first n)) number_is (subst P allocated own)

  -- what a request takes was free
  all_free : (count x : ℕ) → Contains (allocated_blocks J L count) x → is_free_block J L x ≡ true
  unfolding free_blocks
  all_free count x c = All-contains (λ y. is_free_block J L y ≡ true) (allocated_blocks J L count) x (All-take (λ y. is_free_block J L y ≡ true) count (free_blocks J L) (filter_passes (is_free_block J L) (range_with_len 0 (length J)))) c

  grown_free : (headers : List ℕ) (count x : ℕ) → Contains (index_blocks J L headers count) x → is_free_block J L x ≡ true
  unfolding free_blocks
  grown_free headers count x c =
      All-contains (λ y. is_free_block J L y ≡ true) (index_blocks J L headers count) x
      (All-take (λ y. is_free_block J L y ≡ true) _ (drop count (free_blocks J L)) (All-drop (λ y. is_free_block J L y ≡ true) count (free_blocks J L) (filter_passes (is_free_block J L) (range_with_len 0 (length J))))) c

  -- a hidden block is not free then
  hidden_taken : (x : ℕ) → x < first → is_free_block J L x ≡ true → ⊥
  hidden_taken x low free = let at = both_of (nat_le first x) (is_free_block I L x) (sym (free_hidden I J L first mk x) ∙ free) in absurd (omega (arith, low, leb-true first x at.0))

  at_place : (xs : List ℕ) (k x : ℕ) → slice_get xs k ≡ Some x → Contains xs x
  at_place xs k x e = (k, slice_get_within xs k x e, get_or_from_slice_get xs k x x e)

  unheld : (x : ℕ) → Contains (free_below I L first) x → (m v : ℕ) → ¬ Holds K M m v x
  unheld x has m v h = elim ((are.held m v x).0 h) [
    | inl old ↦ clash (is_free_block I L x) (hidden_free I J L first mk x has) (S.not_free m v x ((mk.held m v x).1 old))
    | inr new ↦ elim new [
      | inl own ↦ hidden_taken x (hidden_low I J L first mk x has) (all_free n x (at_place (allocated_blocks J L n) own.0 x own.3))
      | inr grown ↦ hidden_taken x (hidden_low I J L first mk x has) (grown_free [] n x (at_place (index_blocks J L [] n) grown.0 x grown.3))
    ]
  ]

  -- the home block stays
  home_kept : (h : ℕ) → IsHomeAt J h → block_at K h ≡ block_at J h
  home_kept h at = elsewhere.1 h untouched
    where
      placed : (k : ℕ) × (k < 2) × (slice_get L.index k ≡ Some h)
      placed = elim (SJ.home_block h at) [ inl e ↦ (0, omega arith, e) | inr e ↦ (1, omega arith, e) ]

      held : Holds J L 1 (placed.0 + 1) h
      held = holds_at J L 1 L.index placed.0 h SJ.layout.index placed.2

      no_header : (numbers : List ℕ) → IsHeaderPlace L numbers h → ⊥
      no_header numbers p =
          let there = place_in_index L p.0 h (well_placed J L SJ) p.2 in
          let same = (well_placed J L SJ).index_once placed.0 (1 + L.home.index_bitmap_size + p.0) h placed.2 there.1 in
          absurd (omega (arith, same, placed.1, there.0))

      not_free : is_free_block J L h ≡ true → ⊥
      not_free free = clash (is_free_block J L h) free (SJ.not_free 1 (placed.0 + 1) h held)

      untouched : ¬ Touches (disk J L) (Create name version n stamp) (disk K M) h
      untouched t = by t.4
        where
          by : IsIndexBitmap L h ⊎ IsStorageBitmap L h ⊎ IsHeaderPlace L (t.0 ++ allocated_numbers J L t.0 t.2) h ⊎ Contains (allocated_blocks J L t.2) h ⊎ TouchedByIndex (disk J L) (index_blocks J L t.0 t.2) h → ⊥
          by (inl bitmap) =
              let i : ℕ = h - L.home.index_bitmap_lbn in
              let is : L.home.index_bitmap_lbn + i ≡ h = omega (arith, bitmap.0) in
              let there : slice_get L.index (2 + i) ≡ Some h = (well_placed J L SJ).index_place i (omega (arith, bitmap.0, bitmap.1)) ∙ ap Some is in
              let same = (well_placed J L SJ).index_once placed.0 (2 + i) h placed.2 there in
              absurd (omega (arith, same, placed.1))
          by (inr (inl storage)) = let there = storage_at L h storage in (well_placed J L SJ).apart placed.0 there.0 h h placed.2 there.1 refl
          by (inr (inr (inl header))) = no_header (t.0 ++ allocated_numbers J L t.0 t.2) header
          by (inr (inr (inr (inl taken)))) = not_free (all_free t.2 h taken)
          by (inr (inr (inr (inr (inl grown))))) = not_free (grown_free t.0 t.2 h grown)
          by (inr (inr (inr (inr (inr last))))) = no_header (index_end J L ∷ []) last.1

  behind : (x : ℕ) → Contains (free_below I L first) x → (h : ℕ) → IsHomeAt K h → IsHomePlace x → ¬ (x < h)
  behind x has h at place below =
      let home = SJ.layout.home.0 in
      let was : IsHomeAt J home = SJ.layout.home.1 in
      let old : IsHomeAt I home = home_was I J L S mk.long mk.elsewhere home was in
      elim (cases_lt home h) [
        | inl lower ↦ at.least home was.place lower (subst (λ k. home < k) (sym elsewhere.0) was.inside) (subst IsHome (sym (home_kept home was)) was.home)
        | inr higher ↦ S.home_stays home x old place (omega (arith, below, higher)) (inl (hidden_free I J L first mk x has))
      ]

  pub all_loose : All (IsLoose K M) (free_below I L first)
  all_loose = λ i d low.
      let x : ℕ = get_or (free_below I L first) i d in
      let has : Contains (free_below I L first) x = Contains-get_or (free_below I L first) i d low in
      record { unheld = unheld x has; behind = behind x has }
