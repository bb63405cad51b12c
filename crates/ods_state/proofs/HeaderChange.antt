-- One header of a sound volume is replaced by one that links alike: nothing moves, and the volume stays sound.
-- This serves SetUser, and each change of a directory that takes no block.
use Rattle.std.proofs.Common.{◌≡◌, ◌≢◌, true, ℕ, ◌+◌, ◌≤◌, ap, sym, ◌∙◌, subst, List, length, Some, arith, inl, inr}
use Rattle.std.specs.Prelude.{◌⊎◌, slice_get, slice_set}
use Rattle.std.proofs.lemmas.List.{length-set}
use Rattle.std.proofs.lemmas.Bool.{cases_eq}
use Rattle.ods_header.proofs.DirectoryHeaders.{is_apart}
use Rattle.ods_mount.proofs.Each.{holds_at}
use Rattle.ods_base.specs.Image.{block_at}
use Rattle.ods_header.specs.Header.{IsFormat1, is_directory_header, attributes_of, sequence_of}
use Rattle.ods_space.specs.Layout.{VolumeLayout, place_of, header_at}
use Rattle.ods_space.specs.Files.{HasBlocks, Holds}
use Rattle.ods_directory.specs.Mark.{mark_in}
use Rattle.ods_directory.specs.Names.{IsDirectory}
use Rattle.ods_mount.specs.Faults.{IsDirectoryFile, contents_of, mark_at, CouldBeWritten}
use Rattle.ods_mount.specs.Sound.{IsSoundBy}
use Rattle.ods_state.specs.Change.{disk}
use Rattle.ods_state.specs.Links.{SameLinks}
use Rattle.ods_state.specs.Moves.{NothingMoves}
use Rattle.ods_state.proofs.Links.{header_held, header_is_no_data, numbered}
use Rattle.ods_state.proofs.OneBlock.{block_there, mapped_alike}
use Rattle.ods_state.proofs.OneHeader.{header_here, header_there, linked, linked_back}
use Rattle.ods_state.proofs.Still as still

module _ (I : List (List ℕ)) (L : VolumeLayout) (S : IsSoundBy I L) (n x : ℕ) (b : List ℕ) (place : place_of L n ≡ Some x) where
  abbrev J : List (List ℕ)
  J = slice_set I x b

  -- the header is this block of INDEXF.SYS, behind the home block
  held : Holds I L 1 (2 + L.home.index_bitmap_size + n) x
  held = header_held I L S n x place

  there : (y : ℕ) → y ≢ x → block_at J y ≡ block_at I y
  there y ne = block_there I L S 1 (2 + L.home.index_bitmap_size + n) x b held y ne

  -- the block that a file holds is another one, but for INDEXF.SYS
  file_block : (m : ℕ) (blocks : List ℕ) → HasBlocks I L m blocks → m ≢ 1 → (i y : ℕ) → slice_get blocks i ≡ Some y → y ≢ x
  file_block m blocks file ne i y e is = ne (header_is_no_data I L S n x m (i + 1) place (subst (λ z. Holds I L m (i + 1) z) is (holds_at I L m blocks i y file e)))

  -- the contents of a file stay, but for those of INDEXF.SYS
  pub contents_stay : (m : ℕ) (blocks : List ℕ) → HasBlocks I L m blocks → m ≢ 1 → contents_of J blocks ≡ contents_of I blocks
  contents_stay m blocks file ne = mapped_alike (block_at I) (block_at J) blocks (λ i y e. there y (file_block m blocks file ne i y e))

  -- a request could write the header's block
  could : CouldBeWritten I L x
  could = inr (1, 2 + L.home.index_bitmap_size + n, held, λ e. absurd (omega arith), λ e. absurd (omega arith), λ p. past p.1)
    where
      past : 2 + L.home.index_bitmap_size + n ≤ 2 → ⊥
      past low = let some : 1 ≤ n = numbered L n x place in absurd (omega arith)

  module _ (to : SameLinks (header_at I L n) b n) (back : SameLinks b (header_at I L n) n) where
    is_still : still.IsStill I J L
    is_still = record {
      long = length-set I x b;
      linked = linked I L S n x b place to back;
      back = linked_back I L S n x b place to back;
      bitmap = λ i y e. there y (file_block 2 L.bitmap S.layout.bitmap (λ two. absurd (omega arith)) i y e);
      elsewhere = λ y. elsewhere_by y (cases_eq y x);
    }
      where
        elsewhere_by : (y : ℕ) → (y ≡ x) ⊎ (y ≢ x) → (block_at J y ≡ block_at I y) ⊎ CouldBeWritten I L y
        elsewhere_by y (inl e) = inr (subst (CouldBeWritten I L) (sym e) could)
        elsewhere_by y (inr ne) = inl (there y ne)

    -- what stays in every change by which nothing moves
    pub has_blocks : (m : ℕ) (blocks : List ℕ) → HasBlocks I L m blocks → HasBlocks J L m blocks
    has_blocks = still.has_blocks I J L S is_still

    pub had_blocks : (m : ℕ) (blocks : List ℕ) → HasBlocks J L m blocks → HasBlocks I L m blocks
    had_blocks = still.had_blocks I J L S is_still

    pub nothing_moves : NothingMoves (disk I L) (disk J L)
    nothing_moves = still.nothing_moves I J L S is_still

    -- no sequence word changes
    pub sequences_stay : (m : ℕ) → sequence_of (header_at I L m) ≤ sequence_of (header_at J L m)
    sequences_stay = still.sequences_stay I J L S is_still

    format_by : IsFormat1 b → (m : ℕ) → (m ≡ n) ⊎ (m ≢ n) → (header_at J L m ≡ header_at I L m) ⊎ IsFormat1 (header_at J L m)
    format_by format m (inl e) = inr (subst IsFormat1 (sym (ap (header_at J L) e ∙ header_here I L S n x b place)) format)
    format_by format m (inr ne) = inl (header_there I L S n x b place m ne)

    -- the file is a directory by its new header, and still one
    abbrev pub IsStillDirectory : Type 0
    IsStillDirectory = is_directory_header n b ≡ true → (blocks : List ℕ) → HasBlocks I L n blocks
        → IsDirectory (contents_of I blocks) (mark_in (attributes_of b) (length blocks))

    directories_by : IsStillDirectory → (m : ℕ) (blocks : List ℕ) → (m ≡ n) ⊎ (m ≢ n) → IsDirectoryFile J L m → HasBlocks J L m blocks → IsDirectory (contents_of J blocks) (mark_at J L m blocks)
    directories_by own m blocks side d h = subst (λ c. IsDirectory c (mark_at J L m blocks)) (sym (contents_stay m blocks old (is_apart m (header_at J L m) d.1 1 (omega arith) (omega arith)))) (by_number side)
      where
        old : HasBlocks I L m blocks
        old = had_blocks m blocks h

        by_number : (m ≡ n) ⊎ (m ≢ n) → IsDirectory (contents_of I blocks) (mark_at J L m blocks)
        by_number (inl e) =
            let here : header_at J L m ≡ b = ap (header_at J L) e ∙ header_here I L S n x b place in
            subst (λ c. IsDirectory (contents_of I blocks) (mark_in (attributes_of c) (length blocks))) (sym here)
            (own (subst (λ k. is_directory_header k b ≡ true) e (subst (λ c. is_directory_header m c ≡ true) here d.1))
            blocks (subst (λ k. HasBlocks I L k blocks) e old))
        by_number (inr ne) =
            let same : header_at J L m ≡ header_at I L m = header_there I L S n x b place m ne in
            subst (λ c. IsDirectory (contents_of I blocks) (mark_in (attributes_of c) (length blocks))) (sym same)
            (S.directories m blocks (still.was_file I J L S is_still m d.0, subst (λ c. is_directory_header m c ≡ true) same d.1) old)

    pub header_is_sound : IsFormat1 b → IsStillDirectory → IsSoundBy J L
    header_is_sound format own = still.is_sound I J L S is_still (λ m. format_by format m (cases_eq m n)) (λ m blocks d h. directories_by own m blocks (cases_eq m n) d h)
