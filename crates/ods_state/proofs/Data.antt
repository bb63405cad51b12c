-- A change of blocks that only hold data: no header changes, and nothing moves.
use Rattle.std.proofs.Common.{◌≡◌, true, ℕ, ◌+◌, refl, sym, subst, List, [], length, Option, Some, None, arith, inl}
use Rattle.std.specs.Prelude.{◌⊎◌, slice_get}
use Rattle.std.specs.Option.{option_map_or}
use Rattle.ods_base.specs.Image.{block_at}
use Rattle.ods_header.specs.Header.{attributes_of, is_directory_header}
use Rattle.ods_space.specs.Layout.{VolumeLayout, place_of, header_at, is_in_use}
use Rattle.ods_space.specs.Files.{HasBlocks}
use Rattle.ods_directory.specs.Mark.{mark_in}
use Rattle.ods_directory.specs.Names.{IsDirectory}
use Rattle.ods_mount.specs.Faults.{IsDirectoryFile, contents_of, mark_at, CouldBeWritten}
use Rattle.ods_mount.specs.Sound.{IsSoundBy}
use Rattle.ods_state.proofs.Links.{linked_same, bits_stay, placed}
use Rattle.ods_state.proofs.Still as still

-- the images differ only in blocks that a request may write, and in none of INDEXF.SYS and of BITMAP.SYS
pub record IsDataChange (I J : List (List ℕ)) (L : VolumeLayout) : Type 0 where
  pub long : length J ≡ length I
  pub index : (i x : ℕ) → slice_get L.index i ≡ Some x → block_at J x ≡ block_at I x
  pub bitmap : (i x : ℕ) → slice_get L.bitmap i ≡ Some x → block_at J x ≡ block_at I x
  pub elsewhere : (x : ℕ) → (block_at J x ≡ block_at I x) ⊎ CouldBeWritten I L x

mapped_same : (I J : List (List ℕ)) (o : Option ℕ) → ((x : ℕ) → o ≡ Some x → block_at J x ≡ block_at I x) → option_map_or (block_at J) o [] ≡ option_map_or (block_at I) o []
mapped_same I J None same = refl
mapped_same I J (Some x) same = same x refl

module _ (I J : List (List ℕ)) (L : VolumeLayout) (S : IsSoundBy I L) (D : IsDataChange I J L) where
  pub header_stays : (n : ℕ) → header_at J L n ≡ header_at I L n
  header_stays n = mapped_same I J (place_of L n) (λ x e. D.index (1 + L.home.index_bitmap_size + n) x (placed I L S n x e))

  bit_stays : (n : ℕ) → is_in_use J L.home n ≡ is_in_use I L.home n
  bit_stays = bits_stay I J L.home (λ i low. D.index (2 + i) (L.home.index_bitmap_lbn + i) (S.index_place i (omega arith)))

  pub is_still : still.IsStill I J L
  is_still = record {
    long = D.long;
    linked = λ n. linked_same I J L.home L.index n (header_stays n) (bit_stays n);
    back = λ n. linked_same J I L.home L.index n (sym (header_stays n)) (sym (bit_stays n));
    bitmap = D.bitmap;
    elsewhere = D.elsewhere;
  }

  -- what stays in every change by which nothing moves
  pub blocks_stay : (n : ℕ) (blocks : List ℕ) → HasBlocks I L n blocks → HasBlocks J L n blocks
  blocks_stay = still.has_blocks I J L S is_still

  pub blocks_were : (n : ℕ) (blocks : List ℕ) → HasBlocks J L n blocks → HasBlocks I L n blocks
  blocks_were = still.had_blocks I J L S is_still

  -- where each directory is still one, the changed image is sound
  pub sound_stays : ((n : ℕ) (blocks : List ℕ) → IsDirectoryFile I L n → HasBlocks I L n blocks → IsDirectory (contents_of J blocks) (mark_at I L n blocks)) → IsSoundBy J L
  sound_stays directories = still.is_sound I J L S is_still (λ n. inl (header_stays n)) (λ n blocks d b.
      let was : IsDirectoryFile I L n = (still.was_file I J L S is_still n d.0, subst (λ b. is_directory_header n b ≡ true) (header_stays n) d.1) in
      subst (λ c. IsDirectory (contents_of J blocks) (mark_in (attributes_of c) (length blocks))) (sym (header_stays n)) (directories n blocks was (blocks_were n blocks b)))
