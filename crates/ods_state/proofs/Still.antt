-- A change of blocks by which nothing moves: each header links as it did, and BITMAP.SYS stays. The volume stays sound, where its
-- directories do. This serves a change of data, and of one header.
use Rattle.std.proofs.Common.{◌≡◌, ℕ, ◌+◌, ◌/◌, ◌%◌, ◌<◌, ◌≤◌, refl, ap, sym, ◌∙◌, subst, Bool, true, false, IsTrue, List, length, Some, arith, inl, inr, nat_lt}
use Rattle.std.specs.Prelude.{◌⊎◌, ◌&&◌, not, nat_le, slice_get, slice_index}
use Rattle.std.proofs.lemmas.Bool.{ltb-true}
use Rattle.std.proofs.lemmas.Option.{slice_get-get_or}
use Rattle.ods_base.specs.Block.{has_bit}
use Rattle.ods_base.specs.Image.{block_at}
use Rattle.ods_header.specs.Header.{IsHeader, IsFormat1, sequence_of}
use Rattle.ods_space.specs.Layout.{VolumeLayout, header_at, is_in_use, last_number}
use Rattle.ods_space.specs.Chain.{IsChain}
use Rattle.ods_space.specs.Files.{IsFile, HasBlocks, Holds}
use Rattle.ods_space.specs.Free.{is_covered, storage_bit, is_free_block, is_free_number}
use Rattle.ods_directory.specs.Names.{IsDirectory}
use Rattle.ods_mount.specs.Faults.{IsDirectoryFile, contents_of, mark_at, CouldBeWritten}
use Rattle.ods_mount.specs.Sound.{IsSoundBy}
use Rattle.ods_state.specs.Change.{disk}
use Rattle.ods_state.specs.Moves.{NothingMoves}
use Rattle.ods_state.proofs.Chains.{IsLinkedBut, chain_stays, chain_was, file_stays, file_was, blocks_stay, blocks_were, holds_stays, held_before}
use Rattle.ods_state.proofs.Homes.{home_was_at, layout_stays}
use Rattle.ods_state.proofs.Links.{LinkedAt}

-- the images differ only in blocks that a request may write, and in none of BITMAP.SYS; each header links as it did, and has its index bit
pub record IsStill (I J : List (List ℕ)) (L : VolumeLayout) : Type 0 where
  pub long : length J ≡ length I
  pub linked : (n : ℕ) → LinkedAt I J L.home L.index n
  pub back : (n : ℕ) → LinkedAt J I L.home L.index n
  pub bitmap : (i x : ℕ) → slice_get L.bitmap i ≡ Some x → block_at J x ≡ block_at I x
  pub elsewhere : (x : ℕ) → (block_at J x ≡ block_at I x) ⊎ CouldBeWritten I L x

-- no header
abbrev NoHeader : ℕ → Type 0
NoHeader n = ⊥

module _ (I J : List (List ℕ)) (L : VolumeLayout) (S : IsSoundBy I L) (K : IsStill I J L) where
  frame : IsLinkedBut I J L NoHeader
  frame = record { long = K.long; linked = λ n far. K.linked n; back = λ n far. K.back n; apart = λ n others blocks f c far m among. far }

  pub stays_file : (n : ℕ) → IsFile I L n → IsFile J L n
  stays_file n = file_stays I J L S NoHeader frame n (λ e. e)

  pub was_file : (n : ℕ) → IsFile J L n → IsFile I L n
  was_file n = file_was I J L S NoHeader frame n (λ e. e)

  pub has_blocks : (n : ℕ) (blocks : List ℕ) → HasBlocks I L n blocks → HasBlocks J L n blocks
  has_blocks n blocks = blocks_stay I J L S NoHeader frame n blocks (λ e. e)

  pub had_blocks : (n : ℕ) (blocks : List ℕ) → HasBlocks J L n blocks → HasBlocks I L n blocks
  had_blocks n blocks = blocks_were I J L S NoHeader frame n blocks (λ e. e)

  pub still_holds : (n v x : ℕ) → Holds I L n v x → Holds J L n v x
  still_holds n v x = holds_stays I J L S NoHeader frame n v x (λ e. e)

  pub held : (n v x : ℕ) → Holds J L n v x → Holds I L n v x
  held n v x = held_before I J L S NoHeader frame n v x (λ e. e)

  pub chain_kept : (n : ℕ) (others blocks : List ℕ) → IsChain I L n others blocks → IsChain J L n others blocks
  chain_kept n others blocks = chain_stays I J L S NoHeader frame n others blocks (λ m among e. e)

  had_chain : (n : ℕ) (others blocks : List ℕ) → IsFile J L n → IsChain J L n others blocks → IsChain I L n others blocks
  had_chain n others blocks f c = (chain_was I J L S NoHeader frame n others blocks (λ e. e) f c).0

  storage_bit_stays : (lbn : ℕ) (c : Bool) → is_covered L lbn ≡ c → (c && storage_bit J L lbn) ≡ (c && storage_bit I L lbn)
  storage_bit_stays lbn false e = refl
  storage_bit_stays lbn true e =
      let within : 1 + lbn / 4096 < length L.bitmap = ltb-true (1 + lbn / 4096) (length L.bitmap) e in
      ap (λ b. has_bit b (lbn % 4096)) (K.bitmap (1 + lbn / 4096) (slice_index L.bitmap (1 + lbn / 4096)) (slice_get-get_or L.bitmap (1 + lbn / 4096) 0 within))

  pub free_stays : (lbn : ℕ) → is_free_block J L lbn ≡ is_free_block I L lbn
  free_stays lbn = λ i. nat_lt lbn (K.long i) && storage_bit_stays lbn (is_covered L lbn) refl i

  pub free_number_stays : (n : ℕ) → is_free_number J L n ≡ is_free_number I L n
  free_number_stays n = λ i. nat_le 6 n && (nat_le n (last_number L) && (not ((K.linked n).used i) && nat_lt ((K.linked n).links.sequence i) 65535))

  pub nothing_moves : NothingMoves (disk I L) (disk J L)
  nothing_moves = record {
    layout = refl;
    chains = chain_kept;
    held = λ n v x. (still_holds n v x, held n v x);
    free = free_stays;
    numbers = free_number_stays;
  }

  -- no sequence word changes
  pub sequences_stay : (n : ℕ) → sequence_of (header_at I L n) ≤ sequence_of (header_at J L n)
  sequences_stay n = omega (arith, (K.linked n).links.sequence)

  written_before : (k : ℕ) → CouldBeWritten J L k → CouldBeWritten I L k
  written_before k (inl f) = inl (subst IsTrue (free_stays k) f)
  written_before k (inr h) = inr (h.0, h.1, held h.0 h.1 k h.2, h.3, h.4, h.5)

  format_by : (n : ℕ) → (header_at J L n ≡ header_at I L n) ⊎ IsFormat1 (header_at J L n) → IsTrue (is_in_use J L.home n) → IsHeader (header_at J L n) n → IsFormat1 (header_at J L n)
  format_by n (inl same) used is = subst IsFormat1 (sym same) (S.formats n (subst IsTrue (K.linked n).used used) (subst (λ b. IsHeader b n) same is))
  format_by n (inr format) used is = format

  -- where each header that changes has pointers of format 1, and each directory is still one, the changed image is sound
  pub is_sound : ((n : ℕ) → (header_at J L n ≡ header_at I L n) ⊎ IsFormat1 (header_at J L n))
      → ((n : ℕ) (blocks : List ℕ) → IsDirectoryFile J L n → HasBlocks J L n blocks → IsDirectory (contents_of J blocks) (mark_at J L n blocks)) → IsSoundBy J L
  is_sound formats directories = record {
    layout = layout_stays I J L S K.long K.elsewhere (has_blocks 1 L.index S.layout.index) (has_blocks 2 L.bitmap S.layout.bitmap);
    index_bitmap_size = S.index_bitmap_size;
    index_place = S.index_place;
    home_block = λ lbn h. S.home_block lbn (home_was_at I J L S K.long K.elsewhere lbn h);
    home_stays = λ lbn k h place below w. S.home_stays lbn k (home_was_at I J L S K.long K.elsewhere lbn h) place below (written_before k w);
    bitmap_size = S.bitmap_size;
    master = stays_file 4 S.master;
    formats = λ n used is. format_by n (formats n) used is;
    chains = λ n f. let old = S.chains n (was_file n f) in (old.0, has_blocks n old.0 old.1);
    apart = λ m n ms ns cs bs x fm fn cm cn in_m in_n. S.apart m n ms ns cs bs x (was_file m fm) (was_file n fn) (had_chain m ms cs fm cm) (had_chain n ns bs fn cn) in_m in_n;
    once = λ m n v w b hm hn. S.once m n v w b (held m v b hm) (held n w b hn);
    not_free = λ n v b h. free_stays b ∙ S.not_free n v b (held n v b h);
    directories = directories;
  }
