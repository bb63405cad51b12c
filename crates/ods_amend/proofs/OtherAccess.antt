-- A header that changes only in its owner, its protection, its user's characteristics and its sum stays valid, links as it did, and keeps every other field.
use Rattle.std.proofs.Common.{◌≡◌, ℕ, ◌+◌, ◌-◌, ◌*◌, ◌<◌, ◌≤◌, List, length, inl, inr, ap, ◌∙◌, arith, Option}
use Rattle.std.specs.Prelude.{◌||◌, ◌&&◌, ◌==◌, nat_le, nat_lt, slice_range, if◌then◌else◌}
use Rattle.std.specs.List.{flat_map}
use Rattle.ods_base.specs.Block.{byte, word}
use Rattle.ods_base.specs.Name.{directory_type}
use Rattle.ods_base.specs.declared.file_id.Uic.{Uic}
use Rattle.ods_header.specs.Header.{IsLaidOut, IsValidHeader, attributes_of, ident_ext_of, ident_of, ident_word, is_directory_header, map_word, most_words_of, run_blocks, runs_of, used_words_of}
use Rattle.ods_header.proofs.HeaderPlaces.{same_runs}
use Rattle.ods_header.proofs.Ranges.{same_range}
use Rattle.ods_directory.specs.Mark.{mark_in}
use Rattle.ods_directory.specs.Names.{names_of}
use Rattle.ods_request.specs.Catalogue.{System, Directory, Plain}
use Rattle.ods_state.specs.Contents.{body_of, file_of}
use Rattle.ods_state.specs.Links.{SameLinks}
use Rattle.ods_amend.specs.Access.{IsWithAccess, with_access}

module _ {b c : List ℕ} {owner : Option Uic} {protection flags : Option ℕ} (w : IsWithAccess b owner protection flags c) (n : ℕ) (v : IsValidHeader b n) where
  laid : IsLaidOut b
  laid = v.header.layout

  head : (i : ℕ) → i < 8 → byte c i ≡ byte b i
  head i low = w.others i (inl low)

  tail : (i : ℕ) → 13 ≤ i → i < 510 → byte c i ≡ byte b i
  tail i low high = w.others i (inr (low, high))

  word_head : (k : ℕ) → k < 4 → word c k ≡ word b k
  word_head k low = λ i. head (2 * k) (omega arith) i + 256 * head (2 * k + 1) (omega arith) i

  word_tail : (k : ℕ) → 7 ≤ k → k < 255 → word c k ≡ word b k
  word_tail k low high = λ i. tail (2 * k) (omega arith) (omega arith) i + 256 * tail (2 * k + 1) (omega arith) (omega arith) i

  ident_word_is : ident_word c ≡ ident_word b
  ident_word_is = head 0 (omega arith)

  map_word_is : map_word c ≡ map_word b
  map_word_is = head 1 (omega arith)

  -- a byte of the map area, and a word of it
  map_byte : (i : ℕ) → i < 10 → byte c (2 * map_word c + i) ≡ byte b (2 * map_word b + i)
  map_byte i small =
      let p = laid.ident in let q = laid.map in let r = laid.low in
      ap (λ m. byte c (2 * m + i)) map_word_is ∙ tail (2 * map_word b + i) (omega arith) (omega arith)

  map_words : (k : ℕ) → k < 5 → word c (map_word c + k) ≡ word b (map_word b + k)
  map_words k small =
      let p = laid.ident in let q = laid.map in let r = laid.low in
      ap (λ m. word c (m + k)) map_word_is ∙ word_tail (map_word b + k) (omega arith) (omega arith)

  used_is : used_words_of c ≡ used_words_of b
  used_is = map_byte 8 (omega arith)

  most_is : most_words_of c ≡ most_words_of b
  most_is = map_byte 9 (omega arith)

  runs_kept : runs_of c ≡ runs_of b
  runs_kept = same_runs b c map_word_is used_is (λ i below above. let p = laid.ident in let q = laid.map in let f = laid.fits in tail i (omega arith) (omega arith))

  laid_out : IsLaidOut c
  laid_out =
      let o = ident_word_is in
      let m = map_word_is in
      let u = used_is in
      let t = most_is in
      let p = laid.ident in let q = laid.map in let r = laid.low in let s = laid.even in let a = laid.room in let f = laid.fits in
      record { ident = omega arith; map = omega arith; low = omega arith; even = omega arith; room = omega arith; fits = omega arith }

  pub stays_valid : IsValidHeader c n
  stays_valid = record {
    header = record {
      checksum = w.checksum;
      numbered = word_head 1 (omega arith) ∙ v.header.numbered;
      level = word_head 3 (omega arith) ∙ v.header.level;
      layout = laid_out;
    };
    format = (map_byte 6 (omega arith) ∙ v.format.0, map_byte 7 (omega arith) ∙ v.format.1);
  }

  pub links_alike : SameLinks b c n
  links_alike = record {
    valid = λ old. stays_valid;
    segment = ap (byte c) (omega arith) ∙ map_byte 0 (omega arith) ∙ ap (byte b) (omega arith);
    sequence = word_head 2 (omega arith);
    next_number = map_words 1 (omega arith);
    next_sequence = map_words 2 (omega arith);
    next_volume = map_byte 1 (omega arith);
    blocks = ap (λ rs. flat_map run_blocks rs) runs_kept;
  }

  range_kept : (f t : ℕ) → 13 ≤ f → t < 510 → slice_range c f t ≡ slice_range b f t
  range_kept f t low high = same_range b c f (t - f) w.size (λ j below. tail (f + j) (omega arith) (omega arith))

  pub attributes_kept : attributes_of c ≡ attributes_of b
  attributes_kept = range_kept 14 46 (omega arith) (omega arith)

  ident_kept : ident_of c ≡ ident_of b
  ident_kept =
      let p = laid.ident in let q = laid.map in let r = laid.low in
      ap (λ k. slice_range c (2 * k) (2 * k + 46)) ident_word_is ∙ range_kept (2 * ident_word b) (2 * ident_word b + 46) (omega arith) (omega arith)

  ext_kept : ident_ext_of c ≡ ident_ext_of b
  ext_kept =
      let p = laid.ident in let q = laid.map in let r = laid.low in
      ap (λ k. word c (k + 3)) ident_word_is ∙ word_tail (ident_word b + 3) (omega arith) (omega arith)

  -- the file is a directory as before
  pub kind_kept : is_directory_header n c ≡ is_directory_header n b
  kind_kept = ap (λ e. (n == 4) || (nat_lt 5 n && (e == directory_type))) ext_kept

  body_kept : (blocks : List (List ℕ)) → body_of n c blocks ≡ body_of n b blocks
  unfolding body_of
  body_kept blocks = λ i.
      if nat_le n 2 then System
      else if kind_kept i then Directory (names_of blocks (mark_in (attributes_kept i) (length blocks)))
      else Plain (attributes_kept i) blocks

  -- with the new header the file has that owner, that protection and those characteristics, and all else of it stays
  pub file_given : (blocks : List (List ℕ)) → file_of n c blocks ≡ with_access (file_of n b blocks) owner protection flags
  unfolding file_of
  file_given blocks = λ i. record {
    owner = w.owner i;
    protection = w.protection i;
    user_char = w.flags i;
    system_char = tail 13 (omega arith) (omega arith) i;
    ident = ident_kept i;
    body = body_kept blocks i;
  }
