-- A header that changes only in its user characteristics, its attributes and its sum: it stays valid, and keeps every
-- other field.
use Rattle.std.proofs.Common.{◌≡◌, ℕ, ◌+◌, ◌-◌, ◌*◌, ◌/◌, ◌<◌, ◌≤◌, ◌⊎◌, List, length, inl, inr, refl, sym, ap, ◌∙◌, arith}
use Rattle.std.specs.Prelude.{min, slice_range}
use Rattle.ods_base.specs.Block.{IsBlock, byte, word, sum_of, with_bytes}
use Rattle.ods_base.proofs.Blocks.{byte-with_bytes, byte-with_bytes_before, byte-with_bytes_behind}
use Rattle.ods_header.specs.Header.{IsValidHeader, IsLaidOut, attributes_of, header_of, ident_ext_of, ident_of, ident_word, map_word, most_words_of, room_of, runs_of, segment_of, system_char_of, used_words_of, user_char_of}
use Rattle.ods_header.specs.Pointing.{KeepsForm, KeepsRest}
use Rattle.ods_header.specs.Writing.{with_sum}
use Rattle.ods_header.proofs.HeaderPlaces.{same_runs}
use Rattle.ods_header.proofs.Ranges.{same_range}
use Rattle.ods_header.proofs.Summed.{before_sum}

-- c has other bytes than header b from a on and before e, and at the sum
pub record IsOtherWithin (b c : List ℕ) (a e : ℕ) : Type 0 where
  pub low : 12 ≤ a
  pub high : e ≤ 46
  pub size : length c ≡ length b
  pub system : system_char_of c ≡ system_char_of b
  pub checksum : word c 255 ≡ sum_of c 255
  pub others : (i : ℕ) → (i < a) ⊎ ((e ≤ i) × (i < 510)) → byte c i ≡ byte b i

-- what setting these bytes from a on and the sum makes
module _ (b new m c : List ℕ) (a : ℕ) (block : IsBlock b) (fits : a + length new ≤ 510) (middle : m ≡ with_bytes b a new) (last : c ≡ with_sum m) where
  at : (i : ℕ) → i < 510 → byte c i ≡ byte (with_bytes b a new) i
  at i below = before_sum m c i last below ∙ ap (λ l. byte l i) middle

  pub set_here : (j : ℕ) → j < length new → byte c (a + j) ≡ byte new j
  set_here j below = let s = block.size in at (a + j) (omega (arith, fits)) ∙ byte-with_bytes b new a (a + j) j (omega (arith, fits)) refl below

  pub set_others : (i : ℕ) → (i < a) ⊎ ((a + length new ≤ i) × (i < 510)) → byte c i ≡ byte b i
  set_others i (inl low) = let s = block.size in at i (omega (arith, fits)) ∙ byte-with_bytes_before b new a i (omega (arith, fits)) low
  set_others i (inr high) = let s = block.size in at i high.1 ∙ byte-with_bytes_behind b new a i (omega (arith, fits)) high.0

module _ {b c : List ℕ} {a e : ℕ} (w : IsOtherWithin b c a e) where
  head : (i : ℕ) → i < 12 → byte c i ≡ byte b i
  head i low = let from = w.low in w.others i (inl (omega arith))

  tail : (i : ℕ) → 46 ≤ i → i < 510 → byte c i ≡ byte b i
  tail i low high = let to = w.high in w.others i (inr (omega arith, high))

  word_head : (k : ℕ) → k < 6 → word c k ≡ word b k
  word_head k low = λ i. head (2 * k) (omega arith) i + 256 * head (2 * k + 1) (omega arith) i

  word_tail : (k : ℕ) → 23 ≤ k → k < 255 → word c k ≡ word b k
  word_tail k low high = λ i. tail (2 * k) (omega arith) (omega arith) i + 256 * tail (2 * k + 1) (omega arith) (omega arith) i

  ident_word_is : ident_word c ≡ ident_word b
  ident_word_is = head 0 (omega arith)

  map_word_is : map_word c ≡ map_word b
  map_word_is = head 1 (omega arith)

  module _ (laid : IsLaidOut b) where
    -- a byte of the map area, and a word of it
    map_byte : (i : ℕ) → i < 10 → byte c (2 * map_word c + i) ≡ byte b (2 * map_word b + i)
    map_byte i small =
        let p = laid.ident in let q = laid.map in let r = laid.low in
        ap (λ m. byte c (2 * m + i)) map_word_is ∙ tail (2 * map_word b + i) (omega arith) (omega arith)

    map_words : (k : ℕ) → k < 5 → word c (map_word c + k) ≡ word b (map_word b + k)
    map_words k small =
        let p = laid.ident in let q = laid.map in let r = laid.low in
        ap (λ m. word c (m + k)) map_word_is ∙ word_tail (map_word b + k) (omega arith) (omega arith)

    segment_is : segment_of c ≡ segment_of b
    segment_is = ap (byte c) (omega arith) ∙ map_byte 0 (omega arith) ∙ ap (byte b) (omega arith)

    ident_is : ident_of c ≡ ident_of b
    ident_is =
        let p = laid.ident in let q = laid.map in let r = laid.low in
        ap (λ k. slice_range c (2 * k) (2 * k + 46)) ident_word_is
        ∙ range_alike (2 * ident_word b) (2 * ident_word b + 46) (omega arith) (omega arith)
      where
        range_alike : (f t : ℕ) → 46 ≤ f → t < 510 → slice_range c f t ≡ slice_range b f t
        range_alike f t low high = same_range b c f (t - f) w.size (λ j below. tail (f + j) (omega arith) (omega arith))

    pub ident_ext_kept : ident_ext_of c ≡ ident_ext_of b
    ident_ext_kept =
        let p = laid.ident in let q = laid.map in let r = laid.low in
        ap (λ k. word c (k + 3)) ident_word_is ∙ word_tail (ident_word b + 3) (omega arith) (omega arith)

    used_is : used_words_of c ≡ used_words_of b
    used_is = map_byte 8 (omega arith)

    most_is : most_words_of c ≡ most_words_of b
    most_is = map_byte 9 (omega arith)

    pub runs_kept : runs_of c ≡ runs_of b
    runs_kept = same_runs b c map_word_is used_is (λ i below above. let p = laid.ident in let q = laid.map in let f = laid.fits in tail i (omega arith) (omega arith))

    pub room_kept : room_of c ≡ room_of b
    room_kept = λ i. min (most_is i) ((510 - (2 * map_word_is i + 10)) / 2) - used_is i

    -- the link, M.USE and what is behind the pointers stand in the tail, which stays
    pub rest_kept : KeepsRest b c
    rest_kept =
        let p = laid.ident in let q = laid.map in let m = map_word_is in let u = used_is in
        record {
          further = omega arith;
          behind = λ i from below. tail i (omega arith) below;
          none = λ e. (sym (map_words 1 (omega arith)) ∙ e, map_words 2 (omega arith));
        }

    pub form_kept : KeepsForm b c
    form_kept i (inl low) = head i low
    form_kept i (inr (inl at)) = ap (byte c) at ∙ w.system ∙ ap (byte b) (omega (arith, at))
    form_kept i (inr (inr (inl within))) = let p = laid.map in let q = laid.low in let from = within.0 in let to = within.1 in tail i (omega arith) (omega arith)
    form_kept i (inr (inr (inr (inl at)))) = let o = laid.ident in let p = laid.map in let q = laid.low in tail i (omega arith) (omega arith)
    form_kept i (inr (inr (inr (inr (inl at))))) = let o = laid.ident in let p = laid.map in let q = laid.low in tail i (omega arith) (omega arith)
    form_kept i (inr (inr (inr (inr (inr at))))) = let o = laid.ident in let p = laid.map in let q = laid.low in tail i (omega arith) (omega arith)

    laid_out : IsLaidOut c
    laid_out =
        let o = ident_word_is in
        let m = map_word_is in
        let u = used_is in
        let t = most_is in
        let p = laid.ident in let q = laid.map in let r = laid.low in let s = laid.even in let v = laid.room in let f = laid.fits in
        record { ident = omega arith; map = omega arith; low = omega arith; even = omega arith; room = omega arith; fits = omega arith }

  pub stays_valid : (n : ℕ) → IsValidHeader b n → IsValidHeader c n
  stays_valid n v = record {
    header = record {
      checksum = w.checksum;
      numbered = word_head 1 (omega arith) ∙ v.header.numbered;
      level = word_head 3 (omega arith) ∙ v.header.level;
      layout = laid_out v.header.layout;
    };
    format = (map_byte v.header.layout 6 (omega arith) ∙ v.format.0, map_byte v.header.layout 7 (omega arith) ∙ v.format.1);
  }

  -- all fields are b's but for those that may be others
  pub fields_kept : (n : ℕ) → IsValidHeader b n → header_of c ≡ record (header_of b) { user_char = user_char_of c; attributes = attributes_of c }
  fields_kept n v =
      let laid = v.header.layout in
      λ i. record {
        file = record { number = word_head 1 (omega arith) i; sequence = word_head 2 (omega arith) i };
        owner = record { group = head 9 (omega arith) i; member = head 8 (omega arith) i };
        protection = word_head 5 (omega arith) i;
        user_char = user_char_of c;
        system_char = w.system i;
        attributes = attributes_of c;
        ident = ident_is laid i;
        segment = segment_is laid i;
        next = record { number = map_words laid 1 (omega arith) i; sequence = map_words laid 2 (omega arith) i };
        next_volume = map_byte laid 1 (omega arith) i;
        ident_offset = ident_word_is i;
        map_offset = map_word_is i;
        most_words = map_byte laid 9 (omega arith) i;
        pointers = record { items = runs_kept laid i };
      }
