-- The end mark of a directory: where a slot in its blocks lies, and what attributes with another mark say.
use Rattle.std.proofs.Common.{◌≡◌, ◌≢◌, ℕ, ◌+◌, ◌-◌, ◌*◌, ◌/◌, ◌%◌, ◌<◌, ◌≤◌, ap, sym, ◌∙◌, true, false, cond, List, length, arith, inl, inr}
use Rattle.std.specs.Prelude.{◌==◌, min, nat_le, slice_set}
use Rattle.std.proofs.lemmas.List.{length-set, get_or-set_other}
use borrow.Author.Tests.{ne_eqb, leb-false}
use Rattle.ods_base.specs.Block.{byte, word, with_word}
use Rattle.ods_base.proofs.Blocks.{word-with_word}
use Rattle.ods_directory.specs.declared.slot.Slot.{Slot}
use Rattle.ods_directory.specs.Mark.{IsSlot, end_block, mark_in, marked}
use Rattle.ods_directory.specs.Names.{IsDirectory}
use Rattle.ods_directory.specs.Entry.{entry_at, is_used}
use Rattle.ods_directory.proofs.Used.{by_positions, from_positions}

-- ---- slots

-- a slot lies in this many blocks, and so does the mark behind it
pub record IsSlotInside (mark count : ℕ) (slot : Slot) : Type 0 where
  pub place : ℕ
  pub at : slot.at ≡ 16 * place
  pub within : slot.at / 512 < count
  pub end : slot.mark ≤ 512 * count
  pub more : mark / 16 ≤ slot.mark / 16

pub slot_inside : (blocks : List (List ℕ)) (mark : ℕ) (slot : Slot) → IsSlot blocks mark slot → slot.grows ≡ false → mark ≤ 512 * length blocks → IsSlotInside mark (length blocks) slot
slot_inside blocks mark slot (inl p) stays cut =
    let at : slot.at ≡ 16 * p.0 = ap (λ (s : Slot). s.at) p.3 in
    let end : slot.mark ≡ mark = ap (λ (s : Slot). s.mark) p.3 in
    let below : p.0 < mark / 16 = p.1 in
    record { place = p.0; at = at; within = omega arith; end = omega arith; more = omega arith }
slot_inside blocks mark slot (inr p) stays cut =
    let at : slot.at ≡ 16 * (mark / 16) = ap (λ (s : Slot). s.at) p.1 in
    let end : slot.mark ≡ 16 * (mark / 16) + 16 = ap (λ (s : Slot). s.mark) p.1 in
    let test : nat_le (512 * length blocks) (16 * (mark / 16)) ≡ false = sym (ap (λ (s : Slot). s.grows) p.1) ∙ stays in
    let inside : 16 * (mark / 16) < 512 * length blocks = leb-false (512 * length blocks) (16 * (mark / 16)) test in
    record { place = mark / 16; at = at; within = omega arith; end = omega arith; more = omega arith }

-- where one slot needs no block more, no other does
pub no_growth : (blocks : List (List ℕ)) (mark : ℕ) (slot other : Slot) → IsSlot blocks mark slot → slot.grows ≡ false → IsSlot blocks mark other → other.grows ≡ true → ⊥
no_growth blocks mark slot other s stays (inl q) grows =
    let wrong : true ≡ false = sym grows ∙ ap (λ (t : Slot). t.grows) q.3 in
    absurd (cc)
no_growth blocks mark slot other (inl p) stays (inr q) grows =
    let used : is_used (entry_at blocks p.0) ≡ true = q.0 p.0 p.1 in
    let wrong : true ≡ false = sym used ∙ p.2.0 in
    absurd (cc)
no_growth blocks mark slot other (inr p) stays (inr q) grows =
    let wrong : true ≡ false = sym grows ∙ ap (λ (t : Slot). t.grows) q.1 ∙ sym (ap (λ (t : Slot). t.grows) p.1) ∙ stays in
    absurd (cc)

-- the blocks are a directory up to each lower mark
pub directory_before : (blocks : List (List ℕ)) (m n : ℕ) → m / 16 ≤ n / 16 → IsDirectory blocks n → IsDirectory blocks m
directory_before blocks m n low directory =
    let was = by_positions blocks n directory in
    from_positions blocks m (record {
      good = λ k below used. was.good k (omega arith) used;
      apart = λ i j from below within used_i used_j. was.apart i j from below (omega arith) used_i used_j;
    })

-- ---- attributes

word_beside : (a : List ℕ) (k v j : ℕ) → j ≢ k → word (with_word a k v) j ≡ word a j
word_beside a k v j ne =
    let low : byte (with_word a k v) (2 * j) ≡ byte a (2 * j) =
    get_or-set_other (slice_set a (2 * k) (v % 256)) (2 * k + 1) (2 * j) (v / 256) 0 (λ e. absurd (omega arith))
    ∙ get_or-set_other a (2 * k) (2 * j) (v % 256) 0 (λ e. ne (omega arith)) in
    let high : byte (with_word a k v) (2 * j + 1) ≡ byte a (2 * j + 1) =
    get_or-set_other (slice_set a (2 * k) (v % 256)) (2 * k + 1) (2 * j + 1) (v / 256) 0 (λ e. ne (omega arith))
    ∙ get_or-set_other a (2 * k) (2 * j + 1) (v % 256) 0 (λ e. absurd (omega arith)) in
    λ i. low i + 256 * high i

long : (a : List ℕ) (k v : ℕ) → length (with_word a k v) ≡ length a
long a k v = length-set (slice_set a (2 * k) (v % 256)) (2 * k + 1) (v / 256) ∙ length-set a (2 * k) (v % 256)

module _ (a : List ℕ) (mark count : ℕ) where
  abbrev size_high : List ℕ
  size_high = with_word a 2 (count / 65536)

  abbrev size_low : List ℕ
  size_low = with_word size_high 3 (count % 65536)

  abbrev end_high : List ℕ
  end_high = with_word size_low 4 ((mark / 512 + 1) / 65536)

  abbrev end_low : List ℕ
  end_low = with_word end_high 5 ((mark / 512 + 1) % 65536)

  module _ (size : length a ≡ 32) (inside : mark ≤ 512 * count) where
    long_low : length size_low ≡ 32
    long_low = long size_high 3 (count % 65536) ∙ long a 2 (count / 65536) ∙ size

    long_end : length end_high ≡ 32
    long_end = long size_low 4 ((mark / 512 + 1) / 65536) ∙ long_low

    long_all : length end_low ≡ 32
    long_all = long end_high 5 ((mark / 512 + 1) % 65536) ∙ long_end

    high_is : word (marked a mark count) 4 ≡ (mark / 512 + 1) / 65536
    unfolding marked
    high_is =
        word_beside end_low 6 (mark % 512) 4 (λ e. absurd (omega arith)) ∙ word_beside end_high 5 ((mark / 512 + 1) % 65536) 4 (λ e. absurd (omega arith))
        ∙ word-with_word size_low 4 ((mark / 512 + 1) / 65536) (omega (arith, long_low))

    low_is : word (marked a mark count) 5 ≡ (mark / 512 + 1) % 65536
    unfolding marked
    low_is = word_beside end_low 6 (mark % 512) 5 (λ e. absurd (omega arith)) ∙ word-with_word end_high 5 ((mark / 512 + 1) % 65536) (omega (arith, long_end))

    byte_is : word (marked a mark count) 6 ≡ mark % 512
    unfolding marked
    byte_is = word-with_word end_low 6 (mark % 512) (omega (arith, long_all))

    end_is : end_block (marked a mark count) ≡ mark / 512 + 1
    end_is = (λ i. 65536 * high_is i + low_is i) ∙ whole
      where
        whole : 65536 * ((mark / 512 + 1) / 65536) + (mark / 512 + 1) % 65536 ≡ mark / 512 + 1
        whole = omega arith

    -- attributes with this mark have it
    pub marked_is : mark_in (marked a mark count) count ≡ mark
    marked_is = (λ i. cond (end_is i == 0) 0 (min ((end_is i - 1) * 512 + byte_is i) (512 * count))) ∙ ap (λ z. cond z 0 (min ((mark / 512 + 1 - 1) * 512 + mark % 512) (512 * count))) some ∙ least
      where
        some : (mark / 512 + 1 == 0) ≡ false
        some = ne_eqb (mark / 512 + 1) 0 (λ e. absurd (omega arith))

        least : min ((mark / 512 + 1 - 1) * 512 + mark % 512) (512 * count) ≡ mark
        least = omega (arith, inside)
