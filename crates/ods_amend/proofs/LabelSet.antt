-- The home block in which a label and both sums are set: it passes as a home block, with the fields that it had.
use Rattle.std.proofs.Common.{◌≡◌, ◌⊎◌, ℕ, ◌+◌, ◌-◌, ◌*◌, ◌<◌, ◌≤◌, List, length, inl, inr, sym, ap, ◌∙◌, arith}
use Rattle.ods_base.specs.Block.{IsBlock, byte, word, sum_of, with_bytes, with_word}
use Rattle.ods_base.proofs.Blocks.{byte-with_bytes, byte-with_bytes_before, byte-with_bytes_behind, byte-with_word_before, word-with_word, sum_of_same}
use Rattle.ods_header.specs.Home.{IsHome, home_of}
use Rattle.ods_header.proofs.Ranges.{range_is, same_range}
use Rattle.ods_init.specs.Label.{zero_padded}
use Rattle.ods_init.proofs.HomeBuilt.{byte-with_word_behind}
use Rattle.ods_amend.specs.Label.{IsRelabelled}

-- the steps: each block from the one before it
pub record AreLabelSteps (b label name b1 b2 b3 b4 : List ℕ) : Type 0 where
  pub s1 : b1 ≡ with_bytes b 14 name
  pub s2 : b2 ≡ with_word b1 29 (sum_of b1 29)
  pub s3 : b3 ≡ with_bytes b2 472 label
  pub s4 : b4 ≡ with_word b3 255 (sum_of b3 255)
  pub k0 : IsBlock b
  pub k1 : IsBlock b1
  pub k2 : IsBlock b2
  pub k3 : IsBlock b3
  pub k4 : IsBlock b4
  pub padded : name ≡ zero_padded label
  pub short : length name ≡ 12
  pub twelve : length label ≡ 12

at : (b c : List ℕ) (i : ℕ) → c ≡ b → byte c i ≡ byte b i
at b c i e = ap (λ (x : List ℕ). byte x i) e

module _ {b label name b1 b2 b3 b4 : List ℕ} (s : AreLabelSteps b label name b1 b2 b3 b4) where
  last : (i : ℕ) → i < 510 → byte b4 i ≡ byte b3 i
  last i low = at _ b4 i s.s4 ∙ byte-with_word_before b3 255 (sum_of b3 255) i (omega arith)

  before_copy : (i : ℕ) → i < 472 → byte b4 i ≡ byte b2 i
  before_copy i low = last i (omega arith) ∙ at _ b3 i s.s3 ∙ byte-with_bytes_before b2 label 472 i (omega (arith, s.k2.size)) low

  behind_copy : (i : ℕ) → 484 ≤ i → i < 510 → byte b4 i ≡ byte b2 i
  behind_copy i high low = last i low ∙ at _ b3 i s.s3 ∙ byte-with_bytes_behind b2 label 472 i (omega (arith, s.k2.size)) (omega (arith, high, s.twelve))

  before_sum : (i : ℕ) → i < 58 → byte b4 i ≡ byte b1 i
  before_sum i low = before_copy i (omega arith) ∙ at _ b2 i s.s2 ∙ byte-with_word_before b1 29 (sum_of b1 29) i (omega arith)

  behind_sum : (i : ℕ) → 60 ≤ i → byte b2 i ≡ byte b i
  behind_sum i high =
      at _ b2 i s.s2 ∙ byte-with_word_behind b1 29 (sum_of b1 29) i (omega arith)
      ∙ at _ b1 i s.s1 ∙ byte-with_bytes_behind b name 14 i (omega (arith, s.k0.size)) (omega (arith, high, s.short))

  in_front : (i : ℕ) → i < 14 → byte b4 i ≡ byte b i
  in_front i low = before_sum i (omega arith) ∙ at _ b1 i s.s1 ∙ byte-with_bytes_before b name 14 i (omega (arith, s.k0.size)) low

  in_middle : (i : ℕ) → 26 ≤ i → i < 58 → byte b4 i ≡ byte b i
  in_middle i high low = before_sum i low ∙ at _ b1 i s.s1 ∙ byte-with_bytes_behind b name 14 i (omega (arith, s.k0.size)) (omega (arith, high, s.short))

  in_name : (j : ℕ) → j < length name → byte b4 (14 + j) ≡ byte name j
  in_name j low =
      let few : j < 12 = omega (arith, low, s.short) in
      before_sum (14 + j) (omega arith) ∙ at _ b1 (14 + j) s.s1 ∙ byte-with_bytes b name 14 (14 + j) j (omega (arith, s.k0.size)) (omega arith) low

  in_copy : (j : ℕ) → j < length label → byte b4 (472 + j) ≡ byte label j
  in_copy j low =
      let few : j < 12 = omega (arith, low, s.twelve) in
      last (472 + j) (omega arith) ∙ at _ b3 (472 + j) s.s3 ∙ byte-with_bytes b2 label 472 (472 + j) j (omega (arith, s.k2.size)) (omega arith) low

  kept : (i : ℕ) → (i < 14) ⊎ ((26 ≤ i) × (i < 58)) ⊎ ((60 ≤ i) × (i < 472)) ⊎ ((484 ≤ i) × (i < 510)) → byte b4 i ≡ byte b i
  kept i (inl low) = in_front i low
  kept i (inr (inl within)) = in_middle i within.0 within.1
  kept i (inr (inr (inl within))) = before_copy i within.1 ∙ behind_sum i within.0
  kept i (inr (inr (inr behind))) = behind_copy i behind.0 behind.1 ∙ behind_sum i (let from = behind.0 in omega (arith, from))

  first_sum : word b4 29 ≡ sum_of b4 29
  first_sum =
      (λ i. before_copy 58 (omega arith) i + 256 * before_copy 59 (omega arith) i)
      ∙ ap (λ (x : List ℕ). word x 29) s.s2 ∙ word-with_word b1 29 (sum_of b1 29) (omega (arith, s.k1.size))
      ∙ sum_of_same b1 b4 29 (λ i low. sym (before_sum i (omega arith)))

  second_sum : word b4 255 ≡ sum_of b4 255
  second_sum =
      ap (λ (x : List ℕ). word x 255) s.s4 ∙ word-with_word b3 255 (sum_of b3 255) (omega (arith, s.k3.size))
      ∙ sum_of_same b3 b4 255 (λ i low. sym (last i (omega arith)))

  pub is_relabelled : IsRelabelled b label b4
  is_relabelled = record {
    size = s.k4.size ∙ sym s.k0.size;
    name = range_is b4 name 14 26 (omega (arith, s.short)) (omega (arith, s.k4.size)) in_name ∙ s.padded;
    copy = range_is b4 label 472 484 (omega (arith, s.twelve)) (omega (arith, s.k4.size)) in_copy;
    first_sum = first_sum;
    second_sum = second_sum;
    others = kept;
  }

-- the home block passes as one, with the fields that it had
module _ {b label c : List ℕ} (r : IsRelabelled b label c) where
  low_word : (k : ℕ) → k < 7 → word c k ≡ word b k
  low_word k low = λ i. r.others (2 * k) (inl (omega arith)) i + 256 * r.others (2 * k + 1) (inl (omega arith)) i

  protection_word : word c 18 ≡ word b 18
  protection_word = λ i. r.others 36 (inr (inl (omega arith, omega arith))) i + 256 * r.others 37 (inr (inl (omega arith, omega arith))) i

  pub still_home : IsHome b → IsHome c
  still_home h =
      let size = low_word 0 (omega arith) in
      let files = low_word 3 (omega arith) in
      let some = h.index_bitmap_size in
      let many = h.max_files in
      record {
        index_bitmap_size = omega (arith, size, some);
        max_files = omega (arith, files, many);
        cluster = low_word 4 (omega arith) ∙ h.cluster;
        level = r.others 13 (inl (omega arith)) ∙ h.level;
        first_sum = r.first_sum;
        format = same_range b c 496 (508 - 496) r.size (λ j below. r.others (496 + j) (inr (inr (inr (omega arith, omega arith))))) ∙ h.format;
        second_sum = r.second_sum;
      }

  pub fields_kept : home_of c ≡ home_of b
  fields_kept = λ i. record {
    index_bitmap_size = low_word 0 (omega arith) i;
    index_bitmap_lbn = 65536 * low_word 1 (omega arith) i + low_word 2 (omega arith) i;
    max_files = low_word 3 (omega arith) i;
    protection = protection_word i;
  }
