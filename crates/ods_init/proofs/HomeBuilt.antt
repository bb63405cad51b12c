-- The home block, by the steps that make it.
use Rattle.std.proofs.Common.{◌≡◌, ℕ, ◌+◌, ◌*◌, ◌/◌, ◌%◌, ◌<◌, ◌≤◌, List, length, drop, Option, None, Some, refl, sym, ap, ◌∙◌, arith}
use Rattle.std.proofs.lemmas.List.{get_or-drop, get_or-set_other}
use Rattle.std.specs.Prelude.{codes, slice_range, slice_set}
use Rattle.ods_base.specs.Block.{IsBlock, byte, word, sum_of, with_bytes, with_word, zeros}
use Rattle.ods_base.proofs.Blocks.{byte-with_bytes, byte-with_bytes_before, byte-with_bytes_behind, byte-with_word_before, byte-zeros, word-with_word, sum_of_same}
use Rattle.ods_header.proofs.Ranges.{range_is}
use Rattle.ods_init.specs.declared.home.HomeText.{HomeText}
use Rattle.ods_init.specs.declared.blueprint.Details.{Details}
use Rattle.ods_init.specs.declared.blueprint.Blueprint.{Blueprint}
use Rattle.ods_init.specs.HomeBytes.{front_bytes, home_text, text_of}
use Rattle.ods_init.specs.Blocks.{IsNewHome, protection}

-- what the home block says has its places, the protection of new files among it, and the name of the format at its end
pub record IsWhole (T : HomeText) : Type 0 where
  pub name : length T.name ≡ 12
  pub middle : length T.middle ≡ 28
  pub stamp : length T.stamp ≡ 13
  pub label : length T.label ≡ 12
  pub end : length T.end ≡ 24
  pub low : byte T.middle 6 ≡ 0
  pub high : byte T.middle 7 ≡ 224
  pub format : drop 12 T.end ≡ codes "DECFILE11A  "

pub text_is_whole : (W : Blueprint) (T : HomeText) → T ≡ home_text W → length T.name ≡ 12 → length T.stamp ≡ 13 → length T.label ≡ 12 → IsWhole T
text_is_whole W T is name stamp label = by W.details is
  where
    whole : (S : HomeText) → T ≡ S → length S.middle ≡ 28 → length S.end ≡ 24 → byte S.middle 6 ≡ 0 → byte S.middle 7 ≡ 224 → drop 12 S.end ≡ codes "DECFILE11A  " → IsWhole T
    whole S e middle end low high format = record {
      name = name;
      middle = ap (λ (t : HomeText). length t.middle) e ∙ middle;
      stamp = stamp;
      label = label;
      end = ap (λ (t : HomeText). length t.end) e ∙ end;
      low = ap (λ (t : HomeText). byte t.middle 6) e ∙ low;
      high = ap (λ (t : HomeText). byte t.middle 7) e ∙ high;
      format = ap (λ (t : HomeText). drop 12 t.end) e ∙ format;
    }

    by : (d : Option Details) → T ≡ text_of d W.owner → IsWhole T
    by None e = whole _ e refl refl refl refl refl
    by (Some d) e = whole _ e refl refl refl refl refl

-- the steps: each block from the one before it
pub record AreHomeSteps (T : HomeText) (size files : ℕ) (b0 b1 b2 b3 b4 b5 b6 b7 : List ℕ) (first second : ℕ) : Type 0 where
  pub s0 : b0 ≡ with_bytes zeros 0 (front_bytes size files)
  pub s1 : b1 ≡ with_bytes b0 14 T.name
  pub s2 : b2 ≡ with_bytes b1 30 T.middle
  pub one : first ≡ sum_of b2 29
  pub s3 : b3 ≡ with_word b2 29 first
  pub s4 : b4 ≡ with_bytes b3 60 T.stamp
  pub s5 : b5 ≡ with_bytes b4 472 T.label
  pub s6 : b6 ≡ with_bytes b5 484 T.end
  pub two : second ≡ sum_of b6 255
  pub s7 : b7 ≡ with_word b6 255 second
  pub k0 : IsBlock b0
  pub k1 : IsBlock b1
  pub k2 : IsBlock b2
  pub k3 : IsBlock b3
  pub k4 : IsBlock b4
  pub k5 : IsBlock b5
  pub k6 : IsBlock b6
  pub k7 : IsBlock b7
  pub whole : IsWhole T

-- a byte behind a word that is set
pub byte-with_word_behind : (b : List ℕ) (k w i : ℕ) → 2 * k + 2 ≤ i → byte (with_word b k w) i ≡ byte b i
byte-with_word_behind b k w i above =
    get_or-set_other (slice_set b (2 * k) (w % 256)) (2 * k + 1) i (w / 256) 0 (λ e. absurd (omega arith)) ∙ get_or-set_other b (2 * k) i (w % 256) 0 (λ e. absurd (omega arith))

at : (b c : List ℕ) (i : ℕ) → c ≡ b → byte c i ≡ byte b i
at b c i e = ap (λ (x : List ℕ). byte x i) e

module _ {T : HomeText} {size files : ℕ} {b0 b1 b2 b3 b4 b5 b6 b7 : List ℕ} {first second : ℕ} (s : AreHomeSteps T size files b0 b1 b2 b3 b4 b5 b6 b7 first second) where
  last : (i : ℕ) → i < 510 → byte b7 i ≡ byte b6 i
  last i low = at _ b7 i s.s7 ∙ byte-with_word_before b6 255 second i (omega arith)

  before_end : (i : ℕ) → i < 484 → byte b7 i ≡ byte b5 i
  before_end i low = last i (omega arith) ∙ at _ b6 i s.s6 ∙ byte-with_bytes_before b5 T.end 484 i (omega (arith, s.k5.size)) low

  before_label : (i : ℕ) → i < 472 → byte b7 i ≡ byte b4 i
  before_label i low = before_end i (omega arith) ∙ at _ b5 i s.s5 ∙ byte-with_bytes_before b4 T.label 472 i (omega (arith, s.k4.size)) low

  before_stamp : (i : ℕ) → i < 60 → byte b7 i ≡ byte b3 i
  before_stamp i low = before_label i (omega arith) ∙ at _ b4 i s.s4 ∙ byte-with_bytes_before b3 T.stamp 60 i (omega (arith, s.k3.size)) low

  before_sum : (i : ℕ) → i < 58 → byte b7 i ≡ byte b2 i
  before_sum i low = before_stamp i (omega arith) ∙ at _ b3 i s.s3 ∙ byte-with_word_before b2 29 first i (omega arith)

  in_middle : (i j : ℕ) → i ≡ 30 + j → j < 28 → byte b7 i ≡ byte T.middle j
  in_middle i j e low = before_sum i (omega arith) ∙ at _ b2 i s.s2 ∙ byte-with_bytes b1 T.middle 30 i j (omega (arith, s.k1.size)) e (omega (arith, low, s.whole.middle))

  in_front : (i : ℕ) → i < 14 → byte b7 i ≡ byte (front_bytes size files) i
  in_front i low =
      before_sum i (omega arith)
      ∙ at _ b2 i s.s2 ∙ byte-with_bytes_before b1 T.middle 30 i (omega (arith, s.k1.size)) (omega arith)
      ∙ at _ b1 i s.s1 ∙ byte-with_bytes_before b0 T.name 14 i (omega (arith, s.k0.size)) low
      ∙ at _ b0 i s.s0 ∙ byte-with_bytes zeros (front_bytes size files) 0 i i (omega arith) (omega arith) low

  in_name : (j : ℕ) → j < length T.name → byte b7 (14 + j) ≡ byte T.name j
  in_name j low =
      let few : j < 12 = omega (arith, s.whole.name) in
      before_sum (14 + j) (omega arith)
      ∙ at _ b2 (14 + j) s.s2 ∙ byte-with_bytes_before b1 T.middle 30 (14 + j) (omega (arith, s.k1.size)) (omega arith)
      ∙ at _ b1 (14 + j) s.s1 ∙ byte-with_bytes b0 T.name 14 (14 + j) j (omega (arith, s.k0.size)) (omega arith) low

  in_label_again : (j : ℕ) → j < length T.label → byte b7 (472 + j) ≡ byte T.label j
  in_label_again j low =
      let few : j < 12 = omega (arith, s.whole.label) in
      before_end (472 + j) (omega arith) ∙ at _ b5 (472 + j) s.s5 ∙ byte-with_bytes b4 T.label 472 (472 + j) j (omega (arith, s.k4.size)) (omega arith) low

  in_stamp : (j : ℕ) → j < length T.stamp → byte b7 (60 + j) ≡ byte T.stamp j
  in_stamp j low =
      let few : j < 13 = omega (arith, s.whole.stamp) in
      before_label (60 + j) (omega arith) ∙ at _ b4 (60 + j) s.s4 ∙ byte-with_bytes b3 T.stamp 60 (60 + j) j (omega (arith, s.k3.size)) (omega arith) low

  in_end : (j : ℕ) → j < 24 → byte b7 (484 + j) ≡ byte T.end j
  in_end j low = last (484 + j) (omega arith) ∙ at _ b6 (484 + j) s.s6 ∙ byte-with_bytes b5 T.end 484 (484 + j) j (omega (arith, s.k5.size)) (omega arith) (omega (arith, low, s.whole.end))

  -- the bytes that no step writes
  zero_front : (i : ℕ) → 14 ≤ i → byte b0 i ≡ 0
  zero_front i high = at _ b0 i s.s0 ∙ byte-with_bytes_behind zeros (front_bytes size files) 0 i (omega arith) (omega arith) ∙ byte-zeros i

  zero_label : (i : ℕ) → 26 ≤ i → byte b1 i ≡ 0
  zero_label i high = at _ b1 i s.s1 ∙ byte-with_bytes_behind b0 T.name 14 i (omega (arith, s.k0.size)) (omega (arith, s.whole.name)) ∙ zero_front i (omega arith)

  zero_behind_label : (i : ℕ) → 26 ≤ i → i < 30 → byte b7 i ≡ 0
  zero_behind_label i high low =
      before_sum i (omega arith) ∙ at _ b2 i s.s2 ∙ byte-with_bytes_before b1 T.middle 30 i (omega (arith, s.k1.size)) low ∙ zero_label i high

  zero_stamp : (i : ℕ) → 73 ≤ i → byte b4 i ≡ 0
  zero_stamp i high =
      at _ b4 i s.s4 ∙ byte-with_bytes_behind b3 T.stamp 60 i (omega (arith, s.k3.size)) (omega (arith, s.whole.stamp))
      ∙ at _ b3 i s.s3 ∙ byte-with_word_behind b2 29 first i (omega arith)
      ∙ at _ b2 i s.s2 ∙ byte-with_bytes_behind b1 T.middle 30 i (omega (arith, s.k1.size)) (omega (arith, high, s.whole.middle)) ∙ zero_label i (omega arith)

  zero_behind_stamp : (i : ℕ) → 73 ≤ i → i < 472 → byte b7 i ≡ 0
  zero_behind_stamp i high low = before_label i low ∙ zero_stamp i high

  zero_behind_end : (i : ℕ) → 508 ≤ i → i < 510 → byte b7 i ≡ 0
  zero_behind_end i high low =
      last i low ∙ at _ b6 i s.s6 ∙ byte-with_bytes_behind b5 T.end 484 i (omega (arith, s.k5.size)) (omega (arith, high, s.whole.end))
      ∙ at _ b5 i s.s5 ∙ byte-with_bytes_behind b4 T.label 472 i (omega (arith, s.k4.size)) (omega (arith, s.whole.label)) ∙ zero_stamp i (omega arith)

  -- the name of the format
  format_is : slice_range b7 496 508 ≡ codes "DECFILE11A  "
  format_is = range_is b7 (codes "DECFILE11A  ") 496 508 refl (omega (arith, s.k7.size)) (λ j low.
      let same : 496 + j ≡ 484 + (12 + j) = omega arith in
      ap (λ (i : ℕ). byte b7 i) same ∙ in_end (12 + j) (omega (arith, low)) ∙ sym (get_or-drop 12 T.end j 0) ∙ ap (λ (xs : List ℕ). byte xs j) s.whole.format)

  word_in : (k x y : ℕ) → byte b7 (2 * k) ≡ x → byte b7 (2 * k + 1) ≡ y → word b7 k ≡ x + 256 * y
  word_in k x y low high = rw (low, high) refl

  ibsz : word b7 0 ≡ size
  ibsz = word_in 0 (size % 256) (size / 256) (in_front 0 (omega arith)) (in_front 1 (omega arith)) ∙ omega arith

  fmax : word b7 3 ≡ files
  fmax = word_in 3 (files % 256) (files / 256) (in_front 6 (omega arith)) (in_front 7 (omega arith)) ∙ omega arith

  high_lbn : word b7 1 ≡ 0
  high_lbn = word_in 1 0 0 (in_front 2 (omega arith)) (in_front 3 (omega arith))

  low_lbn : word b7 2 ≡ 2
  low_lbn = word_in 2 2 0 (in_front 4 (omega arith)) (in_front 5 (omega arith))

  dfpr : word b7 18 ≡ protection
  dfpr = word_in 18 0 224 (in_middle 36 6 (omega arith) (omega arith) ∙ s.whole.low) (in_middle 37 7 (omega arith) (omega arith) ∙ s.whole.high)

  first_sum : word b7 29 ≡ sum_of b7 29
  first_sum =
      let low = before_stamp 58 (omega arith) in
      let high = before_stamp 59 (omega arith) in
      word_in 29 _ _ low high ∙ ap (λ (x : List ℕ). word x 29) s.s3 ∙ word-with_word b2 29 first (omega (arith, s.k2.size))
      ∙ s.one ∙ sum_of_same b2 b7 29 (λ i low. sym (before_sum i (omega arith)))

  second_sum : word b7 255 ≡ sum_of b7 255
  second_sum =
      ap (λ (x : List ℕ). word x 255) s.s7 ∙ word-with_word b6 255 second (omega (arith, s.k6.size))
      ∙ s.two ∙ sum_of_same b6 b7 255 (λ i low. sym (last i (omega arith)))

  -- it is the home block of the volume
  pub home_is : (W : Blueprint) → 1 ≤ size → 1 ≤ files → size ≡ W.places.index_bitmap_size → files ≡ W.places.most_files → T ≡ home_text W → IsNewHome W b7
  home_is W some many es ef is = record {
    home = record {
      index_bitmap_size = omega (arith, ibsz, some);
      max_files = omega (arith, fmax, many);
      cluster = word_in 4 1 0 (in_front 8 (omega arith)) (in_front 9 (omega arith));
      level = in_front 13 (omega arith);
      first_sum = first_sum;
      format = format_is;
      second_sum = second_sum;
    };
    fields = λ i. record {
      index_bitmap_size = (ibsz ∙ es) i;
      index_bitmap_lbn = 65536 * high_lbn i + low_lbn i;
      max_files = (fmax ∙ ef) i;
      protection = dfpr i;
    };
    label = range_is b7 T.name 14 26 (omega (arith, s.whole.name)) (omega (arith, s.k7.size)) in_name ∙ ap (λ (t : HomeText). t.name) is;
    label_again = range_is b7 T.label 472 484 (omega (arith, s.whole.label)) (omega (arith, s.k7.size)) in_label_again ∙ ap (λ (t : HomeText). t.label) is;
    front =
        range_is b7 (front_bytes size files) 0 14 refl (omega (arith, s.k7.size)) (λ j low. let same : 0 + j ≡ j = omega arith in ap (λ (i : ℕ). byte b7 i) same ∙ in_front j low)
        ∙ ap (λ (n : ℕ). front_bytes n files) es ∙ ap (λ (n : ℕ). front_bytes W.places.index_bitmap_size n) ef;
    middle = range_is b7 T.middle 30 58 (omega (arith, s.whole.middle)) (omega (arith, s.k7.size)) (λ j low. in_middle (30 + j) j refl (omega (arith, low, s.whole.middle))) ∙ ap (λ (t : HomeText). t.middle) is;
    end = range_is b7 T.end 484 508 (omega (arith, s.whole.end)) (omega (arith, s.k7.size)) (λ j low. in_end j (omega (arith, low, s.whole.end))) ∙ ap (λ (t : HomeText). t.end) is;
    rest = (zero_behind_label, zero_behind_stamp, zero_behind_end);
    stamp = range_is b7 T.stamp 60 73 (omega (arith, s.whole.stamp)) (omega (arith, s.k7.size)) in_stamp ∙ ap (λ (t : HomeText). t.stamp) is;
  }
