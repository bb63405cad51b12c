-- The storage control block, word by word.
use Rattle.std.proofs.Common.{◌≡◌, ℕ, ◌+◌, ◌*◌, ◌/◌, ◌%◌, ◌<◌, ◌≤◌, List, length, refl, sym, ap, subst, ◌∙◌, inl, inr, arith}
use Rattle.std.proofs.lemmas.Bool.{cases_lt}
use Rattle.ods_base.specs.Block.{IsBlock, byte, word, with_word, zeros}
use Rattle.ods_base.proofs.Blocks.{byte-with_word_before, byte-zeros, word-with_word}
use Rattle.ods_header.specs.Writing.{AreZeros}
use Rattle.ods_init.specs.declared.places.Places.{Places}
use Rattle.ods_init.specs.Blocks.{IsControlBlock, counted, first_in, free_in}
use Rattle.ods_init.proofs.HomeBuilt.{byte-with_word_behind}

-- the first i blocks of the bitmap are counted
pub record AreCounted (total : ℕ) (P : Places) (b : List ℕ) (i : ℕ) : Type 0 where
  pub block : IsBlock b
  pub count : byte b 3 ≡ P.map_blocks % 256
  pub free : (k : ℕ) → k < i → word b (2 + 2 * k) ≡ free_in total P (4096 * k)
  pub first : (k : ℕ) → k < i → word b (3 + 2 * k) ≡ first_in P (4096 * k)
  pub before : AreZeros b 0 3
  pub behind : AreZeros b (4 + 4 * i) 512

-- a byte before two words that are set, and one behind them
byte_before : (b c d : List ℕ) (at x y i : ℕ) → c ≡ with_word b at x → d ≡ with_word c (at + 1) y → i < 2 * at → byte d i ≡ byte b i
byte_before b c d at x y i e g low =
    ap (λ (l : List ℕ). byte l i) g ∙ byte-with_word_before c (at + 1) y i (omega arith) ∙ ap (λ (l : List ℕ). byte l i) e ∙ byte-with_word_before b at x i low

byte_behind : (b c d : List ℕ) (at x y i : ℕ) → c ≡ with_word b at x → d ≡ with_word c (at + 1) y → 2 * at + 4 ≤ i → byte d i ≡ byte b i
byte_behind b c d at x y i e g high =
    ap (λ (l : List ℕ). byte l i) g ∙ byte-with_word_behind c (at + 1) y i (omega arith) ∙ ap (λ (l : List ℕ). byte l i) e ∙ byte-with_word_behind b at x i (omega arith)

-- a word before two that are set
word_kept : (b c d : List ℕ) (at x y k : ℕ) → c ≡ with_word b at x → d ≡ with_word c (at + 1) y → k < at → word d k ≡ word b k
word_kept b c d at x y k e g low =
    let one : (i : ℕ) → i < 2 * at → byte d i ≡ byte b i = λ i below.
    ap (λ (l : List ℕ). byte l i) g ∙ byte-with_word_before c (at + 1) y i (omega arith) ∙ ap (λ (l : List ℕ). byte l i) e ∙ byte-with_word_before b at x i below in
    let lower = one (2 * k) (omega arith) in
    let upper = one (2 * k + 1) (omega arith) in
    rw (lower, upper) refl

first_word : (b c d : List ℕ) (at x y : ℕ) → length b ≡ 512 → at < 255 → c ≡ with_word b at x → d ≡ with_word c (at + 1) y → word d at ≡ x
first_word b c d at x y size low e g =
    let one : (i : ℕ) → i < 2 * (at + 1) → byte d i ≡ byte c i = λ i below. ap (λ (l : List ℕ). byte l i) g ∙ byte-with_word_before c (at + 1) y i below in
    let lower = one (2 * at) (omega arith) in
    let upper = one (2 * at + 1) (omega arith) in
    let same : word d at ≡ word c at = rw (lower, upper) refl in
    same ∙ ap (λ (l : List ℕ). word l at) e ∙ word-with_word b at x (omega arith)

second_word : (c d : List ℕ) (at y : ℕ) → length c ≡ 512 → at < 255 → d ≡ with_word c (at + 1) y → word d (at + 1) ≡ y
second_word c d at y size low g = ap (λ (l : List ℕ). word l (at + 1)) g ∙ word-with_word c (at + 1) y (omega arith)

-- no block is counted
pub none_counted : (total : ℕ) (P : Places) (b c : List ℕ) (x : ℕ) → b ≡ zeros → IsBlock b → IsBlock c → c ≡ with_word b 1 x → x ≡ 256 * (P.map_blocks % 256) → AreCounted total P c 0
none_counted total P b c x zero old block e is =
    let whole : word c 1 ≡ x = ap (λ (l : List ℕ). word l 1) e ∙ word-with_word b 1 x (omega (arith, old.size)) in
    let low : byte c 2 < 256 = block.bytes 2 in
    record {
      block = block;
      count = omega arith;
      free = λ k below. absurd (omega arith);
      first = λ k below. absurd (omega arith);
      before = λ k from below. elim (cases_lt k 2) [
        | inl lower ↦ ap (λ (l : List ℕ). byte l k) e ∙ byte-with_word_before b 1 x k (omega arith) ∙ ap (λ (l : List ℕ). byte l k) zero ∙ byte-zeros k
        | inr here ↦ ap (λ (j : ℕ). byte c j) (let two : k ≡ 2 = omega arith in two) ∙ (let none : byte c 2 ≡ 0 = omega arith in none)
      ];
      behind = λ k from below. ap (λ (l : List ℕ). byte l k) e ∙ byte-with_word_behind b 1 x k (omega arith) ∙ ap (λ (l : List ℕ). byte l k) zero ∙ byte-zeros k;
    }

-- one more
pub one_more_counted : (total : ℕ) (P : Places) (b c d : List ℕ) (i x y : ℕ) → i < 126 → IsBlock c → IsBlock d → c ≡ with_word b (2 + 2 * i) x → d ≡ with_word c (3 + 2 * i) y → x ≡ free_in total P (4096 * i) → y ≡ first_in P (4096 * i) → AreCounted total P b i → AreCounted total P d (i + 1)
one_more_counted total P b c d i x y few mid block e g is_x is_y old =
    let h : d ≡ with_word c (2 + 2 * i + 1) y = g ∙ ap (λ (n : ℕ). with_word c n y) (omega arith) in
    let behind : 2 + 2 * i + 1 ≡ 3 + 2 * i = omega arith in
    let kept : (k : ℕ) → k < 2 + 2 * i → word d k ≡ word b k = λ k low. word_kept b c d (2 + 2 * i) x y k e h low in
    record {
      block = block;
      count =
          ap (λ (l : List ℕ). byte l 3) g ∙ byte-with_word_before c (3 + 2 * i) y 3 (omega arith) ∙ ap (λ (l : List ℕ). byte l 3) e
          ∙ byte-with_word_before b (2 + 2 * i) x 3 (omega arith) ∙ old.count;
      free = λ k below. elim (cases_lt k i) [
        | inl low ↦ kept (2 + 2 * k) (omega arith) ∙ old.free k low
        | inr high ↦
            let here : i ≡ k = omega arith in
            ap (λ (n : ℕ). word d (2 + 2 * n)) (sym here) ∙ first_word b c d (2 + 2 * i) x y old.block.size (omega arith) e h ∙ is_x ∙ ap (λ (n : ℕ). free_in total P (4096 * n)) here
      ];
      first = λ k below. elim (cases_lt k i) [
        | inl low ↦ kept (3 + 2 * k) (omega arith) ∙ old.first k low
        | inr high ↦
            let here : i ≡ k = omega arith in
            ap (λ (n : ℕ). word d (3 + 2 * n)) (sym here) ∙ ap (λ (n : ℕ). word d n) (sym behind) ∙ second_word c d (2 + 2 * i) y mid.size (omega arith) h ∙ is_y ∙ ap (λ (n : ℕ). first_in P (4096 * n)) here
      ];
      before = λ k from below. byte_before b c d (2 + 2 * i) x y k e h (omega arith) ∙ old.before k from below;
      behind = λ k from below. byte_behind b c d (2 + 2 * i) x y k e h (omega arith) ∙ old.behind k (omega arith) below;
    }

-- and the size of the volume behind them
pub all_counted : (total : ℕ) (P : Places) (b c d : List ℕ) (i n x y : ℕ) → n ≡ counted P.map_blocks → n ≤ 126 → i ≡ n → IsBlock c → c ≡ with_word b (2 + 2 * n) x → d ≡ with_word c (2 + 2 * n + 1) y → x ≡ total / 65536 → y ≡ total % 65536 → AreCounted total P b i → IsControlBlock total P d
all_counted total P b c d i n x y is few last mid e g is_x is_y old =
    let kept : (k : ℕ) → k < 2 + 2 * n → word d k ≡ word b k = λ k low. word_kept b c d (2 + 2 * n) x y k e g low in
    let high = first_word b c d (2 + 2 * n) x y old.block.size (omega arith) e g in
    let behind : 2 + 2 * n + 1 ≡ 3 + 2 * n = omega arith in
    let low : word d (3 + 2 * n) ≡ y = ap (λ (k : ℕ). word d k) (sym behind) ∙ second_word c d (2 + 2 * n) y mid.size (omega arith) g in
    let whole : 65536 * word d (2 + 2 * n) + word d (3 + 2 * n) ≡ total = omega (arith, high, low, is_x, is_y) in
    record {
      count =
          ap (λ (l : List ℕ). byte l 3) g ∙ byte-with_word_before c (2 + 2 * n + 1) y 3 (omega arith) ∙ ap (λ (l : List ℕ). byte l 3) e
          ∙ byte-with_word_before b (2 + 2 * n) x 3 (omega arith) ∙ old.count;
      free = λ k below. kept (2 + 2 * k) (omega (arith, is)) ∙ old.free k (omega (arith, is));
      first = λ k below. kept (3 + 2 * k) (omega (arith, is)) ∙ old.first k (omega (arith, is));
      size = subst (λ (m : ℕ). 65536 * word d (2 + 2 * m) + word d (3 + 2 * m) ≡ total) is whole;
      before = λ k from below. byte_before b c d (2 + 2 * n) x y k e g (omega arith) ∙ old.before k from below;
      behind = λ k from below.
          let high_enough : 8 + 4 * n ≤ k = subst (λ (m : ℕ). 8 + 4 * m ≤ k) (sym is) from in
          byte_behind b c d (2 + 2 * n) x y k e g (omega arith) ∙ old.behind k (omega arith) below;
    }
