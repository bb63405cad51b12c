-- A label, made character by character.
use Rattle.std.proofs.Common.{◌≡◌, ◌≢◌, ℕ, ◌+◌, ◌-◌, ◌<◌, ◌≤◌, true, List, map, length, sym, ap, ◌∙◌, inl, inr, arith, length-append, length-set}
use Rattle.std.proofs.lemmas.Bool.{and_from, cases_eq, cases_lt, le-leb}
use Rattle.std.proofs.lemmas.List.{length-map, get_or-map, ext_get_or, get_or-append_right, get_or_append_left, get_or-replicate, get_or-set_other, get_or-set_same, length-replicate}
use Rattle.std.specs.Prelude.{IsTrue, ◌==◌, if◌then◌else◌, replicate, slice_index, slice_set}
use Rattle.std.specs.List.{list_all}
use Rattle.std.specs.Char.{to_ascii_uppercase}
use Rattle.ods_init.specs.Label.{IsLabel, is_label_character, is_label_text, label_of, zero_padded}

-- the first i characters are made, spaces stand behind them
pub record IsPartOf (text own : List ℕ) (i : ℕ) : Type 0 where
  pub size : length own ≡ 12
  pub done : (j : ℕ) → j < i → slice_index own j ≡ to_ascii_uppercase (slice_index text j)
  pub left : (j : ℕ) → i ≤ j → j < 12 → slice_index own j ≡ 32

pub none_made : (text own : List ℕ) → own ≡ replicate 12 32 → IsPartOf text own 0
none_made text own e = record {
  size = ap length e ∙ length-replicate {A = ℕ} 12 32;
  done = λ j low. absurd (omega arith);
  left = λ j low below. ap (λ (l : List ℕ). slice_index l j) e ∙ get_or-replicate 12 j 32 0 below;
}

pub one_more_made : (text own new : List ℕ) (i : ℕ) → new ≡ slice_set own i (to_ascii_uppercase (slice_index text i)) → i < 12 → IsPartOf text own i → IsPartOf text new (i + 1)
one_more_made text own new i e inside old =
    let c = to_ascii_uppercase (slice_index text i) in
    let other : (j : ℕ) → j ≢ i → slice_index new j ≡ slice_index own j = λ j n. ap (λ (l : List ℕ). slice_index l j) e ∙ get_or-set_other own i j c 0 n in
    record {
      size = ap length e ∙ length-set own i c ∙ old.size;
      done = λ j low. elim (cases_eq j i) [
        | inl is ↦ ap (λ (l : List ℕ). slice_index l j) e ∙ ap (λ (k : ℕ). slice_index (slice_set own i c) k) is ∙ get_or-set_same own i c 0 (omega (arith, old.size)) ∙ ap (λ (k : ℕ). to_ascii_uppercase (slice_index text k)) (sym is)
        | inr n ↦ other j n ∙ old.done j (omega arith)
      ];
      left = λ j low below. other j (λ is. absurd (omega arith)) ∙ old.left j (omega arith) below;
    }

pub all_made : (text own : List ℕ) (i : ℕ) → length text ≤ i → i ≤ length text → length text ≤ 12 → IsPartOf text own i → own ≡ label_of text
all_made text own i done within few made =
    let n = length text in
    let upper = map to_ascii_uppercase text in
    let front : length upper ≡ n = length-map text to_ascii_uppercase in
    ext_get_or 0 own (label_of text)
    (made.size ∙ sym (length-append upper (replicate (12 - n) 32) ∙ (let rest : length (replicate (12 - n) 32) ≡ 12 - n = length-replicate {A = ℕ} (12 - n) 32 in omega (arith, front, rest))))
    (λ j below. elim (cases_lt j n) [
      | inl low ↦
          made.done j (omega arith)
          ∙ sym (get_or_append_left upper (replicate (12 - n) 32) 0 j (omega (arith, front)) ∙ get_or-map to_ascii_uppercase text j 0 0 low)
      | inr high ↦
          made.left j (omega arith) (omega (arith, made.size))
          ∙ sym (get_or-append_right upper (replicate (12 - n) 32) n j 0 front high ∙ get_or-replicate (12 - n) (j - n) 32 0 (omega (arith, made.size)))
    ])

pub text_is_good : (text : List ℕ) → 1 ≤ length text → length text ≤ 12 → list_all is_label_character text ≡ true → IsTrue (is_label_text text)
text_is_good text some few good = and_from _ _ (le-leb 1 (length text) some) (and_from _ _ (le-leb (length text) 12 few) good)

pub label_made : (text own : List ℕ) (i : ℕ) → length text ≤ i → i ≤ length text → 1 ≤ length text → length text ≤ 12 → list_all is_label_character text ≡ true → IsPartOf text own i → IsLabel own
label_made text own i done within some few good made = record { size = made.size; text = text; good = text_is_good text some few good; is = all_made text own i done within few made }

-- the characters, a zero byte for each space
pub padded_by : (text own : List ℕ) → length own ≡ length text → ((i : ℕ) → i < length text → slice_index own i ≡ (if slice_index text i == 32 then 0 else slice_index text i)) → own ≡ zero_padded text
padded_by text own size each =
    let pad : ℕ → ℕ = λ c. if c == 32 then 0 else c in
    ext_get_or 0 own (zero_padded text)
    (size ∙ sym (length-map text pad))
    (λ i below. let low : i < length text = omega (arith, size) in each i low ∙ sym (get_or-map pad text i 0 0 low))
