-- The lines of a plain text are such as come back without a word.
use Rattle.std.proofs.Common.{◌≡◌, ◌≢◌, ℕ, zero, suc, ◌+◌, ◌-◌, ◌<◌, ◌≤◌, List, [], ◌∷◌, length, take, drop, Bool, true, false, not, refl, sym, ap, ◌∙◌, arith, inl, inr}
use Rattle.std.specs.Prelude.{◌==◌, ◌&&◌, slice_index, slice_index_or}
use Rattle.std.specs.List.{list_all, position_or_len}
use Rattle.std.specs.Str.Lines.{lines}
use Rattle.std.proofs.lemmas.Bool.{and_from, cases_lt, ne_eqb}
use Rattle.std.proofs.lemmas.List.{get_or-drop, get_or-take, get_or_default, length-drop, length-take-le, nil_from_length, take-append-drop}
use Rattle.std.proofs.lemmas.List.Folds.{list_all-append}
use Rattle.std.proofs.lemmas.List.Sums.{list_all-from_AllPass}
use Rattle.ods_records.specs.Lines.{IsLineEnd, IsPlainText, is_text_byte}
use Rattle.ods_records.specs.Survey.{is_line, is_printable}
use Rattle.ods_records.proofs.LineEnds.{is_lf, lines_first}
use Rattle.ods_records.proofs.PlainTexts.{no_cr_at_end, place_ends, strip_same}

-- what stands before the first LF is a line
front_is : (text : List ℕ) (n : ℕ) → IsLineEnd text n → slice_index (take n text) (length (take n text) - 1) ≢ 13 → is_line (take n text) ≡ true
front_is text n end other =
    let size : length (take n text) ≡ n = length-take-le n text end.within in
    and_from (list_all (λ b. not (b == 10)) (take n text)) (not (slice_index (take n text) (length (take n text) - 1) == 13))
    (list_all-from_AllPass (λ b. not (b == 10)) (take n text) (λ k d small. each k d small size))
    (ap not (ne_eqb _ _ other))
  where
    each : (k d : ℕ) → k < length (take n text) → length (take n text) ≡ n → not (slice_index_or (take n text) k d == 10) ≡ true
    each k d small size =
        let here : slice_index_or (take n text) k d ≡ slice_index text k = get_or_default (take n text) k d 0 small ∙ get_or-take n text k 0 (omega (arith, small, size)) in
        ap not (ne_eqb _ 10 (λ e. end.before k (omega (arith, small, size)) (sym here ∙ e)))

-- each line of a text that ends with LF and has no CR before one
lines_are : (fuel : ℕ) (text : List ℕ) → length text ≤ fuel → (0 < length text → slice_index text (length text - 1) ≡ 10) → ((i : ℕ) → slice_index text i ≡ 13 → slice_index text (i + 1) ≢ 10) → list_all is_line (lines text) ≡ true
lines_are zero text size ended no_cr =
    let none : text ≡ [] = nil_from_length text (omega arith) in
    rw none refl
lines_are (suc fuel) text size ended no_cr = elim (cases_lt 0 (length text)) [
  | inl some ↦
      let n : ℕ = position_or_len is_lf text in
      let end : IsLineEnd text n = place_ends text in
      let inside : n < length text = elim (cases_lt n (length text)) [ inl h ↦ h | inr past ↦ absurd (end.before (length text - 1) (omega arith) (ended some)) ] in
      let other : slice_index (take n text) (length (take n text) - 1) ≢ 13 = no_cr_at_end text n inside (end.found inside) no_cr in
      let behind : List ℕ = drop (n + 1) text in
      let left : length behind ≡ length text - (n + 1) = length-drop (n + 1) text in
      let more : list_all is_line (lines behind) ≡ true = lines_are fuel behind (omega (arith, left, inside))
      (λ some'. get_or-drop (n + 1) text (length behind - 1) 0 ∙ ap (slice_index text) (last_is (length text) (length behind) n left some') ∙ ended some)
      (λ i cr lf. no_cr (n + 1 + i) (sym (get_or-drop (n + 1) text i 0) ∙ cr) (ap (slice_index text) (next_is n i) ∙ sym (get_or-drop (n + 1) text (i + 1) 0) ∙ lf)) in
      ap (list_all is_line) (lines_first text n end inside ∙ ap (λ (l : List ℕ). l ∷ lines behind) (strip_same (take n text) other))
      ∙ and_from (is_line (take n text)) (list_all is_line (lines behind)) (front_is text n end other) more
  | inr none ↦
      let empty : text ≡ [] = nil_from_length text (omega arith) in
      rw empty refl
]
  where
    last_is : (a b n : ℕ) → b ≡ a - (n + 1) → 0 < b → n + 1 + (b - 1) ≡ a - 1
    last_is a b n e some = omega arith

    next_is : (n i : ℕ) → n + 1 + i + 1 ≡ n + 1 + (i + 1)
    next_is n i = omega arith

pub plain_lines : (text : List ℕ) → IsPlainText text → list_all is_line (lines text) ≡ true
plain_lines text plain = lines_are (length text) text (omega arith) plain.ended plain.no_cr

-- both parts of a list whose elements pass a test
and_parts : (a b : Bool) → (a && b) ≡ true → (a ≡ true) × (b ≡ true)
and_parts true true e = (refl, refl)
and_parts true false e = absurd (let wrong : false ≡ true = e in cc)
and_parts false b e = absurd (let wrong : false ≡ true = e in cc)

parts_pass : (p : ℕ → Bool) (n : ℕ) (xs : List ℕ) → list_all p xs ≡ true → (list_all p (take n xs) ≡ true) × (list_all p (drop n xs) ≡ true)
parts_pass p n xs all = and_parts (list_all p (take n xs)) (list_all p (drop n xs)) (sym (list_all-append p (take n xs) (drop n xs)) ∙ ap (list_all p) (take-append-drop n xs) ∙ all)

-- each byte of each line of a text is one of the text
printed_are : (fuel : ℕ) (text : List ℕ) → length text ≤ fuel → (0 < length text → slice_index text (length text - 1) ≡ 10) → ((i : ℕ) → slice_index text i ≡ 13 → slice_index text (i + 1) ≢ 10) → list_all is_text_byte text ≡ true
    → list_all is_printable (lines text) ≡ true
printed_are zero text size ended no_cr valid =
    let none : text ≡ [] = nil_from_length text (omega arith) in
    rw none refl
printed_are (suc fuel) text size ended no_cr valid = elim (cases_lt 0 (length text)) [
  | inl some ↦
      let n : ℕ = position_or_len is_lf text in
      let end : IsLineEnd text n = place_ends text in
      let inside : n < length text = elim (cases_lt n (length text)) [ inl h ↦ h | inr past ↦ absurd (end.before (length text - 1) (omega arith) (ended some)) ] in
      let other : slice_index (take n text) (length (take n text) - 1) ≢ 13 = no_cr_at_end text n inside (end.found inside) no_cr in
      let behind : List ℕ = drop (n + 1) text in
      let left : length behind ≡ length text - (n + 1) = length-drop (n + 1) text in
      let more : list_all is_printable (lines behind) ≡ true = printed_are fuel behind (omega (arith, left, inside))
      (λ some'. get_or-drop (n + 1) text (length behind - 1) 0 ∙ ap (slice_index text) (last_is (length text) (length behind) n left some') ∙ ended some)
      (λ i cr lf. no_cr (n + 1 + i) (sym (get_or-drop (n + 1) text i 0) ∙ cr) (ap (slice_index text) (next_is n i) ∙ sym (get_or-drop (n + 1) text (i + 1) 0) ∙ lf))
      (parts_pass is_text_byte (n + 1) text valid).1 in
      ap (list_all is_printable) (lines_first text n end inside ∙ ap (λ (l : List ℕ). l ∷ lines behind) (strip_same (take n text) other))
      ∙ and_from (is_printable (take n text)) (list_all is_printable (lines behind)) (parts_pass is_text_byte n text valid).0 more
  | inr none ↦
      let empty : text ≡ [] = nil_from_length text (omega arith) in
      rw empty refl
]
  where
    last_is : (a b n : ℕ) → b ≡ a - (n + 1) → 0 < b → n + 1 + (b - 1) ≡ a - 1
    last_is a b n e some = omega arith

    next_is : (n i : ℕ) → n + 1 + i + 1 ≡ n + 1 + (i + 1)
    next_is n i = omega arith

pub plain_printed : (text : List ℕ) → IsPlainText text → list_all is_text_byte text ≡ true → list_all is_printable (lines text) ≡ true
plain_printed text plain valid = printed_are (length text) text (omega arith) plain.ended plain.no_cr valid
