-- What each step of reading records of one size, or a stream, keeps true.
use Rattle.std.proofs.Common.{◌≡◌, ℕ, ◌+◌, ◌<◌, ◌≤◌, Bool, true, false, cond, List, [], ◌∷◌, ◌++◌, length, take, drop, get_or, drop-cons, add-one, refl, sym, ap, ◌∙◌, subst, arith, append_assoc}
use Rattle.std.specs.Prelude.{◌&&◌, ◌==◌}
use Rattle.std.specs.List.{flat_map}
use Rattle.std.proofs.lemmas.List.{append-nil, get_or-drop}
use Rattle.std.proofs.lemmas.Grind.{flat_map-append}
use Rattle.std.proofs.Math.ListN.{drop_of_length-le}
use Rattle.ods_records.specs.Records.{text_of}
use Rattle.ods_records.specs.Sized.{next_line, LinesFrom, without_cr}

-- the text so far is that of some lines, and the lines from this place on go behind them
pub record HasLines (blocked : Bool) (size : ℕ) (bytes : List ℕ) (at : ℕ) (text : List ℕ) : Type 0 where
  pub lines : List (List ℕ)
  pub so_far : text ≡ text_of lines
  pub goes_on : (rest : List (List ℕ)) → LinesFrom blocked size bytes at rest → LinesFrom blocked size bytes 0 (lines ++ rest)

pub lines_none : (blocked : Bool) (size : ℕ) (bytes : List ℕ) → HasLines blocked size bytes 0 []
lines_none blocked size bytes = record { lines = []; so_far = refl; goes_on = λ rest from. from }

pub lines_more : (blocked : Bool) (size : ℕ) (bytes : List ℕ) (at : ℕ) (text line more : List ℕ) (next : ℕ) → HasLines blocked size bytes at text → at < length bytes → line ≡ take size (drop at bytes) → next ≡ next_line blocked size at
    → more ≡ (text ++ line) ++ 10 ∷ [] → HasLines blocked size bytes next more
lines_more blocked size bytes at text line more next so inside is behind e = record {
  lines = so.lines ++ line ∷ [];
  so_far =
      e ∙ append_assoc text line (10 ∷ []) ∙ ap (λ (t : List ℕ). t ++ (line ++ 10 ∷ [])) so.so_far
      ∙ sym (flat_map-append (λ (l : List ℕ). l ++ 10 ∷ []) so.lines (line ∷ []) ∙ ap (λ (t : List ℕ). text_of so.lines ++ t) (append-nil (line ++ 10 ∷ [])));
  goes_on = λ rest from.
      subst (LinesFrom blocked size bytes 0) (sym (append_assoc so.lines (line ∷ []) rest))
      (so.goes_on (line ∷ rest) (inside, is, subst (λ (n : ℕ). LinesFrom blocked size bytes n rest) behind from));
}

pub lines_all : (blocked : Bool) (size : ℕ) (bytes : List ℕ) (at : ℕ) (text : List ℕ) → HasLines blocked size bytes at text → length bytes ≤ at → (lines : List (List ℕ)) × LinesFrom blocked size bytes 0 lines × (text ≡ text_of lines)
lines_all blocked size bytes at text so past = (so.lines, subst (LinesFrom blocked size bytes 0) (append-nil so.lines) (so.goes_on [] past), so.so_far)

-- what is left of a stream at a byte
left_at : (bytes : List ℕ) (at : ℕ) → at < length bytes → without_cr (drop at bytes) ≡ cond ((get_or bytes at 0 == 13) && (get_or bytes (at + 1) 0 == 10)) (without_cr (drop (at + 1) bytes)) (get_or bytes at 0 ∷ without_cr (drop (at + 1) bytes))
left_at bytes at inside =
    ap without_cr (drop-cons bytes at 0 inside ∙ ap (λ (k : ℕ). get_or bytes at 0 ∷ drop k bytes) (sym (add-one at)))
    ∙ ap (λ (b : ℕ). cond ((get_or bytes at 0 == 13) && (b == 10)) (without_cr (drop (at + 1) bytes)) (get_or bytes at 0 ∷ without_cr (drop (at + 1) bytes))) (get_or-drop (at + 1) bytes 0 0 ∙ ap (λ (k : ℕ). get_or bytes k 0) (omega arith))
