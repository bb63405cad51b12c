-- The codes of a part of a name, and its text.
use Rattle.std.proofs.Common.{◌≡◌, ◌≢◌, ℕ, ◌+◌, ◌-◌, ◌<◌, ◌≤◌, Bool, true, false, cond, ◌==◌, eqb, nat_lt, List, [], ◌∷◌, ◌++◌, map, length, take, drop, set, get_or, reverse, refl, sym, ap, ◌∙◌, arith}
use Rattle.std.specs.Prelude.{replicate}
use Rattle.std.specs.List.{All, suffix_len, ends_with}
use Rattle.std.proofs.lemmas.Bool.{agree_below_at, eqb-true, eq-eqb, ne_eqb, eqb-false, both_ways}
use Rattle.std.proofs.lemmas.Bool.Decides.{Decides-eqb}
use Rattle.std.proofs.lemmas.Slice.Eq.{ends_is}
use Rattle.std.proofs.lemmas.List.{take-append-drop, length-take-le, length-drop, length-map, length-replicate, length-reverse, length-set, get_or-drop, get_or-take, get_or-map, get_or-replicate, get_or-reverse, same_lists, take_more, take_more_set, take_all, map_push, drop-set-lt, drop-replicate, drop-drop, drop_more, drop_all, length-append, get_or_at}
use Rattle.std.proofs.lemmas.List.Elements.{All-head, All-tail, All-take, All-set}
use Rattle.std.proofs.lemmas.List.Sums.{suffix_len-le-length, suffix_len_is, prefix_len_passes, prefix_len_stops}
use Rattle.ods_base.specs.Name.{rad50_char}
use Rattle.ods_base.specs.NameParts.{IsPart}

-- the code of a character that has one
abbrev char_code : ℕ → ℕ
char_code c =
    cond (c == 95) 0 (cond (c == 36) 27 (cond (c == 38) 28 (cond (c == 37) 29 (cond (nat_lt c 58) (c - 18) (c - 64)))))

code_of_char : (c : ℕ) → c < 40 → char_code (rad50_char c) ≡ c
code_of_char c below = eqb-true (char_code (rad50_char c)) c (agree_below_at (λ c. char_code (rad50_char c) == c) (λ c. true) 40 c refl below)

-- one character has one code
pub same_code : (c d : ℕ) → c < 40 → d < 40 → rad50_char c ≡ rad50_char d → c ≡ d
same_code c d low small e = sym (code_of_char c low) ∙ ap char_code e ∙ code_of_char d small

same_codes : (xs ys : List ℕ) → All (λ c. c < 40) xs → All (λ c. c < 40) ys → map rad50_char xs ≡ map rad50_char ys → xs ≡ ys
same_codes [] [] a b e = refl
same_codes [] (y ∷ ys) a b e = absurd (cc)
same_codes (x ∷ xs) [] a b e = absurd (cc)
same_codes (x ∷ xs) (y ∷ ys) a b e =
    let head : x ≡ y = same_code x y (All-head (λ c. c < 40) x xs a) (All-head (λ c. c < 40) y ys b) (cc) in
    let rest : xs ≡ ys = same_codes xs ys (All-tail (λ c. c < 40) x xs a) (All-tail (λ c. c < 40) y ys b) (cc) in
    λ i. head i ∷ rest i

-- the number of spaces at the end, and the codes before them
abbrev spaces : List ℕ → ℕ
spaces cs = suffix_len (λ c. c == 0) cs

abbrev kept : List ℕ → List ℕ
kept cs = take (length cs - spaces cs) cs

spaces_fit : (cs : List ℕ) → spaces cs ≤ length cs
spaces_fit cs = suffix_len-le-length (λ c. c == 0) cs

length-kept : (cs : List ℕ) → length (kept cs) ≡ length cs - spaces cs
length-kept cs = length-take-le (length cs - spaces cs) cs (omega arith)

-- what stands behind the codes that are kept are spaces
zeros_behind : (cs : List ℕ) → drop (length cs - spaces cs) cs ≡ replicate (spaces cs) 0
zeros_behind cs =
    let few : spaces cs ≤ length cs = spaces_fit cs in
    let size : length (drop (length cs - spaces cs) cs) ≡ spaces cs = length-drop (length cs - spaces cs) cs ∙ omega arith in
    same_lists _ _ (size ∙ sym (length-replicate (spaces cs) 0)) (λ k d h.
    let below : k < spaces cs = omega (arith, size) in
    let place : length cs - 1 - (spaces cs - 1 - k) ≡ length cs - spaces cs + k = omega arith in
    let zero_there : get_or cs (length cs - spaces cs + k) d ≡ 0 =
    eqb-true _ 0 (rw (← place, ← get_or-reverse cs (spaces cs - 1 - k) d (omega arith)) (prefix_len_passes (λ c. c == 0) (reverse cs) (spaces cs - 1 - k) d (omega arith))) in
    get_or-drop (length cs - spaces cs) cs k d ∙ zero_there ∙ sym (get_or-replicate (spaces cs) k 0 d below))

split_at_spaces : (cs : List ℕ) → cs ≡ kept cs ++ replicate (spaces cs) 0
split_at_spaces cs = sym (take-append-drop (length cs - spaces cs) cs) ∙ ap (λ l. kept cs ++ l) (zeros_behind cs)

-- a part of k characters has one list of codes
pub same_part : (text : List ℕ) (k : ℕ) (cs ds : List ℕ) → IsPart text k cs → IsPart text k ds → cs ≡ ds
same_part text k cs ds a b =
    let front : kept cs ≡ kept ds = same_codes (kept cs) (kept ds) (All-take (λ c. c < 40) (length cs - spaces cs) cs a.each) (All-take (λ c. c < 40) (length ds - spaces ds) ds b.each) (sym a.spelled ∙ b.spelled) in
    let same : spaces cs ≡ spaces ds = omega (arith, a.size, b.size, spaces_fit cs, spaces_fit ds, sym (length-kept cs) ∙ ap length front ∙ length-kept ds) in
    split_at_spaces cs ∙ ap (λ l. l ++ replicate (spaces cs) 0) front ∙ ap (λ n. kept ds ++ replicate n 0) same ∙ sym (split_at_spaces ds)

length_of_part : (text : List ℕ) (k : ℕ) (cs : List ℕ) → IsPart text k cs → length text ≡ length cs - spaces cs
length_of_part text k cs part = ap length part.spelled ∙ length-map (kept cs) rad50_char ∙ length-kept cs

-- a part is no longer than its codes
pub part_fits : (text : List ℕ) (k : ℕ) (cs : List ℕ) → IsPart text k cs → length text ≤ k
part_fits text k cs part = omega (arith, part.size, length_of_part text k cs part)

-- each character of a part is that of its code
pub char_at : (text : List ℕ) (k : ℕ) (cs : List ℕ) (i : ℕ) → IsPart text k cs → i < length text → (get_or cs i 0 < 40) × (rad50_char (get_or cs i 0) ≡ get_or text i 0)
char_at text k cs i part inside =
    let below : i < length cs - spaces cs = omega (arith, length_of_part text k cs part) in
    let there : get_or text i 0 ≡ rad50_char (get_or cs i 0) =
    ap (λ l. get_or l i 0) part.spelled ∙ get_or-map rad50_char (kept cs) i 0 0 (omega (arith, length-kept cs)) ∙ ap rad50_char (get_or-take (length cs - spaces cs) cs i 0 below) in
    (part.each i 0 (omega arith), sym there)

-- a part does not end with the character of a space
pub no_space_last : (text : List ℕ) (k : ℕ) (cs : List ℕ) → IsPart text k cs → 0 < length text → get_or text (length text - 1) 0 ≢ 95
no_space_last text k cs part some e =
    let size : length text ≡ length cs - spaces cs = length_of_part text k cs part in
    let last = char_at text k cs (length text - 1) part (omega arith) in
    let is_space : get_or cs (length text - 1) 0 ≡ 0 = same_code _ 0 last.0 (omega arith) (last.1 ∙ e) in
    let place : length cs - 1 - spaces cs ≡ length text - 1 = omega arith in
    let stops : (get_or cs (length text - 1) 0 == 0) ≡ false =
    rw (← place, ← get_or-reverse cs (spaces cs) 0 (omega arith)) (prefix_len_stops (λ c. c == 0) (reverse cs) 0 (omega (arith, length-reverse cs))) in
    eqb-false _ 0 stops is_space

-- the first i codes are those of the first i characters, and spaces stand behind them
pub record AreCodes (part : List ℕ) (i k : ℕ) (cs : List ℕ) : Type 0 where
  pub size : length cs ≡ k
  pub each : All (λ c. c < 40) cs
  pub spelled : map rad50_char (take i cs) ≡ take i part
  pub behind : drop i cs ≡ replicate (k - i) 0

-- one more character
pub one_more_code : (part : List ℕ) (i k : ℕ) (cs : List ℕ) (c : ℕ) → AreCodes part i k cs → i < k → i < length part → c < 40 → rad50_char c ≡ get_or part i 0 → AreCodes part (i + 1) k (set cs i c)
one_more_code part i k cs c codes below inside small e = record {
  size = length-set cs i c ∙ codes.size;
  each = All-set (λ c. c < 40) cs i c small codes.each;
  spelled =
      ap (map rad50_char) (take_more_set cs i c (omega (arith, codes.size))) ∙ map_push rad50_char (take i cs) c
      ∙ ap (λ l. l ++ rad50_char c ∷ []) codes.spelled ∙ ap (λ x. take i part ++ x ∷ []) e ∙ sym (take_more part i 0 inside);
  behind = drop-set-lt (i + 1) cs i c (omega arith) ∙ sym (drop-drop 1 i cs) ∙ ap (drop 1) codes.behind ∙ drop-replicate 1 (k - i) 0 ∙ ap (λ n. replicate n 0) (omega arith);
}

-- after the last character
pub all_codes : (part : List ℕ) (k : ℕ) (cs : List ℕ) → AreCodes part (length part) k cs → length part ≤ k → (0 < length part → get_or part (length part - 1) 0 ≢ 95) → IsPart part k cs
all_codes part k cs codes fits last =
    let n = length part in
    let whole : map rad50_char (take n cs) ≡ part = codes.spelled ∙ take_all n part (omega arith) in
    let space_at : (i : ℕ) → n ≤ i → i < length cs → get_or cs i 0 ≡ 0 = λ i low high.
    ap (λ j. get_or cs j 0) (omega arith) ∙ sym (get_or-drop n cs (i - n) 0) ∙ ap (λ l. get_or l (i - n) 0) codes.behind ∙ get_or-replicate (k - n) (i - n) 0 0 (omega (arith, codes.size)) in
    let char_last : 0 < n → get_or part (n - 1) 0 ≡ rad50_char (get_or cs (n - 1) 0) = λ some.
    ap (λ l. get_or l (n - 1) 0) (sym whole) ∙ get_or-map rad50_char (take n cs) (n - 1) 0 0 (omega (arith, length-take-le n cs (omega (arith, codes.size)), codes.size)) ∙ ap rad50_char (get_or-take n cs (n - 1) 0 (omega arith)) in
    let count : spaces cs ≡ length cs - n = suffix_len_is (λ c. c == 0) cs n 0 (omega (arith, codes.size)) (λ i low high. eq-eqb _ 0 (space_at i low high)) (λ some. ne_eqb _ 0 (λ e. last some (char_last some ∙ ap rad50_char e))) in
    record { size = codes.size; each = codes.each; spelled = sym whole ∙ ap (λ m. map rad50_char (take m cs)) (omega (arith, count, codes.size)) }

-- what `ends_with` answers for the character of a space
pub ends_with_space : (text : List ℕ) (r : Bool) → r ≡ ends_with eqb text (95 ∷ []) → r ≡ true → (0 < length text) × (get_or text (length text - 1) 0 ≡ 95)
ends_with_space text r e ends =
    let whole : text ≡ take (length text - 1) text ++ 95 ∷ [] = (ends_is Decides-eqb text (95 ∷ []) r e).0 ends in
    let some : 0 < length text = omega (arith, ap length whole ∙ length-append (take (length text - 1) text) (95 ∷ [])) in
    (some, ap (λ l. get_or l (length text - 1) 0) whole ∙ get_or_at (take (length text - 1) text) 95 [] 0 (length text - 1) (length-take-le (length text - 1) text (omega arith)))

-- and what it answers for any other
pub ends_without_space : (text : List ℕ) (r : Bool) → r ≡ ends_with eqb text (95 ∷ []) → r ≡ false → 0 < length text → get_or text (length text - 1) 0 ≢ 95
ends_without_space text r e other some last =
    let rest : drop (length text - 1) text ≡ 95 ∷ [] =
    drop_more text (length text - 1) 0 (omega arith) ∙ ap (λ c. c ∷ drop (length text - 1 + 1) text) last ∙ ap (λ l. 95 ∷ l) (drop_all (length text - 1 + 1) text (omega arith)) in
    let whole : text ≡ take (length text - 1) text ++ 95 ∷ [] = sym (take-append-drop (length text - 1) text) ∙ ap (λ l. take (length text - 1) text ++ l) rest in
    both_ways r other ((ends_is Decides-eqb text (95 ∷ []) r e).1 (take (length text - 1) text) whole)
