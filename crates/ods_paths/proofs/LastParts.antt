-- The last of the parts of a text, as the last separator tells it.
use Rattle.std.proofs.Common.{◌≡◌, ◌+◌, ◌-◌, ◌<◌, ◌≤◌, ◌∙◌, refl, sym, ap, ℕ, Bool, true, false, cond, inl, inr, List, [], ◌∷◌, ◌++◌, length, take, drop, reverse, get_or, arith}
use Rattle.std.specs.Prelude.{not}
use Rattle.std.specs.List.{All, after_last, before_last, onto_first, position_or_len, slice_split, suffix_len}
use Rattle.std.proofs.lemmas.Bool.{cases_lt}
use Rattle.std.proofs.lemmas.List.{drop_more, get_or-drop, get_or-reverse, length-drop, length-reverse, take-append-drop}
use Rattle.std.proofs.lemmas.List.Splits.{slice_split_none, slice_split-cons_no, slice_split-cons_yes}
use Rattle.std.proofs.lemmas.List.Sums.{fails_before_first, passes_at_first, prefix_len_passes, prefix_len_stops, suffix_len-le-length}
use Rattle.ods_text.specs.Cuts.{Has, is}

-- a part is put before the first of some, where there is one
onto_more : {X : Type 0} (x : X) (parts more : List (List X)) → 0 < length parts → onto_first x (parts ++ more) ≡ onto_first x parts ++ more
onto_more x [] more some = absurd (omega arith)
onto_more x (part ∷ parts) more some = refl

some_by : {X : Type 0} (x : X) (b : Bool) (parts : List (List X)) → 0 < length (cond b ([] ∷ parts) (onto_first x parts))
some_by x true parts = omega arith
some_by x false [] = omega arith
some_by x false (part ∷ parts) = omega arith

some_parts : {X : Type 0} (p : X → Bool) (xs : List X) → 0 < length (slice_split p xs)
some_parts p [] = omega arith
some_parts p (x ∷ xs) = some_by x (p x) (slice_split p xs)

-- behind the last element that passes stands the last part
split_last : {X : Type 0} (p : X → Bool) (front : List X) (x : X) (last : List X) → p x ≡ true → All (λ y. p y ≡ false) last → slice_split p (front ++ x ∷ last) ≡ slice_split p front ++ last ∷ []
split_last p [] x last passes none = slice_split-cons_yes p x last passes ∙ ap (λ l. [] ∷ l) (slice_split_none p last none)
split_last p (y ∷ front) x last passes none = by (p y) refl (split_last p front x last passes none)
  where
    by : (b : Bool) → p y ≡ b → slice_split p (front ++ x ∷ last) ≡ slice_split p front ++ last ∷ [] → slice_split p (y ∷ front ++ x ∷ last) ≡ slice_split p (y ∷ front) ++ last ∷ []
    by true e rest = slice_split-cons_yes p y (front ++ x ∷ last) e ∙ ap (λ l. [] ∷ l) rest ∙ ap (λ l. l ++ last ∷ []) (sym (slice_split-cons_yes p y front e))
    by false e rest =
        slice_split-cons_no p y (front ++ x ∷ last) e ∙ ap (onto_first y) rest ∙ onto_more y (slice_split p front) (last ∷ []) (some_parts p front)
        ∙ ap (λ l. l ++ last ∷ []) (sym (slice_split-cons_no p y front e))

not_true : (b : Bool) → not b ≡ true → b ≡ false
not_true true e = absurd (cc)
not_true false e = refl

not_false : (b : Bool) → not b ≡ false → b ≡ true
not_false true e = refl
not_false false e = absurd (cc)

-- how many characters stand behind the last separator
abbrev behind : ℕ → List ℕ → ℕ
behind c text = suffix_len (λ b. not (is c b)) text

-- none of them is one
none_behind : (c : ℕ) (text : List ℕ) (k d : ℕ) → length text - behind c text ≤ k → k < length text → is c (get_or text k d) ≡ false
none_behind c text k d low high =
    let within = suffix_len-le-length (λ b. not (is c b)) text in
    let back : length text - 1 - (length text - 1 - k) ≡ k = omega arith in
    let passed = prefix_len_passes (λ b. not (is c b)) (reverse text) (length text - 1 - k) d (omega arith) in
    let there = get_or-reverse text (length text - 1 - k) d (omega arith) ∙ ap (λ n. get_or text n d) back in
    not_true (is c (get_or text k d)) (ap (λ b. not (is c b)) (sym there) ∙ passed)

-- a separator stands before them, where there is one
some_before : (c : ℕ) (text : List ℕ) → Has c text → behind c text < length text
some_before c text has = elim (cases_lt (behind c text) (length text)) [
  | inl less ↦ less
  | inr all ↦ (
      let none = none_behind c text (position_or_len (is c) text) 0 (omega arith) has in
      let clash : false ≡ true = sym none ∙ passes_at_first (is c) text 0 has in
      absurd (cc))
]

separates : (c : ℕ) (text : List ℕ) → behind c text < length text → is c (get_or text (length text - behind c text - 1) 0) ≡ true
separates c text less =
    let stopped = prefix_len_stops (λ b. not (is c b)) (reverse text) 0 (omega (arith, length-reverse text)) in
    let same : length text - 1 - behind c text ≡ length text - behind c text - 1 = omega arith in
    let there = get_or-reverse text (behind c text) 0 less ∙ ap (λ n. get_or text n 0) same in
    not_false (is c (get_or text (length text - behind c text - 1) 0)) (ap (λ b. not (is c b)) (sym there) ∙ stopped)

-- the text is what stands before the last separator, it, and what stands behind it
cut_there : (c : ℕ) (text : List ℕ) → Has c text → text ≡ before_last (is c) text ++ get_or text (length text - behind c text - 1) 0 ∷ after_last (is c) text
cut_there c text has =
    let less = some_before c text has in
    let n = length text - behind c text - 1 in
    let on : n + 1 ≡ length text - behind c text = omega arith in
    sym (take-append-drop n text) ∙ ap (λ l. take n text ++ l) (drop_more text n 0 (omega arith)) ∙ ap (λ m. take n text ++ get_or text n 0 ∷ drop m text) on

-- so its parts are those of what stands before, and what stands behind
pub parts_of : (c : ℕ) (text : List ℕ) → Has c text → slice_split (is c) text ≡ slice_split (is c) (before_last (is c) text) ++ after_last (is c) text ∷ []
parts_of c text has =
    let less = some_before c text has in
    let none : All (λ b. is c b ≡ false) (after_last (is c) text) = λ k d small.
    (let n = length text - behind c text in
    let within : n + k < length text = omega (arith, small, length-drop n text) in
    ap (is c) (get_or-drop n text k d) ∙ none_behind c text (n + k) d (omega arith) within) in
    ap (slice_split (is c)) (cut_there c text has) ∙ split_last (is c) (before_last (is c) text) _ (after_last (is c) text) (separates c text less) none

-- without a separator it is the one part
pub one_part : (c : ℕ) (text : List ℕ) → ¬ Has c text → slice_split (is c) text ≡ text ∷ []
one_part c text none = slice_split_none (is c) text (λ k d small. fails_before_first (is c) text k d (omega (arith, none, small)))
