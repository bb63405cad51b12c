-- The words of a line, a character on and at its end.
use Rattle.std.proofs.Common.{◌≡◌, ◌∙◌, ℕ, List, [], ◌∷◌, ◌++◌, map, true, Option, Some, None, option_map, append_assoc, refl, ap, sym}
use Rattle.std.proofs.lemmas.List.{append-nil, map-append}
use Rattle.std.specs.Str.{chars}
use Rattle.fs_words.specs.declared.line.Stand.{Stand}
use Rattle.fs_words.specs.declared.line.Stand.TheVariants as stand
use Rattle.fs_words.specs.Lines.{is_blank, with_front, words_from, words_in}

-- no word stands in front
pub front_nil : (words : Option (List (List ℕ))) → with_front [] words ≡ words
front_nil None = refl
front_nil (Some ws) = refl

-- a word more in front
pub front_more : (front : List (List ℕ)) (word : List ℕ) (words : Option (List (List ℕ))) → with_front front (option_map (λ (ws : List (List ℕ)). word ∷ ws) words) ≡ with_front (front ++ word ∷ []) words
front_more front word None = refl
front_more front word (Some ws) = ap Some (sym (append_assoc front (word ∷ []) ws))

-- at the start
pub begun : {A : Type 0} (f : A → List ℕ) (rest : List ℕ) (items : List A) (word : List ℕ) → items ≡ [] → word ≡ [] → words_from stand.Between [] rest ≡ with_front (map f items) (words_from stand.Between word rest)
begun f rest items word i w = rw (i, w) (sym (front_nil (words_from stand.Between [] rest)))

-- a blank ends a word
pub ended_word : {A : Type 0} (f : A → List ℕ) (letter : ℕ) (rest : List ℕ) (olds news : List A) (done : A) (word next : List ℕ) → is_blank letter ≡ true → news ≡ olds ++ done ∷ [] → f done ≡ word → next ≡ []
    → with_front (map f olds) (words_from stand.Within word (letter ∷ rest)) ≡ with_front (map f news) (words_from stand.Between next rest)
ended_word f letter rest olds news done word next b e d n = rw (b, e, map-append f olds (done ∷ []), d, n) (front_more (map f olds) word (words_from stand.Between [] rest))

-- the whole line is read
pub read_all : {A : Type 0} (f : A → List ℕ) (line letters : List ℕ) (items : List A) (s : Stand) (word : List ℕ) → letters ≡ chars line → ((rest : List ℕ) → words_from stand.Between [] (letters ++ rest) ≡ with_front (map f items) (words_from s word rest))
    → words_in line ≡ with_front (map f items) (words_from s word [])
read_all f line letters items s word whole read = ap (λ (xs : List ℕ). words_from stand.Between [] xs) (sym whole ∙ sym (append-nil letters)) ∙ read []

pub ended_between : {A : Type 0} (f : A → List ℕ) (line letters : List ℕ) (items : List A) (s : Stand) (word : List ℕ) → letters ≡ chars line → ((rest : List ℕ) → words_from stand.Between [] (letters ++ rest) ≡ with_front (map f items) (words_from s word rest))
    → s ≡ stand.Between → words_in line ≡ Some (map f items)
ended_between f line letters items s word whole read is = read_all f line letters items s word whole read ∙ rw is (ap Some (append-nil (map f items)))

pub ended_remark : {A : Type 0} (f : A → List ℕ) (line letters : List ℕ) (items : List A) (s : Stand) (word : List ℕ) → letters ≡ chars line → ((rest : List ℕ) → words_from stand.Between [] (letters ++ rest) ≡ with_front (map f items) (words_from s word rest))
    → s ≡ stand.Remark → words_in line ≡ Some (map f items)
ended_remark f line letters items s word whole read is = read_all f line letters items s word whole read ∙ rw is (ap Some (append-nil (map f items)))

pub ended_within : {A : Type 0} (f : A → List ℕ) (line letters : List ℕ) (items news : List A) (last : A) (s : Stand) (word : List ℕ) → letters ≡ chars line → ((rest : List ℕ) → words_from stand.Between [] (letters ++ rest) ≡ with_front (map f items) (words_from s word rest))
    → s ≡ stand.Within → news ≡ items ++ last ∷ [] → f last ≡ word → words_in line ≡ Some (map f news)
ended_within f line letters items news last s word whole read is e d = read_all f line letters items s word whole read ∙ rw (is, e, map-append f items (last ∷ []), d) refl

pub ended_quoted : {A : Type 0} (f : A → List ℕ) (line letters : List ℕ) (items : List A) (s : Stand) (word : List ℕ) (quote : ℕ) → letters ≡ chars line → ((rest : List ℕ) → words_from stand.Between [] (letters ++ rest) ≡ with_front (map f items) (words_from s word rest))
    → s ≡ stand.Quoted quote → words_in line ≡ None
ended_quoted f line letters items s word quote whole read is = read_all f line letters items s word whole read ∙ rw is refl
