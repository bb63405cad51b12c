-- The words of a line of a file of commands.
use Rattle.std.specs.Prelude.{ℕ, Bool, ◌==◌, ◌||◌, if◌then◌else◌, List, [], ◌∷◌, ◌++◌, Option, Some, None, option_map, encode_utf8}
use Rattle.std.specs.Str.{chars}
use Rattle.fs_words.specs.declared.line.Stand.{Stand}
use Rattle.fs_words.specs.declared.line.Stand.TheVariants as stand

-- a space or a tab
abbrev pub is_blank : ℕ → Bool
is_blank c = (c == 32) || (c == 9)

-- ' or "
abbrev pub is_quote : ℕ → Bool
is_quote c = (c == 39) || (c == 34)

-- where the characters after one of a word are: a quote holds together the text up to the next quote of its kind
abbrev pub behind_letter : ℕ → Stand
behind_letter c = if is_quote c then stand.Quoted c else stand.Within

-- what a character adds to a word: a quote nothing
abbrev pub letter_text : ℕ → List ℕ
letter_text c = if is_quote c then [] else encode_utf8 c

-- The words in the rest of a line, after the part of a word that is read. Blanks separate words, and # between words begins a comment. There are none
-- if a quote stays open.
abbrev pub words_from : Stand → List ℕ → List ℕ → Option (List (List ℕ))
words_from stand.Between word [] = Some []
words_from stand.Remark word [] = Some []
words_from stand.Within word [] = Some (word ∷ [])
words_from (stand.Quoted quote) word [] = None
words_from stand.Between word (c ∷ rest) = if c == 35 then words_from stand.Remark word rest else (if is_blank c then words_from stand.Between word rest else words_from (behind_letter c) (word ++ letter_text c) rest)
words_from stand.Remark word (c ∷ rest) = words_from stand.Remark word rest
words_from stand.Within word (c ∷ rest) = if is_blank c then option_map (λ (ws : List (List ℕ)). word ∷ ws) (words_from stand.Between [] rest) else words_from (behind_letter c) (word ++ letter_text c) rest
words_from (stand.Quoted quote) word (c ∷ rest) = if c == quote then words_from stand.Within word rest else words_from (stand.Quoted quote) (word ++ encode_utf8 c) rest

-- the words of a line
abbrev pub words_in : List ℕ → Option (List (List ℕ))
words_in line = words_from stand.Between [] (chars line)

-- these words, and the words after them
abbrev pub with_front : List (List ℕ) → Option (List (List ℕ)) → Option (List (List ℕ))
with_front front words = option_map (λ (ws : List (List ℕ)). front ++ ws) words
