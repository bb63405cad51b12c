-- Patterns of names, and the texts that they match.
use Rattle.std.specs.Prelude.{◌≡◌, ℕ, ◌≤◌, ◌==◌, ◌&&◌, ◌||◌, nat_le, not, Bool, false, List, [], ◌∷◌, ◌++◌, length, map, count_by, ◌⊎◌}
use Rattle.std.specs.Char.{to_ascii_uppercase}
use Rattle.std.specs.List.{AllPass, list_any, ends_with}
use Rattle.std.specs.Prelude.{nat_eq}

-- the text with capital letters in place of small letters
abbrev pub capitals : List ℕ → List ℕ
capitals text = map to_ascii_uppercase text

-- a character that names have, in either case: A to Z, 0 to 9, `$`, `&`, `%`, and `_`, which is a space before a later character
abbrev pub is_name_char : ℕ → Bool
is_name_char c = (nat_le 65 c && nat_le c 90) || (nat_le 97 c && nat_le c 122) || (nat_le 48 c && nat_le c 57) || c == 36 || c == 37 || c == 38 || c == 95

-- `*` and `?`
abbrev pub is_wildcard : ℕ → Bool
is_wildcard c = c == 42 || c == 63

-- the text has a wildcard
abbrev pub has_wildcard : List ℕ → Bool
has_wildcard text = list_any is_wildcard text

-- The text is a pattern for a name or a type of at most `most` characters. A name does not end with a space, so neither does a pattern.
pub record IsPattern (most : ℕ) (text : List ℕ) : Type 0 where
  pub each : AllPass (λ c. is_name_char c || is_wildcard c) text
  pub few : count_by (λ c. not (c == 42)) text ≤ most
  pub last : ends_with nat_eq text (95 ∷ []) ≡ false

-- the texts that one character of a pattern matches: `*` any run of characters, `?` exactly one, and every other character itself
abbrev pub StandsFor : ℕ → List ℕ → Type 0
StandsFor c run = (c ≡ 42) ⊎ ((c ≡ 63) × (length run ≡ 1)) ⊎ (run ≡ c ∷ [])

-- the pattern matches the text: the text consists of consecutive runs, one for each character of the pattern, in order
abbrev pub Matches : List ℕ → List ℕ → Type 0
Matches [] text = text ≡ []
Matches (c ∷ pattern) text = (run rest : List ℕ) × (text ≡ run ++ rest) × StandsFor c run × Matches pattern rest
