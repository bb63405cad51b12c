-- Labels of volumes: 12 characters.
use Rattle.std.specs.Prelude.{◌≡◌, IsTrue, ℕ, ◌-◌, Bool, ◌&&◌, ◌||◌, ◌==◌, nat_le, if◌then◌else◌, List, ◌++◌, map, length, replicate}
use Rattle.std.specs.List.{list_all}
use Rattle.std.specs.Char.{to_ascii_uppercase, is_ascii_alphanumeric}

-- a character that is valid in a label
abbrev pub is_label_character : ℕ → Bool
is_label_character c = is_ascii_alphanumeric c || (c == 46)

-- a text that is a label: 1 to 12 letters, digits and dots
abbrev pub is_label_text : List ℕ → Bool
is_label_text text = nat_le 1 (length text) && (nat_le (length text) 12 && list_all is_label_character text)

-- its characters as capitals, and spaces up to 12
abbrev pub label_of : List ℕ → List ℕ
label_of text = map to_ascii_uppercase text ++ replicate (12 - length text) 32

-- the label with zero bytes in place of its trailing spaces; no other character is a space
abbrev pub zero_padded : List ℕ → List ℕ
zero_padded label = map (λ c. if c == 32 then 0 else c) label

-- each label has 12 characters, and is the label of some text
pub record IsLabel (label : List ℕ) : Type 0 where
  pub size : length label ≡ 12
  pub text : List ℕ
  pub good : IsTrue (is_label_text text)
  pub is : label ≡ label_of text
