-- Users, by group and member.
use Rattle.std.specs.Prelude.{◌≡◌, ℕ, List, [], ◌∷◌, ◌++◌}
use Rattle.ods_text.specs.Numbers.{IsOctal}
use Rattle.ods_text.specs.Cuts.{IsPair}

-- g,m: group and member in octal, with a comma between them
abbrev pub IsUser : List ℕ → ℕ × ℕ → Type 0
IsUser text x = IsPair 44 IsOctal IsOctal text x

-- [g,m]: a user in brackets
abbrev pub IsUserInBrackets : List ℕ → ℕ × ℕ → Type 0
IsUserInBrackets text x = (inner : List ℕ) × (text ≡ 91 ∷ (inner ++ 93 ∷ [])) × IsUser inner x
