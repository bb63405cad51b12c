-- How a word specifies the protection of a file.
use Rattle.std.specs.Prelude.{◌≡◌, ◌≤◌, ◌<◌, ◌+◌, ◌/◌, ◌%◌, ◌==◌, ◌⊎◌, ℕ, List, [], ◌∷◌, ◌++◌, length}
use Rattle.std.specs.List.{All, count_by}
use Rattle.std.specs.Char.{to_ascii_uppercase}
use Rattle.ods_text.specs.Cuts.{IsPair}
use Rattle.ods_text.specs.Numbers.{octal_value}

-- how often a letter is in a text, in either case
abbrev pub times : ℕ → List ℕ → ℕ
times letter text = count_by (λ c. to_ascii_uppercase c == letter) text

-- The rights of a class: the letter of each right occurs once if its bit is clear, and not at all if the bit is set. The letters are in any order,
-- and no other character is among them.
pub record AreRights (text : List ℕ) (denied : ℕ) : Type 0 where
  pub low : denied < 16
  pub read : times 82 text + denied % 2 ≡ 1
  pub write : times 87 text + denied / 2 % 2 ≡ 1
  pub extend : times 69 text + denied / 4 % 2 ≡ 1
  pub delete : times 68 text + denied / 8 % 2 ≡ 1
  pub no_other : times 82 text + times 87 text + times 69 text + times 68 text ≡ length text

-- the rights of two, three and four classes, with commas between them
abbrev pub AreTwo : List ℕ → ℕ × ℕ → Type 0
AreTwo text x = IsPair 44 AreRights AreRights text x

abbrev pub AreThree : List ℕ → ℕ × (ℕ × ℕ) → Type 0
AreThree text x = IsPair 44 AreRights AreTwo text x

abbrev pub AreFour : List ℕ → ℕ × (ℕ × (ℕ × ℕ)) → Type 0
AreFour text x = IsPair 44 AreRights AreThree text x

-- the rights of the system, the owner, the group and the world, each with four bits of the word
abbrev pub AreClasses : List ℕ → ℕ → Type 0
AreClasses text protection = AreFour text (protection % 16, (protection / 16 % 16, (protection / 256 % 16, protection / 4096)))

-- octal digits
abbrev pub AreOctal : List ℕ → Type 0
AreOctal text = All (λ c. (48 ≤ c) × (c ≤ 55)) text

-- six octal digits, of a value at most 177777
pub record IsSixDigits (text : List ℕ) (protection : ℕ) : Type 0 where
  pub six : length text ≡ 6
  pub digits : AreOctal text
  pub low : protection ≤ 65535
  pub value : octal_value 0 text ≡ protection

-- the rights of the classes in brackets, or six octal digits
abbrev pub IsProtection : List ℕ → ℕ → Type 0
IsProtection text protection = ((inner : List ℕ) × (text ≡ 91 ∷ (inner ++ 93 ∷ [])) × AreClasses inner protection) ⊎ IsSixDigits text protection

-- a text specifies at most one word
abbrev pub IsOneAtMost : Type 0
IsOneAtMost = (text : List ℕ) (a b : ℕ) → IsProtection text a → IsProtection text b → a ≡ b
