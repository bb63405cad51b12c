-- The lines of a directory that the patterns of a path match, in any version.
use Rattle.std.specs.Prelude.{◌≡◌, ℕ, List, Option, Some, None}
use Rattle.ods_base.specs.Name.{RadName, IsName, title, type_text}
use Rattle.ods_base.specs.declared.listed.Listed.{Listed}
use Rattle.ods_space.specs.Layout.{VolumeLayout}
use Rattle.ods_paths.specs.Paths.{Files}
use Rattle.ods_paths.specs.Patterns.{Matches}
use Rattle.ods_shell.specs.Choosing.{AreThose, IsMatched}
use Rattle.ods_shell.specs.Found.{AreLinesOf}
use Rattle.ods_walk.specs.Listing.{AreEntries}

-- the patterns match the name and the type of the line
abbrev pub IsMatchedLine : Files → Listed → Type 0
IsMatchedLine files e = IsMatched files e.name

-- exactly the lines of directory n that the patterns match, in their order
abbrev pub AreMatchedIn : List (List ℕ) → VolumeLayout → Files → ℕ → List Listed → Type 0
AreMatchedIn I L files n those = (lines : List Listed) × AreLinesOf I L n lines × AreThose (IsMatchedLine files) lines those

-- A title that this pattern matches has the words of this name. None implies nothing.
abbrev pub HasTitle : List ℕ → Option RadName → Type 0
HasTitle pattern None = Unit {0}
HasTitle pattern (Some one) = (n : RadName) → IsName n → Matches pattern (title n) → n.words ≡ one.words

-- A type that this pattern matches has the word of this name's type. None implies nothing.
abbrev pub HasType : List ℕ → Option RadName → Type 0
HasType pattern None = Unit {0}
HasType pattern (Some one) = (n : RadName) → IsName n → Matches pattern (type_text n) → n.ext ≡ one.ext

-- A name that the patterns match is this one. None implies nothing.
abbrev pub IsOnly : Files → Option RadName → Type 0
IsOnly files None = Unit {0}
IsOnly files (Some one) = (n : RadName) → IsName n → IsMatched files n → n ≡ one

-- These lines include all entries of directory n that the patterns match: the matching ones among them are exactly the matching ones of all
-- entries.
abbrev pub AreLikely : List (List ℕ) → VolumeLayout → Files → ℕ → List Listed → Type 0
AreLikely I L files n likely =
    (entries : List Listed) × AreEntries I L n entries × ((those : List Listed) → AreThose (IsMatchedLine files) likely those → AreThose (IsMatchedLine files) entries those)
