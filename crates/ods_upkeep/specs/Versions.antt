-- The highest version of each name in a directory, and the version that comes next.
use Rattle.std.specs.Prelude.{◌≡◌, ◌≢◌, ◌≤◌, ◌+◌, ℕ, List, ◌∷◌, Option, Some, None, max, min, unwrap_or}
use Rattle.std.specs.List.{Contains}
use Rattle.std.specs.Ordering.{nat_cmp}
use Rattle.std.specs.Cmp.Lexicographic.{slice_cmp}
use Rattle.std.specs.BTreeMap.{is_at}
use Rattle.std.specs.Map.{lookup}
use Rattle.ods_base.specs.Name.{RadName}
use Rattle.ods_base.specs.declared.listed.Listed.{Listed}
use Rattle.ods_space.specs.Layout.{VolumeLayout}
use Rattle.ods_shell.specs.Found.{AreLinesOf}

-- the key that decides whether two names are one: the type word, and the three name words
abbrev pub key_of : RadName → List ℕ
key_of name = name.ext ∷ name.words

-- the known facts of names: a version for each key
abbrev pub Noted : Type 0
Noted = List (List ℕ × ℕ)

-- the version that is known of a name
abbrev pub version_in : Noted → RadName → Option ℕ
version_in noted name = lookup (is_at (slice_cmp nat_cmp (key_of name))) noted

-- the highest version that these entries have of a name; none if no entry has it
abbrev pub IsHighestOf : List Listed → RadName → Option ℕ → Type 0
IsHighestOf entries name None = (e : Listed) → Contains entries e → e.name ≢ name
IsHighestOf entries name (Some version) =
    ((e : Listed) × Contains entries e × (e.name ≡ name) × (e.version ≡ version)) × ((e : Listed) → Contains entries e → e.name ≡ name → e.version ≤ version)

-- for each name the highest version that these entries have of it
abbrev pub AreHighestOf : List Listed → (RadName → Option ℕ) → Type 0
AreHighestOf entries highest = (name : RadName) → IsHighestOf entries name (highest name)

-- for each name the highest version that directory n has of it; none if n is not a directory
abbrev pub AreHighest : List (List ℕ) → VolumeLayout → ℕ → Noted → Type 0
AreHighest I L n noted = (entries : List Listed) × AreLinesOf I L n entries × AreHighestOf entries (version_in noted)

-- one entry more has this name and this version
pub record IsNoted (old : Noted) (name : RadName) (version : ℕ) (new : Noted) : Type 0 where
  pub here : version_in new name ≡ Some (max (unwrap_or (version_in old name) 0) version)
  pub others : (other : RadName) → other ≢ name → version_in new other ≡ version_in old other

-- the version after the highest one, which a word can hold; 1 if there is none
abbrev pub behind : Option ℕ → ℕ
behind None = 1
behind (Some version) = min (version + 1) 65535
