-- The names that occur in several versions among some files.
use Rattle.std.specs.Prelude.{◌≡◌, ◌≢◌, ◌==◌, ℕ, Bool, true, false, not, if◌then◌else◌, List, [], ◌∷◌, Option, Some, None}
use Rattle.std.specs.List.{Contains}
use Rattle.std.specs.Ordering.{nat_cmp}
use Rattle.std.specs.Cmp.Lexicographic.{slice_cmp}
use Rattle.std.specs.BTreeMap.{is_at}
use Rattle.std.specs.Map.{lookup}
use Rattle.ods_shell.specs.declared.found.EntryPlace.{EntryPlace}
use Rattle.ods_shell.specs.declared.found.Found.{Found}

-- the key of a name in a directory: the number of the directory's file, the word of the type, and the three words of the name; zeros if a path selects
-- the file by its ID
abbrev pub name_key : Option EntryPlace → List ℕ
name_key None = 0 ∷ 0 ∷ 0 ∷ 0 ∷ 0 ∷ []
name_key (Some place) = place.directory.number ∷ place.entry.name.ext ∷ place.entry.name.words

-- the version of an entry; 0 if a path selects the file by its ID
abbrev pub version_at : Option EntryPlace → ℕ
version_at None = 0
version_at (Some place) = place.entry.version

-- the known names: each with its single version, or with the note that it has several
abbrev pub Known : Type 0
Known = List (List ℕ × Option ℕ)

-- the fact that is known for a name
abbrev pub known_of : Known → List ℕ → Option (Option ℕ)
known_of known key = lookup (is_at (slice_cmp nat_cmp key)) known

-- these files have a name in no version, in only this version, or in several versions
abbrev pub IsKnownOf : List Found → List ℕ → Option (Option ℕ) → Type 0
IsKnownOf files key None = (f : Found) → Contains files f → name_key f.place ≢ key
IsKnownOf files key (Some (Some version)) =
    ((f : Found) × Contains files f × (name_key f.place ≡ key) × (version_at f.place ≡ version))
    × ((f : Found) → Contains files f → name_key f.place ≡ key → version_at f.place ≡ version)
IsKnownOf files key (Some None) =
    (f : Found) × (g : Found) × Contains files f × Contains files g × (name_key f.place ≡ key) × (name_key g.place ≡ key) × (version_at f.place ≢ version_at g.place)

-- this holds for each name
abbrev pub AreKnownOf : List Found → Known → Type 0
AreKnownOf files known = (key : List ℕ) → IsKnownOf files key (known_of known key)

-- the fact for a name after this version is added
abbrev pub joined : Option (Option ℕ) → ℕ → Option ℕ
joined None version = Some version
joined (Some None) version = None
joined (Some (Some one)) version = if one == version then Some one else None

-- one more file has this name and this version
pub record IsJoined (old : Known) (key : List ℕ) (version : ℕ) (new : Known) : Type 0 where
  pub here : known_of new key ≡ Some (joined (known_of old key) version)
  pub others : (other : List ℕ) → other ≢ key → known_of new other ≡ known_of old other

-- by the fact for its name, another version than this one is present
abbrev pub is_other : Option (Option ℕ) → ℕ → Bool
is_other None version = false
is_other (Some None) version = true
is_other (Some (Some one)) version = not (one == version)

-- the name of an entry occurs in its directory among these files in another version
abbrev pub HasOther : List Found → Option EntryPlace → Type 0
HasOther files place = (f : Found) × Contains files f × (name_key f.place ≡ name_key place) × (version_at f.place ≢ version_at place)
