-- Two entries of one directory with the same name and version, for which a path is ambiguous.
use Rattle.std.specs.Prelude.{◌≡◌, ℕ, ◌+◌, List, Some, slice_get}
use Rattle.ods_shell.specs.declared.found.EntryPlace.{EntryPlace}
use Rattle.ods_shell.specs.declared.found.Found.{Found}

-- two found files are entries of one directory, with the same name and version
pub record AreTwins (a b : Found) : Type 0 where
  pub one : EntryPlace
  pub other : EntryPlace
  pub first : a.place ≡ Some one
  pub second : b.place ≡ Some other
  pub directory : one.directory ≡ other.directory
  pub name : one.entry.name ≡ other.entry.name
  pub version : one.entry.version ≡ other.entry.version

-- twins are at this index and the next one
pub record StandsTwice (found : List Found) (i : ℕ) : Type 0 where
  pub a : Found
  pub b : Found
  pub here : slice_get found i ≡ Some a
  pub next : slice_get found (i + 1) ≡ Some b
  pub twins : AreTwins a b

-- Two consecutive files are twins. In the order of a listing, entries with the same name are consecutive.
abbrev pub HaveTwins : List Found → Type 0
HaveTwins found = (i : ℕ) × StandsTwice found i
