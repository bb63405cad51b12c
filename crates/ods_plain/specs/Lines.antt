-- The names of a directory as a list of lines, in the order of their keys.
use Rattle.std.specs.Prelude.{ℕ, suc, Bool, T, ◌==◌, List, [], ◌∷◌, map, length, max, min, if◌then◌else◌, IsTrue, Option, Some, None}
use Rattle.std.specs.List.{list_all, filter}
use Rattle.std.specs.Ordering.{nat_cmp, is_lt}
use Rattle.std.specs.Cmp.Lexicographic.{slice_cmp}
use Rattle.std.specs.FinMap as names
use Rattle.ods_base.specs.declared.file_id.FileId.{FileId}
use Rattle.ods_base.specs.declared.listed.Listed.{Listed}
use Rattle.ods_base.specs.Name.{RadName, key_of}
use Rattle.ods_base.specs.Names.{NameMap, is_of, version_of}

-- the key and the file of a line
abbrev pub entry_of : Listed → List ℕ × FileId
entry_of l = (key_of l.name l.version, l.file)

-- the keys and the files of all lines
abbrev pub entries_of : List Listed → List (List ℕ × FileId)
entries_of = map entry_of

-- the directory that has these lines
abbrev pub names_in : List Listed → NameMap
names_in ls = names.from_sorted (entries_of ls)

-- a name has three words
abbrev pub is_named : Listed → Bool
is_named l = length l.name.words == 3

-- the invariant of each list of lines of the program
pub record AreLines (ls : List Listed) : Type 0 where
  pub rising : T (names.is_sorted (slice_cmp nat_cmp) (entries_of ls))
  pub named : IsTrue (list_all is_named ls)

-- the versions of a name
abbrev pub versions_in : List Listed → RadName → List ℕ
versions_in ls n = map version_of (filter (is_of n) (map (λ e. e.0) (entries_of ls)))

-- the higher one of a version and the highest so far
abbrev pub higher_of : Option ℕ → ℕ → ℕ
higher_of None v = v
higher_of (Some w) v = max w v

-- the lower one of a version and the lowest so far
abbrev pub lower_of : Option ℕ → ℕ → ℕ
lower_of None v = v
lower_of (Some w) v = min w v

-- the index for a key: before the first line with a higher key
abbrev pub gap_for : List ℕ → List Listed → ℕ
gap_for k [] = 0
gap_for k (l ∷ ls) = if is_lt (slice_cmp nat_cmp k (key_of l.name l.version)) then 0 else suc (gap_for k ls)
