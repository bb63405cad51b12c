-- The lines of a directory, from its entries.
use Rattle.std.specs.Prelude.{◌≡◌, ◌≢◌, ℕ, ◌+◌, ◌<◌, List, Option, Some, None, slice_get, if◌then◌else◌}
use Rattle.std.specs.List.{filter_map}
use Rattle.std.specs.Cmp.Lexicographic.{slice_cmp}
use Rattle.std.specs.List.Sorted.{IsSortedByKey}
use Rattle.std.specs.Ordering.{nat_cmp}
use Rattle.ods_base.specs.Name.{key_of}
use Rattle.ods_base.specs.Names.{name_of, version_of}
use Rattle.ods_base.specs.declared.listed.Listed.{Listed}
use Rattle.ods_directory.specs.Entry.{Entry, is_good}

-- the line of an entry
abbrev pub line_of : Entry → Listed
line_of e = record { name = name_of e.key; version = version_of e.key; file = e.file }

-- the key by which lines are sorted
abbrev pub line_key : Listed → List ℕ
line_key line = key_of line.name line.version

-- the keys of these elements never decrease
abbrev pub IsInOrder : {X : Type 0} → (X → List ℕ) → List X → Type 0
IsInOrder key xs = IsSortedByKey key (slice_cmp nat_cmp) xs

-- two neighbours have the same key
pub record HasTwinNeighbours {X : Type 0} (key : X → List ℕ) (xs : List X) : Type 0 where
  pub at : ℕ
  pub one : X
  pub other : X
  pub first : slice_get xs at ≡ Some one
  pub second : slice_get xs (at + 1) ≡ Some other
  pub same : key one ≡ key other

-- no two neighbours among the first n have the same key
abbrev pub HasNoTwinNeighbours : {X : Type 0} → (X → List ℕ) → List X → ℕ → Type 0
HasNoTwinNeighbours key xs n = (k : ℕ) → k + 1 < n → (one other : _) → slice_get xs k ≡ Some one → slice_get xs (k + 1) ≡ Some other → key one ≢ key other

-- the line of a valid entry
abbrev pub good_line : Entry → Option Listed
good_line e = if is_good e then Some (line_of e) else None

-- the lines of the valid entries among these, in their order
abbrev pub good_lines : List Entry → List Listed
good_lines es = filter_map good_line es
