-- How often each name was seen, by the key of the name.
use Rattle.std.specs.Prelude.{◌≡◌, ◌≢◌, ◌+◌, ℕ, List, min, unwrap_or}
use Rattle.std.specs.Ordering.{nat_cmp}
use Rattle.std.specs.Cmp.Lexicographic.{slice_cmp}
use Rattle.std.specs.BTreeMap.{is_at}
use Rattle.std.specs.Map.{lookup}
use Rattle.ods_shell.specs.declared.found.Found.{Found}
use Rattle.ods_upkeep.specs.Purged.{count_named}

-- a count for each name
abbrev pub NameCounts : Type 0
NameCounts = List (List ℕ × ℕ)

-- the greatest count
abbrev pub most : ℕ
most = 4294967295

abbrev pub count_in : NameCounts → List ℕ → ℕ
count_in counts name = unwrap_or (lookup (is_at (slice_cmp nat_cmp name)) counts) 0

-- one more is counted for this name
pub record IsCountedAlso (old : NameCounts) (name : List ℕ) (new : NameCounts) : Type 0 where
  pub here : count_in new name ≡ min (count_in old name + 1) most
  pub others : (other : List ℕ) → other ≢ name → count_in new other ≡ count_in old other

-- these were counted
abbrev pub AreCounted : NameCounts → List Found → Type 0
AreCounted counts found = (name : List ℕ) → count_in counts name ≡ min (count_named name found) most
