-- The notes while the names of a directory receive new versions: the highest version of each name, and the keys so far.
use Rattle.std.specs.Prelude.{◌≡◌, ◌≢◌, ◌⊎◌, ℕ, ◌<◌, ◌≤◌, List, Option, Some, None}
use Rattle.std.specs.Ordering.{nat_cmp}
use Rattle.std.specs.Cmp.Lexicographic.{slice_cmp}
use Rattle.std.specs.BTreeMap.{is_at}
use Rattle.std.specs.Map.{lookup}
use Rattle.ods_directory.specs.Entry.{Entry}
use Rattle.ods_repair.specs.Doubled.{IsKeptOr, IsUsed, name_part, version_part}

-- keys, each with a number
abbrev pub Numbers : Type 0
Numbers = List (List ℕ × ℕ)

-- the number of a key
abbrev pub number_in : Numbers → List ℕ → Option ℕ
number_in noted key = lookup (is_at (slice_cmp nat_cmp key)) noted

-- the number of a key is at least this
abbrev pub IsAtLeast : Option ℕ → ℕ → Type 0
IsAtLeast o v = (h : ℕ) × (o ≡ Some h) × (v ≤ h)

-- one key receives this number, and the others keep theirs
pub record Sets (old : List ℕ → Option ℕ) (key : List ℕ) (v : ℕ) (new : List ℕ → Option ℕ) : Type 0 where
  pub here : new key ≡ Some v
  pub others : (q : List ℕ) → (new q ≡ old q) ⊎ (q ≡ key)

-- The first p entries are done: the notes on names and keys cover the old entries, and the new ones among the first p.
pub record IsPartly (old new : ℕ → Entry) (count p : ℕ) (highest seen : List ℕ → Option ℕ) : Type 0 where
  pub later : (k : ℕ) → p ≤ k → new k ≡ old k
  pub each : (k : ℕ) → k < p → IsKeptOr old new count k
  pub top : (j : ℕ) → IsUsed old count j → IsAtLeast (highest (name_part (old j))) (version_part (old j))
  pub top_new : (j : ℕ) → j < p → IsUsed old count j → IsAtLeast (highest (name_part (old j))) (version_part (new j))
  pub from : (q : List ℕ) (h : ℕ) → highest q ≡ Some h
      → (j : ℕ) × IsUsed old count j × (name_part (old j) ≡ q) × ((version_part (old j) ≡ h) ⊎ ((j < p) × (version_part (new j) ≡ h)))
  pub seen_all : (j : ℕ) → j < p → IsUsed old count j → seen (old j).key ≢ None
  pub seen_only : (q : List ℕ) → seen q ≢ None → (j : ℕ) × (j < p) × IsUsed old count j × ((old j).key ≡ q)

-- The highest version is known for each name among the first p entries, and for no other.
pub record AreHighest (entry : ℕ → Entry) (count p : ℕ) (highest : List ℕ → Option ℕ) : Type 0 where
  pub top : (j : ℕ) → j < p → IsUsed entry count j → IsAtLeast (highest (name_part (entry j))) (version_part (entry j))
  pub from : (q : List ℕ) (h : ℕ) → highest q ≡ Some h → (j : ℕ) × (j < p) × IsUsed entry count j × (name_part (entry j) ≡ q) × (version_part (entry j) ≡ h)
