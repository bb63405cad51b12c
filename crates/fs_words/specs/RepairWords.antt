-- The repairs that words request: each by its name, or all of them.
use Rattle.std.specs.Prelude.{◌≡◌, ℕ, Bool, ◌||◌, true, false, List, codes}
use Rattle.std.specs.List.{list_all, list_any}
use Rattle.std.specs.Str.{bytes_eq}
use Rattle.fs_words.specs.declared.actions.Repairs.{Repairs}

-- the word names a repair, or all
abbrev pub names_repair : List ℕ → Bool
names_repair word = bytes_eq word (codes "used") || (bytes_eq word (codes "share") || (bytes_eq word (codes "double") || (bytes_eq word (codes "names") || (bytes_eq word (codes "lost") || (bytes_eq word (codes "free") || bytes_eq word (codes "all"))))))

-- the word requests the repair of this name
abbrev pub asks_for : List ℕ → List ℕ → Bool
asks_for name word = bytes_eq word name || bytes_eq word (codes "all")

-- one of these words requests it
abbrev pub is_asked_for : List ℕ → List (List ℕ) → Bool
is_asked_for name words = list_any (asks_for name) words

-- the repairs that these words request
abbrev pub repairs_in : List (List ℕ) → Repairs
repairs_in words = record {
  used = is_asked_for (codes "used") words;
  share = is_asked_for (codes "share") words;
  double = is_asked_for (codes "double") words;
  names = is_asked_for (codes "names") words;
  lost = is_asked_for (codes "lost") words;
  free = is_asked_for (codes "free") words;
}

-- each of these words names a repair, and these are the repairs that they request
abbrev pub AreKinds : List (List ℕ) → Repairs → Type 0
AreKinds words kinds = (list_all names_repair words ≡ true) × (kinds ≡ repairs_in words)

-- one of these words names no repair
abbrev pub HasUnknown : List (List ℕ) → Type 0
HasUnknown words = list_all names_repair words ≡ false
