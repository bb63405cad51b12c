-- The keys that show whether a name or a file comes again.
use Rattle.std.specs.Prelude.{◌↔◌, ℕ, List, [], ◌∷◌, map, IsTrue, Option, Some, None}
use Rattle.std.specs.List.{Contains}
use Rattle.std.specs.Ordering.{nat_cmp}
use Rattle.std.specs.Cmp.Lexicographic.{slice_cmp}
use Rattle.std.specs.BTreeSet as tree
use Rattle.std.specs.BTreeSet.{BTreeSet}
use Rattle.ods_shell.specs.declared.facts.Facts.{Facts}
use Rattle.ods_shell.specs.declared.found.EntryPlace.{EntryPlace}
use Rattle.ods_shell.specs.declared.found.Found.{Found}

-- for an entry its directory, type, version and name; for a file without one its ID
abbrev pub key_of : Option EntryPlace → Option Facts → List ℕ
key_of (Some p) known = 0 ∷ p.directory.number ∷ p.entry.name.ext ∷ p.entry.version ∷ p.entry.name.words
key_of None (Some facts) = 1 ∷ facts.file.number ∷ facts.file.sequence ∷ 0 ∷ 0 ∷ 0 ∷ 0 ∷ []
key_of None None = 2 ∷ 0 ∷ 0 ∷ 0 ∷ 0 ∷ 0 ∷ 0 ∷ []

abbrev pub key : Found → List ℕ
key f = key_of f.place f.facts

-- the set has exactly the keys of these
abbrev pub HasKeysOf : BTreeSet (List ℕ) → List Found → Type 0
HasKeysOf seen found = (q : List ℕ) → IsTrue (tree.contains (slice_cmp nat_cmp) seen q) ↔ Contains (map key found) q
