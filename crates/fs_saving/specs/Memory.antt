-- A folder in memory: its changes, each of one name, from the first to the last.
use Rattle.std.specs.Prelude.{◌≡◌, ℕ, ◌≤◌, Bool, if◌then◌else◌, List, length, take, Option, Some, None, nat_eq, fold}
use Rattle.std.specs.Cmp.Lexicographic.{pointwise}
use Rattle.std.proofs.Common.{ap, ◌∙◌, arith}
use Rattle.std.proofs.lemmas.List.{take_all}
use Rattle.fs_saving.specs.declared.memory.Change.{Change}
use Rattle.fs_saving.specs.declared.memory.MemoryFolder.{MemoryFolder}

-- the content of a name after a change of it: a file with these bytes, or none
abbrev pub left_by : Change → Option (List ℕ)
left_by change = if change.is_there then Some change.bytes.items else None

-- the content of a name after one more change
abbrev pub held_behind : List ℕ → Option (List ℕ) → Change → Option (List ℕ)
held_behind name before change = if pointwise nat_eq change.name.items name then left_by change else before

-- the content of a name after these changes: that of the last change of the name, or no file
abbrev pub held : List Change → List ℕ → Option (List ℕ)
held changes name = fold (held_behind name) None changes

-- the changes of a folder
abbrev pub changes_of : MemoryFolder → List Change
changes_of folder = folder.changes.items

-- a call of a folder has failed, or a file was not the expected one
abbrev pub failed_in : MemoryFolder → Bool
failed_in folder = folder.has_failed

-- a name of a folder has this content
abbrev pub Holds : MemoryFolder → List ℕ → Option (List ℕ) → Type 0
Holds folder name content = held (changes_of folder) name ≡ content

-- After some of these changes a name had this content.
pub record WasHeld (changes : List Change) (name : List ℕ) (content : Option (List ℕ)) : Type 0 where
  pub count : ℕ
  pub within : count ≤ length changes
  pub is : held (take count changes) name ≡ content

-- a name of a folder had this content at some moment up to now
abbrev pub HeldOnce : MemoryFolder → List ℕ → Option (List ℕ) → Type 0
HeldOnce folder name content = WasHeld (changes_of folder) name content

-- the content of a name is its content at this moment
pub counted_now : (folder : MemoryFolder) (name : List ℕ) (content : Option (List ℕ)) → Holds folder name content → HeldOnce folder name content
counted_now folder name content is = record {
  count = length (changes_of folder);
  within = omega arith;
  is = ap (λ l. held l name) (take_all (length (changes_of folder)) (changes_of folder) (omega arith)) ∙ is;
}
