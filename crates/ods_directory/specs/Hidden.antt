-- Used entries past the end mark of a directory.
use Rattle.std.specs.Prelude.{ℕ, ◌*◌, ◌/◌, ◌<◌, ◌≤◌, IsTrue, List, length}
use Rattle.ods_directory.specs.Entry.{entry_at, is_used}

-- Entry k of these blocks, 32 in a block, is past the end mark and used. An entry that the mark cuts is past it.
pub record IsHidden (blocks : List (List ℕ)) (mark k : ℕ) : Type 0 where
  pub behind : mark / 16 ≤ k
  pub inside : k < 32 * length blocks
  pub used : IsTrue (is_used (entry_at blocks k))

-- an entry past the end mark is used
abbrev pub HasHidden : List (List ℕ) → ℕ → Type 0
HasHidden blocks mark = (k : ℕ) × IsHidden blocks mark k
