-- The input of repairs: each name that names no file, and each file that no name names.
use Rattle.std.specs.Prelude.{◌≡◌, ℕ, ◌<◌, List, ◌++◌, ◌⊎◌}
use Rattle.std.specs.List.{All, Contains}
use Rattle.ods_base.specs.declared.file_id.FileId.{FileId}
use Rattle.ods_base.specs.declared.listed.Listed.{Listed}
use Rattle.ods_space.specs.Layout.{VolumeLayout}
use Rattle.ods_check.specs.declared.dangling_list.Dangling.{Dangling}
use Rattle.ods_check.specs.Findings.{ComesBefore, IsIdOfFile, IsLostFile, IsNamingNone, id_at}
use Rattle.ods_check.specs.Lists.{AreInOrder}

-- this line of the directory of this ID names no file
abbrev pub IsDangling : List (List ℕ) → VolumeLayout → Dangling → Type 0
IsDangling I L x = IsNamingNone I L x.directory.number x.line × (x.directory ≡ id_at I L x.directory.number)

-- one precedes another: its directory has a lower number, or it is first in the same directory
abbrev pub Precedes : Dangling → Dangling → Type 0
Precedes x y = (x.directory.number < y.directory.number) ⊎ ((x.directory.number ≡ y.directory.number) × ComesBefore x.line y.line)

-- These are all names that name no file, each once, sorted by directory number and then by name.
pub record AreDangling (I : List (List ℕ)) (L : VolumeLayout) (found : List Dangling) : Type 0 where
  pub each : All (IsDangling I L) found
  pub all : (d : ℕ) (line : Listed) → IsNamingNone I L d line → Contains found (record { directory = id_at I L d; line = line })
  pub rising : AreInOrder Precedes found

-- The list is the old one with the lines that name no file at the end, each with this directory. If the lines are in order, so are the new items.
pub record AddsUnnamed (I : List (List ℕ)) (L : VolumeLayout) (directory : FileId) (lines : List Listed) (old new : List Dangling) : Type 0 where
  pub more : List Dangling
  pub is : new ≡ old ++ more
  pub each : All (λ x. (x.directory ≡ directory) × Contains lines x.line × ¬ IsIdOfFile I L x.line.file) more
  pub all : (line : Listed) → Contains lines line → ¬ IsIdOfFile I L line.file → Contains more (record { directory = directory; line = line })
  pub rising : AreInOrder ComesBefore lines → AreInOrder (λ x y. ComesBefore x.line y.line) more

-- The list is the old one with the names of directory d that name no file at the end, in the order of names.
pub record AddsDangling (I : List (List ℕ)) (L : VolumeLayout) (d : ℕ) (old new : List Dangling) : Type 0 where
  pub more : List Dangling
  pub is : new ≡ old ++ more
  pub each : All (λ x. IsDangling I L x × (x.directory.number ≡ d)) more
  pub all : (line : Listed) → IsNamingNone I L d line → Contains more (record { directory = id_at I L d; line = line })
  pub rising : AreInOrder (λ x y. ComesBefore x.line y.line) more

-- These are the IDs of all lost files, each once, in ascending order of their numbers.
pub record AreLost (I : List (List ℕ)) (L : VolumeLayout) (found : List FileId) : Type 0 where
  pub each : All (λ id. IsLostFile I L id.number × (id ≡ id_at I L id.number)) found
  pub all : (n : ℕ) → IsLostFile I L n → Contains found (id_at I L n)
  pub rising : AreInOrder (λ x y. x.number < y.number) found
