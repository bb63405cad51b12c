-- What a change leaves of the blocks of a noted directory.
use Rattle.std.specs.Prelude.{⊤, ◌≡◌, ◌≢◌, ◌<◌, ◌==◌, ℕ, Bool, true, false, not, List, length, take}
use Rattle.ods_space.specs.Files.{HasBlocks}
use Rattle.ods_space.specs.Layout.{VolumeLayout}
use Rattle.ods_directory.specs.Tags.{AreTags}
use Rattle.ods_mount.specs.Faults.{contents_of}
use Rattle.ods_request.specs.declared.requests.Request.{Request}
use Rattle.ods_request.specs.declared.requests.Request.TheVariants.{Create, Extend, Truncate, Delete, Enter, LookUp, Remove, Read, Write, List as Lines, Stat, SetUser}
use Rattle.ods_state.specs.declared.known_names.KnownNames.{KnownNames}
use Rattle.ods_volume.specs.declared.ends.Falls.{Falls}
use Rattle.ods_volume.specs.declared.ends.Falls.TheVariants.{Nothing, File, Growth, Everything}

-- the file has these blocks after the change, stated as a double negation
abbrev pub StillHas : List (List ℕ) → VolumeLayout → ℕ → List ℕ → Type 0
StillHas J M f blocks = ¬ (¬ HasBlocks J M f blocks)

-- and their bytes are unchanged
abbrev pub IsSpared : List (List ℕ) → List (List ℕ) → VolumeLayout → ℕ → List ℕ → Type 0
IsSpared I J M f blocks = StillHas J M f blocks × (contents_of J blocks ≡ contents_of I blocks)

-- whatever blocks the file has after the change, these are its first blocks
abbrev pub BeginsWith : List (List ℕ) → VolumeLayout → ℕ → List ℕ → Type 0
BeginsWith J M f blocks = (held : List ℕ) → HasBlocks J M f held → take (length blocks) held ≡ blocks

-- What a change leaves of file f, which had these blocks. If no chain changes, the file still has them, though their bytes may change. A change of
-- another file's chain spares it.
abbrev pub IsStruck : List (List ℕ) → List (List ℕ) → VolumeLayout → Falls → ℕ → List ℕ → Type 0
IsStruck I J M Nothing f blocks = StillHas J M f blocks
IsStruck I J M (File n) f blocks = f ≢ n → IsSpared I J M f blocks
IsStruck I J M (Growth n) f blocks = (f ≢ n → IsSpared I J M f blocks) × BeginsWith J M f blocks
IsStruck I J M Everything f blocks = ⊤

-- this holds for each file that may be noted
abbrev pub Strikes : List (List ℕ) → VolumeLayout → List (List ℕ) → VolumeLayout → Falls → Type 0
Strikes I L J M falls = (f : ℕ) (blocks : List ℕ) → f ≢ 1 → f ≢ 2 → 0 < length blocks → HasBlocks I L f blocks → IsStruck I J M falls f blocks

-- whether a change leaves file f with its blocks, or with one more
abbrev pub is_left : Falls → ℕ → Bool
is_left Nothing f = true
is_left (File n) f = not (f == n)
is_left (Growth n) f = true
is_left Everything f = false

-- whether it spares their bytes too
abbrev pub is_spared : Falls → ℕ → Bool
is_spared Nothing f = false
is_spared (File n) f = not (f == n)
is_spared (Growth n) f = not (f == n)
is_spared Everything f = false

-- whether the file may gain a block
abbrev pub may_grow : Falls → ℕ → Bool
may_grow Nothing f = false
may_grow (File n) f = false
may_grow (Growth n) f = f == n
may_grow Everything f = false

-- The notes of a directory whose chain is not checked yet: the file has these blocks, or begins with them if it may have gained one.
pub record AreThen (J : List (List ℕ)) (M : VolumeLayout) (falls : Falls) (f : ℕ) (blocks : List ℕ) (tags : List (List ℕ)) : Type 0 where
  pub index : f ≢ 1
  pub bitmap : f ≢ 2
  pub some : 0 < length blocks
  pub held : may_grow falls f ≡ false → StillHas J M f blocks
  pub front : may_grow falls f ≡ true → BeginsWith J M f blocks
  pub tagged : AreTags (contents_of J blocks) tags

abbrev pub AreNamesThen : List (List ℕ) → VolumeLayout → Falls → KnownNames → Type 0
AreNamesThen J M falls names = AreThen J M falls names.file names.blocks.items names.tags.items

-- the number of the directory whose names a request reads, or 0
abbrev pub directory_of : Request → ℕ
directory_of (LookUp dir name pick) = dir.number
directory_of (Enter dir name version file) = dir.number
directory_of (Remove dir name pick) = dir.number
directory_of (Create name version count stamp) = 0
directory_of (Extend file count) = 0
directory_of (Truncate file count) = 0
directory_of (Delete file) = 0
directory_of (Read file vbn) = 0
directory_of (Write file vbn block) = 0
directory_of (Lines dir) = 0
directory_of (Stat file) = 0
directory_of (SetUser file attributes) = 0
