-- The lines of `du`: each file counts once, under the first line that names it.
use Rattle.std.specs.Prelude.{◌≡◌, ◌≤◌, ◌⊎◌, ℕ, ◌-◌, ◌^◌, ◌==◌, min, Bool, if◌then◌else◌, List, [], ◌∷◌, ◌++◌, codes, length, take, slice_get, Option, Some, None, IsPermutation}
use Rattle.std.specs.List.{AllPairs, Contains, flat_map, range_with_len, sum_by}
use Rattle.ods_base.specs.declared.file_id.FileId.{FileId}
use Rattle.ods_space.specs.Layout.{VolumeLayout}
use Rattle.ods_walk.specs.declared.tables.Line.{Line}
use Rattle.ods_shell.specs.Facts.{AreFacts}
use Rattle.ods_shell.specs.Json.{object_line, of_image, with_number, with_text}
use Rattle.ods_shell.specs.Lines.{usage_line}
use Rattle.ods_shell.specs.Named.{IsKnown, id_of}
use Rattle.ods_shell.specs.Texts.{shown_directory}
use Rattle.ods_shell.specs.There.{ids_in, line_path}
use Rattle.ods_shell.specs.declared.facts.Facts.{Facts}
use Rattle.ods_shell.specs.declared.folders.Directory.{Directory}
use Rattle.ods_shell.specs.declared.usage.Use.{Use}

-- The blocks that a line counts after these lines: the blocks of its file; nothing if the file is unknown, or if one of these lines names it.
abbrev pub IsUse : List Line → Line → Option Facts → List Use → Type 0
IsUse before line None counted = counted ≡ []
IsUse before line (Some facts) counted = (Contains (ids_in before) line.entry.file × (counted ≡ []))
    ⊎ ((¬ Contains (ids_in before) line.entry.file) × (counted ≡ record { line = line; blocks = facts.blocks } ∷ []))

-- File n has facts, and its ID is one of these.
abbrev pub IsCounted : List (List ℕ) → VolumeLayout → List FileId → ℕ → Type 0
IsCounted I L ids n = (facts : Facts) × AreFacts I L n facts × Contains ids (id_of I L n)

-- the blocks that these lines count after others, in their order
abbrev pub AreUses : List (List ℕ) → VolumeLayout → List Line → List Line → List Use → Type 0
AreUses I L before [] uses = uses ≡ []
AreUses I L before (line ∷ lines) uses = (known : Option Facts) × (counted : List Use) × (rest : List Use) × IsKnown I L line.entry.file known × IsUse before line known counted
    × (uses ≡ counted ++ rest) × AreUses I L (before ++ line ∷ []) lines rest

-- the blocks that a use adds to the directory with this index
abbrev pub blocks_for : ℕ → Use → ℕ
blocks_for place used = if used.line.directory == place then used.blocks else 0

-- all blocks of the directory with this index, up to 2^64 - 1
abbrev pub blocks_at : List Use → ℕ → ℕ
blocks_at uses place = min (sum_by (blocks_for place) uses) (2 ^ 64 - 1)

-- the number of blocks of something, as a line or as an object of this image
abbrev pub use_text : Bool → List ℕ → List ℕ → List ℕ → ℕ → List ℕ
use_text json image what name blocks = if json then object_line (with_number (codes "blocks") blocks (with_text what name (of_image image))) else usage_line name blocks

-- the blocks of a directory; nothing if there is none
abbrev pub directory_use : Bool → List ℕ → Option Directory → ℕ → List ℕ
directory_use json image None blocks = []
directory_use json image (Some d) blocks = use_text json image (codes "directory") (shown_directory d.names.items) blocks

-- Each directory has its line, with the blocks that these lines count for it.
abbrev pub AreUsage : List (List ℕ) → VolumeLayout → List Directory → List Line → Bool → List ℕ → List ℕ → Type 0
AreUsage I L directories lines json image text = (uses : List Use) × AreUses I L [] lines uses
    × (text ≡ flat_map (λ place. directory_use json image (slice_get directories place) (blocks_at uses place)) (range_with_len 0 (length directories)))

-- the blocks of a file, and its path
abbrev pub file_use : Bool → List ℕ → List Directory → Use → List ℕ
file_use json image directories used = use_text json image (codes "path") (line_path directories used.line) used.blocks

-- in descending order of the numbers of blocks
abbrev pub AreFalling : List Use → Type 0
AreFalling uses = AllPairs (λ a b. b.blocks ≤ a.blocks) uses

-- The largest files that these lines name, at most `most`, have their line.
abbrev pub AreLargest : List (List ℕ) → VolumeLayout → List Directory → List Line → ℕ → Bool → List ℕ → List ℕ → Type 0
AreLargest I L directories lines most json image text = (uses : List Use) × (sorted : List Use) × AreUses I L [] lines uses × IsPermutation uses sorted × AreFalling sorted
    × (text ≡ flat_map (file_use json image directories) (take most sorted))
