-- All paths of a volume, in the form that a comparison uses.
use Rattle.std.specs.Prelude.{◌≡◌, ℕ, List, [], None, IsPermutation, IsSortedByKey, map, string_bytes}
use Rattle.std.specs.Cmp.Lexicographic.{slice_cmp}
use Rattle.std.specs.List.{Contains}
use Rattle.std.specs.Ordering.{nat_cmp}
use Rattle.ods_base.specs.declared.file_id.FileId.{FileId}
use Rattle.ods_paths.specs.declared.versions.Versions.TheVariants as versions
use Rattle.ods_shell.specs.Found.{AreFound}
use Rattle.ods_shell.specs.There.{line_path}
use Rattle.ods_shell.specs.Ways.{AreMeant}
use Rattle.ods_shell.specs.declared.finding.FoundLines.{FoundLines}
use Rattle.ods_space.specs.Layout.{VolumeLayout}
pub use Rattle.ods_space.specs.Layout.{Disk}
use Rattle.fs_reads.specs.Alike.{has_path}
use Rattle.fs_reads.specs.Named.{everywhere}
use Rattle.fs_reads.specs.declared.comparing.Known.{Known}

-- a path, and the ID of its file
abbrev pub path_and_file : Known → List ℕ × FileId
path_and_file known = (string_bytes known.path, known.file)

-- the path of each line that was found, and its ID
abbrev pub paths_found : FoundLines → List (List ℕ × FileId)
paths_found found = map (λ line. (line_path found.directories.items line, line.entry.file)) found.lines.items

-- the paths are sorted by their bytes
abbrev pub AreInOrder : List Known → Type 0
AreInOrder all = IsSortedByKey (λ (known : Known). string_bytes known.path) (slice_cmp nat_cmp) all

-- None of these has the path.
abbrev pub LacksPath : List ℕ → List Known → Type 0
LacksPath path all = (known : Known) → Contains all known → ¬ has_path path known

-- The paths of a volume: one for each line of each directory that names reach from the master directory, sorted by their bytes.
pub record AreAllPaths (I : List (List ℕ)) (L : VolumeLayout) (all : List Known) : Type 0 where
  pub found : FoundLines
  pub meant : AreMeant I L [] everywhere found.directories.items
  pub lines_found : AreFound I L None versions.Every 0 found.directories.items found.lines.items
  pub each : IsPermutation (paths_found found) (map path_and_file all)
  pub ordered : AreInOrder all
