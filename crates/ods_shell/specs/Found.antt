-- The directory lines that a path finds, and the status of a path that selects none.
use Rattle.std.specs.Prelude.{◌≡◌, ℕ, ◌+◌, List, [], ◌∷◌, ◌++◌, map, Option, Some, None}
use Rattle.ods_base.specs.declared.listed.Listed.{Listed}
use Rattle.ods_space.specs.Layout.{VolumeLayout}
use Rattle.ods_mount.specs.Faults.{IsDirectoryFile}
use Rattle.ods_paths.specs.declared.versions.Versions.{Versions}
use Rattle.ods_paths.specs.Paths.{Files}
use Rattle.ods_walk.specs.Listing.{IsListing}
use Rattle.ods_shell.specs.Choosing.{AreThose, IsChosen}
use Rattle.ods_shell.specs.declared.path_fault.PathFault.{PathFault}
use Rattle.ods_shell.specs.declared.path_fault.PathFault.TheVariants as fault
use Rattle.ods_shell.specs.declared.status.Status.{Status}
use Rattle.ods_shell.specs.declared.status.Status.TheVariants as status
use Rattle.ods_shell.specs.declared.folders.Directory.{Directory}
use Rattle.ods_walk.specs.declared.tables.Line.{Line}

-- the lines of directory n, in the order of a listing; none if n is not a directory
abbrev pub AreLinesOf : List (List ℕ) → VolumeLayout → ℕ → List Listed → Type 0
AreLinesOf I L n lines = (IsDirectoryFile I L n → IsListing I L n lines) × (¬ IsDirectoryFile I L n → lines ≡ [])

-- exactly the lines of directory n that these files choose, in their order; all lines if no files are specified
abbrev pub AreFoundIn : List (List ℕ) → VolumeLayout → Option Files → Versions → ℕ → List Listed → Type 0
AreFoundIn I L None unsaid n found = AreLinesOf I L n found
AreFoundIn I L (Some files) unsaid n found = (lines : List Listed) × AreLinesOf I L n lines × AreThose (IsChosen files unsaid lines) lines found

-- the line with this entry in the directory with this index
abbrev pub placed : ℕ → Listed → Line
placed place e = record { directory = place; entry = e }

-- These lines are found in these directories, in their order. The first directory has the index `place`.
abbrev pub AreFound : List (List ℕ) → VolumeLayout → Option Files → Versions → ℕ → List Directory → List Line → Type 0
AreFound I L files unsaid place [] lines = lines ≡ []
AreFound I L files unsaid place (d ∷ directories) lines =
    (entries : List Listed) × (rest : List Line) × (lines ≡ map (placed place) entries ++ rest) × AreFoundIn I L files unsaid d.number entries × AreFound I L files unsaid (place + 1) directories rest

-- The exit status of a path that selects no files. An invalid path has the status for wrong arguments, the ID of no file is refused, and out of
-- memory is a fault of the host.
abbrev pub HasPathStatus : PathFault → Status → Type 0
HasPathStatus (fault.Bad bad) s = s ≡ status.Words
HasPathStatus fault.NoName s = s ≡ status.Words
HasPathStatus fault.NoVersion s = s ≡ status.Words
HasPathStatus fault.IsId s = s ≡ status.Words
HasPathStatus fault.Nothing s = s ≡ status.Nothing
HasPathStatus fault.NoSuchFile s = s ≡ status.Refused
HasPathStatus fault.NoMemory s = s ≡ status.Host
