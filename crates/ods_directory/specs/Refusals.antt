-- The number and the name of each refusal of this crate, as they are printed.
use Rattle.std.specs.Prelude.{ℕ, List, codes}
use Rattle.ods_directory.specs.declared.fault.DirFault.{DirFault}
use Rattle.ods_directory.specs.declared.fault.DirFault.TheVariants as dir
use Rattle.ods_directory.specs.declared.fault.Verdict.{Verdict}
use Rattle.ods_directory.specs.declared.fault.Verdict.TheVariants as verdict

-- for a request on a directory
abbrev pub dir_row : DirFault → ℕ × List ℕ
dir_row dir.NoSuchName = (30, codes "NoSuchName")
dir_row dir.NameTaken = (31, codes "NameTaken")
dir_row dir.VersionsFull = (32, codes "VersionsFull")

-- for a verdict; a good directory is not a refusal, and twice the same name is a fault of the mount, so both have 0
abbrev pub verdict_row : Verdict → ℕ × List ℕ
verdict_row verdict.Good = (0, codes "Good")
verdict_row verdict.BadEntry = (33, codes "BadEntry")
verdict_row verdict.Twice = (0, codes "Twice")
