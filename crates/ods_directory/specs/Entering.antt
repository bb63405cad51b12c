-- The version under which a name is entered, from the search for the name.
use Rattle.std.specs.Prelude.{ℕ, ◌+◌, nat_lt, if◌then◌else◌, Option, Some, None, Result, Ok, Err}
use Rattle.ods_base.specs.declared.name.Pick.{Pick}
use Rattle.ods_base.specs.declared.name.Pick.TheVariants.{Exact, Highest}
use Rattle.ods_directory.specs.declared.fault.DirFault.{DirFault}
use Rattle.ods_directory.specs.declared.fault.DirFault.TheVariants.{NameTaken, VersionsFull}
use Rattle.ods_directory.specs.declared.search.Found.{Found}

-- the entry to search for before a name is entered
abbrev pub pick_of : Option ℕ → Pick
pick_of (Some v) = Exact v
pick_of None = Highest

-- the version to enter, from the given version and the entry found
abbrev pub next_version : Option ℕ → Option Found → Result ℕ DirFault
next_version (Some v) None = Ok v
next_version (Some v) (Some found) = Err NameTaken
next_version None None = Ok 1
next_version None (Some found) = if nat_lt found.version 32767 then Ok (found.version + 1) else Err VersionsFull
