-- Which requests each command makes.
use Rattle.std.specs.Prelude.{◌≡◌, Bool, true, false}
use Rattle.ods_request.specs.declared.requests.Request.{Request}
use Rattle.ods_request.specs.declared.requests.Request.TheVariants.{Create, Extend, Truncate, Delete, Enter, LookUp, Remove, Write, Stat, SetUser}

-- rm and rmdir: names are removed, and files unless only the entries are meant
abbrev pub Removes : Bool → Request → Type 0
Removes entry_alone (Remove dir name pick) = Unit {0}
Removes entry_alone (Delete file) = entry_alone ≡ false
Removes entry_alone r = ⊥

-- mv: names are looked up, entered and removed
abbrev pub Renames : Request → Type 0
Renames (LookUp dir name pick) = Unit {0}
Renames (Enter dir name version file) = Unit {0}
Renames (Remove dir name pick) = Unit {0}
Renames r = ⊥

-- cp: new files are made and filled, and names are looked up and entered
abbrev pub Copies : Request → Type 0
Copies (Create name version blocks stamp) = Unit {0}
Copies (Extend file blocks) = Unit {0}
Copies (Write file vbn block) = Unit {0}
Copies (SetUser file attributes) = Unit {0}
Copies (LookUp dir name pick) = Unit {0}
Copies (Enter dir name version file) = Unit {0}
Copies r = ⊥

-- put: the same, and if files are replaced, their Stat, and the removal of their names and of the files
abbrev pub Puts : Bool → Request → Type 0
Puts replaces (Create name version blocks stamp) = Unit {0}
Puts replaces (Extend file blocks) = Unit {0}
Puts replaces (Write file vbn block) = Unit {0}
Puts replaces (SetUser file attributes) = Unit {0}
Puts replaces (LookUp dir name pick) = Unit {0}
Puts replaces (Enter dir name version file) = Unit {0}
Puts replaces (Stat file) = replaces ≡ true
Puts replaces (Remove dir name pick) = replaces ≡ true
Puts replaces (Delete file) = replaces ≡ true
Puts replaces r = ⊥

-- mkdir: directories are made and entered
abbrev pub MakesDirectories : Request → Type 0
MakesDirectories (Create name version blocks stamp) = Unit {0}
MakesDirectories (Enter dir name version file) = Unit {0}
MakesDirectories r = ⊥

-- truncate: a file is cut, and its attributes are set
abbrev pub Cuts : Request → Type 0
Cuts (Truncate file blocks) = Unit {0}
Cuts (SetUser file attributes) = Unit {0}
Cuts r = ⊥

-- append: a file gets blocks, these are written, and its attributes are set
abbrev pub Appends : Request → Type 0
Appends (Extend file blocks) = Unit {0}
Appends (Write file vbn block) = Unit {0}
Appends (SetUser file attributes) = Unit {0}
Appends r = ⊥
