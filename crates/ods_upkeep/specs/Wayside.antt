-- The directories on the way of a path: missing ones are created, like with mkdir.
use Rattle.std.specs.Prelude.{◌≡◌, ◌≢◌, ◌⊎◌, ℕ, ◌==◌, Bool, true, false, if◌then◌else◌, MatchBool, List, [], ◌∷◌, ◌++◌, length, codes, Some, None}
use Rattle.ods_text.specs.Cuts.{cut_of}
use Rattle.ods_base.specs.declared.file_id.FileId.{FileId}
use Rattle.ods_space.specs.Layout.{VolumeLayout}
use Rattle.ods_paths.specs.declared.bad.BadPath.{BadPath}
use Rattle.ods_paths.specs.Bad.{IsBad}
use Rattle.ods_paths.specs.Paths.{Folder, Said, Says, Within}
use Rattle.ods_filing.specs.Filed.{Filed}
use Rattle.ods_shell.specs.declared.path_fault.PathFault.TheVariants.{Bad, Nothing}
use Rattle.ods_upkeep.specs.Hidden.{HidesEntries}
use Rattle.ods_upkeep.specs.Made.{IsMade}
use Rattle.ods_upkeep.specs.Refused.{no_memory}
use Rattle.ods_upkeep.specs.Target.{IsNoDirectory, IsTheDirectory, MeansNothing}
use Rattle.ods_upkeep.specs.Unmade.{IsNotMade}
use Rattle.ods_upkeep.specs.declared.failure.Why.{Why}
use Rattle.ods_upkeep.specs.declared.failure.Why.TheVariants.{BadName, Hidden, Path}

-- the parts of a path between slashes, and the one after the last slash
abbrev pub IsParted : List ℕ → List (List ℕ) → List ℕ → Type 0
IsParted path [] last = (cut_of 47 path ≡ None) × (last ≡ path)
IsParted path (part ∷ parts) last = (behind : List ℕ) × (cut_of 47 path ≡ Some (part, behind)) × IsParted behind parts last

-- a part that names nothing: an empty one, or `.`
abbrev pub names_nothing : List ℕ → Bool
names_nothing [] = true
names_nothing (c ∷ []) = c == 46
names_nothing (c ∷ d ∷ part) = false

-- a way with one part more
abbrev pub with_part : List ℕ → List ℕ → List ℕ
with_part way part = if length way == 0 then part else way ++ (47 ∷ part)

-- a way after a part of a path; a part that names nothing leaves it unchanged
abbrev pub further : List ℕ → List ℕ → List ℕ
further way part = if names_nothing part then way else with_part way part

-- the path specifies one directory, which exists
abbrev pub IsDirectoryAt : List (List ℕ) → VolumeLayout → List ℕ → FileId → Type 0
IsDirectoryAt I L path file = (folder : Folder) × Says path (Within folder None) × IsTheDirectory I L folder file

-- the path specifies a directory, which does not exist
abbrev pub IsFreeAt : List (List ℕ) → VolumeLayout → List ℕ → Type 0
IsFreeAt I L path = (folder : Folder) × Says path (Within folder None) × MeansNothing I L folder

-- why it is unknown whether there is a directory: the path is bad or specifies something else, or it does not specify one directory, or out of memory
abbrev pub IsNoFolder : List (List ℕ) → VolumeLayout → List ℕ → Why → Type 0
IsNoFolder I L path why =
    ((bad : BadPath) × (why ≡ Path (Bad bad)) × IsBad path bad)
    ⊎ (((why ≡ BadName) × ((says : Said) × Says path says × ((folder : Folder) → says ≢ Within folder None)))
    ⊎ ((folder : Folder) × Says path (Within folder None) × IsNoDirectory I L folder why))

-- the directory exists, and nothing is done; or it is created, with the user as its owner, or the group and the member in its name
abbrev pub IsThereThen : List ℕ → List ℕ → Filed → Filed → Type 0
IsThereThen stamp path old new =
    ((file : FileId) × IsDirectoryAt old.image old.layout path file × (new ≡ old)) ⊎ (IsFreeAt old.image old.layout path × IsMade None 0 stamp path old new)

-- why it does not exist, and cannot be created
abbrev pub IsNotThere : List ℕ → List ℕ → Filed → Filed → Why → Type 0
IsNotThere stamp path old new why =
    ((new ≡ old) × IsNoFolder old.image old.layout path why) ⊎ (IsFreeAt old.image old.layout path × IsNotMade None 0 stamp path old new why)

-- one part of a path: the directory that the way reaches after it exists then
abbrev pub IsStepMade : List ℕ → List ℕ → List ℕ → Filed → Filed → Type 0
IsStepMade stamp way part old new = MatchBool (names_nothing part) (new ≡ old) (IsThereThen stamp (with_part way part) old new)

-- why it does not
abbrev pub IsStepRefused : List ℕ → List ℕ → List ℕ → Filed → Filed → Why → Type 0
IsStepRefused stamp way part old new why =
    ((why ≡ no_memory) × (new ≡ old)) ⊎ ((names_nothing part ≡ false) × IsNotThere stamp (with_part way part) old new why)

-- these parts, in order, continue from a way to another; each directory on it exists then
abbrev pub IsWay : List ℕ → List (List ℕ) → List ℕ → Filed → List ℕ → Filed → Type 0
IsWay stamp [] way old end new = (end ≡ way) × (new ≡ old)
IsWay stamp (part ∷ parts) way old end new = (mid : Filed) × IsStepMade stamp way part old mid × IsWay stamp parts (further way part) mid end new

-- they continue up to one that is refused
abbrev pub StopsOnWay : List ℕ → List (List ℕ) → List ℕ → Filed → Filed → Why → Type 0
StopsOnWay stamp [] way old new why = ⊥
StopsOnWay stamp (part ∷ parts) way old new why =
    IsStepRefused stamp way part old new why ⊎ ((mid : Filed) × IsStepMade stamp way part old mid × StopsOnWay stamp parts (further way part) mid new why)

-- the path of the directory that a way reaches: the master directory if it has no part
abbrev pub path_of_way : List ℕ → List ℕ
path_of_way way = if length way == 0 then codes "[0,0]" else way

-- the directory of a path exists, and takes names
abbrev pub IsOpen : List (List ℕ) → VolumeLayout → List ℕ → FileId → Type 0
IsOpen I L path file = IsDirectoryAt I L path file × ¬ HidesEntries I L file.number

-- why it takes none: there is none, or it hides entries, or there is no memory to determine whether it does
abbrev pub IsNotOpen : List (List ℕ) → VolumeLayout → List ℕ → Why → Type 0
IsNotOpen I L path why =
    IsNoFolder I L path why
    ⊎ (((why ≡ Path Nothing) × IsFreeAt I L path)
    ⊎ ((file : FileId) × IsDirectoryAt I L path file × (((why ≡ Hidden) × HidesEntries I L file.number) ⊎ (why ≡ no_memory))))
