-- The reasons why a text is not a valid path.
use Rattle.std.specs.Prelude.{◌≡◌, ◌≢◌, ℕ, true, false, List, [], drop, Option}
use Rattle.ods_base.specs.declared.file_id.FileId.{FileId}
use Rattle.ods_paths.specs.declared.versions.Versions.{Versions}
use Rattle.ods_paths.specs.declared.bad.BadPath.{BadPath}
use Rattle.ods_paths.specs.declared.bad.BadPath.TheVariants as bad
use Rattle.ods_paths.specs.Numbers.{IsId}
use Rattle.ods_paths.specs.Patterns.{IsPattern}
use Rattle.ods_paths.specs.Paths.{Folder, Said, Says, SpellsFolder, name_text, kind_text, IsDotted, IsVersions, separator_of, folder_text, more_text, files_text, begins_id, IsClosed, past_device}

-- the text of files is bad in this part
abbrev pub IsBadFiles : List ℕ → BadPath → Type 0
IsBadFiles text bad.Name = ¬ IsPattern 9 (name_text text)
IsBadFiles text bad.Type = ¬ IsPattern 3 (kind_text text)
IsBadFiles text bad.NoDot = ¬ IsDotted text
IsBadFiles text bad.Version = (v : Option Versions) → ¬ IsVersions text v
IsBadFiles text bad.Empty = ⊥
IsBadFiles text bad.Id = ⊥
IsBadFiles text bad.Bracket = ⊥
IsBadFiles text bad.Directory = ⊥

-- the texts of a DIR, of one more directory and of FILES are bad in this part
abbrev pub IsBadWithin : ℕ → List ℕ → List ℕ → List ℕ → BadPath → Type 0
IsBadWithin separator dir more files bad.Directory = (f : Folder) → ¬ SpellsFolder separator dir more f
IsBadWithin separator dir more files bad.Name = (files ≢ []) × IsBadFiles files bad.Name
IsBadWithin separator dir more files bad.Type = (files ≢ []) × IsBadFiles files bad.Type
IsBadWithin separator dir more files bad.NoDot = (files ≢ []) × IsBadFiles files bad.NoDot
IsBadWithin separator dir more files bad.Version = (files ≢ []) × IsBadFiles files bad.Version
IsBadWithin separator dir more files bad.Empty = ⊥
IsBadWithin separator dir more files bad.Id = ⊥
IsBadWithin separator dir more files bad.Bracket = ⊥

-- its directories or its files are bad in this part
abbrev pub IsBadPart : List ℕ → BadPath → Type 0
IsBadPart text e = (begins_id text ≡ false) × IsBadWithin (separator_of text) (folder_text text) (more_text text) (files_text text) e

-- a text without a device has no meaning, for this reason
abbrev pub IsBadHere : List ℕ → BadPath → Type 0
IsBadHere text bad.Empty = ⊥
IsBadHere text bad.Id = (begins_id text ≡ true) × ((f : FileId) → ¬ IsId (drop 1 text) f)
IsBadHere text bad.Bracket = (begins_id text ≡ false) × ¬ IsClosed text
IsBadHere text bad.Directory = IsBadPart text bad.Directory
IsBadHere text bad.Name = IsBadPart text bad.Name
IsBadHere text bad.Type = IsBadPart text bad.Type
IsBadHere text bad.NoDot = IsBadPart text bad.NoDot
IsBadHere text bad.Version = IsBadPart text bad.Version

-- the text is not a valid path, for this reason
abbrev pub IsBad : List ℕ → BadPath → Type 0
IsBad text bad.Empty = text ≡ []
IsBad text bad.Id = IsBadHere (past_device text) bad.Id
IsBad text bad.Bracket = IsBadHere (past_device text) bad.Bracket
IsBad text bad.Directory = IsBadHere (past_device text) bad.Directory
IsBad text bad.Name = IsBadHere (past_device text) bad.Name
IsBad text bad.Type = IsBadHere (past_device text) bad.Type
IsBad text bad.NoDot = IsBadHere (past_device text) bad.NoDot
IsBad text bad.Version = IsBadHere (past_device text) bad.Version

-- a text has at most one meaning
abbrev pub SaysOneThing : Type 0
SaysOneThing = (text : List ℕ) (s t : Said) → Says text s → Says text t → s ≡ t

-- a bad text has no meaning
abbrev pub BadSaysNothing : Type 0
BadSaysNothing = (text : List ℕ) (e : BadPath) (s : Said) → IsBad text e → Says text s → ⊥
