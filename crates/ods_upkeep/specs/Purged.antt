-- The requests of purge: the highest versions of each name stay, and lower ones are removed as rm removes them.
use Rattle.std.specs.Prelude.{◌≡◌, ◌≢◌, ◌⊎◌, ◌+◌, ◌&&◌, not, nat_le, ℕ, Bool, false, if◌then◌else◌, List, [], ◌∷◌, Option, Some, None}
use Rattle.std.specs.Borrow.{Bor}
use Rattle.std.specs.List.{All}
use Rattle.std.specs.Str.{bytes_eq}
use Rattle.ods_base.specs.declared.file_id.FileId.{FileId}
use Rattle.ods_paths.specs.Bad.{IsBad}
use Rattle.ods_paths.specs.declared.bad.BadPath.{BadPath}
use Rattle.ods_paths.specs.declared.versions.Versions.TheVariants.{Every}
use Rattle.ods_paths.specs.Paths.{Files, Folder, Said, Says, File, Within}
use Rattle.ods_filing.specs.Filed.{Filed}
use Rattle.ods_shell.specs.declared.alone.Alone.TheVariants as alone
use Rattle.ods_shell.specs.declared.alone.Unsaid.{Unsaid}
use Rattle.ods_shell.specs.declared.found.EntryPlace.{EntryPlace}
use Rattle.ods_shell.specs.declared.found.Found.{Found}
use Rattle.ods_shell.specs.Passed.{is_passed_over}
use Rattle.ods_shell.specs.declared.path_fault.PathFault.TheVariants.{Bad}
use Rattle.ods_upkeep.specs.Counted.{AreCounts}
use Rattle.ods_upkeep.specs.Refused.{AreNoSources, HasPath, IsOutOfMemory}
use Rattle.ods_upkeep.specs.Removed.{Does, StopsGoing, removals}
use Rattle.ods_upkeep.specs.Sources.{AreSources}
use Rattle.ods_upkeep.specs.declared.failure.Failure.{Failure}
use Rattle.ods_upkeep.specs.declared.failure.Why.{Why}
use Rattle.ods_upkeep.specs.declared.failure.Why.TheVariants.{Path, IsId, Versioned}

-- the path specifies names, and no versions of them; or only directories
abbrev pub SaysNoVersion : Said → Type 0
SaysNoVersion (File file) = ⊥
SaysNoVersion (Within folder None) = Unit {0}
SaysNoVersion (Within folder (Some files)) = files.versions ≡ None

abbrev pub HasNoVersion : List ℕ → Type 0
HasNoVersion path = (says : Said) × Says path says × SaysNoVersion says

-- why a path is not valid for names without versions: it is not a path, it is an ID, or it has versions
abbrev pub IsNotOfNames : List ℕ → Why → Type 0
IsNotOfNames path why =
    ((bad : BadPath) × (why ≡ Path (Bad bad)) × IsBad path bad)
    ⊎ (((why ≡ IsId) × ((file : FileId) × Says path (File file)))
    ⊎ ((why ≡ Versioned) × ((folder : Folder) × (files : Files) × Says path (Within folder (Some files)) × (files.versions ≢ None))))

-- the first of these paths that is not valid for names without versions, as the failure states
abbrev pub IsFirstNotOfNames : List (Bor (List ℕ)) → Failure → Type 0
IsFirstNotOfNames [] failure = ⊥
IsFirstNotOfNames (path ∷ paths) failure = (IsNotOfNames path.now failure.why × HasPath failure path.now) ⊎ (HasNoVersion path.now × IsFirstNotOfNames paths failure)

-- all versions are selected, and a path with only directories selects nothing
abbrev pub every_version : Unsaid
every_version = record { versions = Some Every; alone = alone.Refused }

-- the key of a name in a directory: the number of the directory, the word of the type, and the words of the name
abbrev pub name_key : Option EntryPlace → List ℕ
name_key None = 0 ∷ 0 ∷ 0 ∷ 0 ∷ 0 ∷ []
name_key (Some p) = p.directory.number ∷ p.entry.name.ext ∷ p.entry.name.words

-- how many of these have this name
abbrev pub count_named : List ℕ → List Found → ℕ
count_named name [] = 0
count_named name (f ∷ found) = if bytes_eq (name_key f.place) name then count_named name found + 1 else count_named name found

-- This one is removed if at least this number of entries with its name follow it. Directories stay, and so do the volume's own files.
abbrev pub goes : ℕ → Found → List Found → Bool
goes keep f behind = nat_le keep (count_named (name_key f.place) behind) && not (is_passed_over f.facts)

-- Of these, in which the versions of each name rise, all but the last of each name, as many as are kept.
abbrev pub superseded : ℕ → List Found → List Found
superseded keep [] = []
superseded keep (f ∷ found) = if goes keep f found then f ∷ superseded keep found else superseded keep found

-- Of each name that these paths find all but the highest versions, as many as are kept, are removed, and each file that no entry names then is
-- deleted. Nothing else was done.
abbrev pub IsPurged : ℕ → List (Bor (List ℕ)) → Filed → Filed → Type 0
IsPurged keep paths old new =
    All (λ path. HasNoVersion path.now) paths
    × ((found : List Found) × ((names : ℕ → ℕ) × AreSources old.image old.layout every_version paths found × AreCounts old.image old.layout names
    × Does old (removals false names (superseded keep found)) new))

-- why the files of these paths are not purged: there is none, or out of memory, and nothing was done; or a request is not done
abbrev pub AreNotPurged : ℕ → List (Bor (List ℕ)) → Filed → Filed → Failure → Type 0
AreNotPurged keep paths old new failure =
    ((new ≡ old) × AreNoSources old.image old.layout every_version paths failure)
    ⊎ ((found : List Found) × AreSources old.image old.layout every_version paths found
    × (((new ≡ old) × IsOutOfMemory failure)
    ⊎ ((names : ℕ → ℕ) × AreCounts old.image old.layout names × StopsGoing false names (superseded keep found) old new failure)))

-- Why it is not done, and what was done before.
abbrev pub IsNotPurged : ℕ → List (Bor (List ℕ)) → Filed → Filed → Failure → Type 0
IsNotPurged keep paths old new failure =
    ((new ≡ old) × IsFirstNotOfNames paths failure) ⊎ (All (λ path. HasNoVersion path.now) paths × AreNotPurged keep paths old new failure)
