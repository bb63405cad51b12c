-- Why a path of mkdir or rmdir selects no directory.
use Rattle.std.specs.Prelude.{◌≡◌, ◌≢◌, ◌⊎◌, ℕ, false, true, List, [], ◌∷◌, ◌++◌, Some, None}
use Rattle.ods_request.specs.declared.refusals.Refusal.TheVariants as refusal
use Rattle.ods_paths.specs.Bad.{IsBad}
use Rattle.ods_paths.specs.declared.bad.BadPath.{BadPath}
use Rattle.ods_paths.specs.Paths.{File, Files, Folder, Said, Says, Within}
use Rattle.ods_paths.specs.Steps.{Step, Numbers, Pattern}
use Rattle.ods_shell.specs.declared.path_fault.PathFault.TheVariants as fault
use Rattle.ods_upkeep.specs.declared.failure.Why.{Why}
use Rattle.ods_upkeep.specs.declared.failure.Why.TheVariants.{BadName, IsId, Path, Request, Several}
use Rattle.ods_upkeep.specs.Meant.{MayBeFirst}
use Rattle.ods_upkeep.specs.Refused.{no_memory}
use Rattle.ods_upkeep.specs.Target.{MayBeDirectory}

-- Why a step is not one name: `*` selects several. If it is one, there is no memory for the name.
abbrev pub SaysNoName : Step → Why → Type 0
SaysNoName (Numbers None member) why = why ≡ Several
SaysNoName (Numbers (Some group) None) why = why ≡ Several
SaysNoName (Numbers (Some group) (Some member)) why = why ≡ no_memory
SaysNoName (Pattern pattern) why = why ≡ no_memory

-- why steps are not one name in a directory: there is none, and the master directory stays; or the last step is not one name
abbrev pub AreNoName : List Step → Why → Type 0
AreNoName steps why = ((steps ≡ []) × (why ≡ Request refusal.Reserved)) ⊎ ((before : List Step) × ((last : Step) × (steps ≡ before ++ last ∷ []) × SaysNoName last why))

-- why a folder by itself is no directory: all below it belong to it; and otherwise its steps are not one name in a directory
abbrev pub IsNoOneFolder : Folder → Why → Type 0
IsNoOneFolder folder why = ((folder.below ≡ true) × (why ≡ Several)) ⊎ ((folder.below ≡ false) × AreNoName folder.steps why)

-- Why files of any type name no directory. The first of these that holds is reported: another version than the first is given, there is no name,
-- there is no memory for the name.
abbrev pub AreUnfit : Files → Why → Type 0
AreUnfit files why =
    ((why ≡ Several) × (¬ MayBeFirst files.versions))
    ⊎ (MayBeFirst files.versions × (((why ≡ BadName) × (files.name ≡ [])) ⊎ ((why ≡ no_memory) × (files.name ≢ []))))

-- why files of a path name no directory: the type is another; otherwise they are unfit
abbrev pub AreNoDirectory : List ℕ → Files → Why → Type 0
AreNoDirectory text files why = ((why ≡ BadName) × (¬ MayBeDirectory text files.kind)) ⊎ (MayBeDirectory text files.kind × AreUnfit files why)

-- why the content of a path selects no directory; an ID selects none
abbrev pub IsUnmeant : List ℕ → Said → Why → Type 0
IsUnmeant text (File file) why = why ≡ IsId
IsUnmeant text (Within folder None) why = IsNoOneFolder folder why
IsUnmeant text (Within folder (Some files)) why = AreNoDirectory text files why

-- why a path selects no directory: it is not a valid path, or its content selects none
abbrev pub MeansNone : List ℕ → Why → Type 0
MeansNone path why = ((bad : BadPath) × (why ≡ Path (fault.Bad bad)) × IsBad path bad) ⊎ ((says : Said) × Says path says × IsUnmeant path says why)
