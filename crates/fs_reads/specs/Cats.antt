-- The output of `cat`: the bytes of the files that paths select.
use Rattle.std.specs.Prelude.{◌≡◌, ℕ, List, [], ◌∷◌, Option, Some}
use Rattle.std.specs.Borrow.{Bor}
use Rattle.ods_base.specs.declared.file_id.Uic.{Uic}
use Rattle.ods_records.specs.declared.kind.Wanted.{Wanted}
use Rattle.ods_shell.specs.Contents.{IsGot}
use Rattle.ods_shell.specs.declared.facts.Facts.{Facts}
use Rattle.ods_shell.specs.declared.form.Remark.{Remark}
use Rattle.ods_shell.specs.declared.found.Found.{Found}
use Rattle.ods_shell.specs.declared.status.Status.{Status}
use Rattle.ods_shell.specs.declared.status.Status.TheVariants as status
use Rattle.ods_space.specs.Layout.{VolumeLayout}
use Rattle.fs_reads.specs.Denied.{MayRead}
use Rattle.fs_reads.specs.Named.{AddsNamed}
use Rattle.fs_reads.specs.Parts.{HaveParts, HoldsParts}

-- A writer took the bytes of some files in order. If nothing was wrong these are the files.
abbrev pub HoldsFiles : Option (List ℕ) → Option (List ℕ) → Status → (List (List ℕ) → Type 0) → Type 0
HoldsFiles old new s Are = HoldsParts (λ bytes. bytes) old new s Are

-- the user may read the file, and its bytes in the requested form are the output
abbrev pub IsFileOutput : List (List ℕ) → VolumeLayout → Wanted → Option Uic → Found → List (List ℕ) → Type 0
IsFileOutput I L wanted user found output = (facts : Facts) × (bytes : List ℕ) × (said : Option Remark)
    × (found.facts ≡ Some facts) × MayRead user facts × IsGot I L facts.file.number wanted bytes said × (output ≡ bytes ∷ [])

-- these files are the output, in order
abbrev pub AreFilesOutput : List (List ℕ) → VolumeLayout → Wanted → Option Uic → List Found → List (List ℕ) → Type 0
AreFilesOutput I L wanted user found output = HaveParts (IsFileOutput I L wanted user) found output

-- the path selects files, and they are the output; no directory on the way is closed to the user
abbrev pub IsPathOutput : List (List ℕ) → VolumeLayout → Wanted → Option Uic → List ℕ → List ℕ → List (List ℕ) → Type 0
IsPathOutput I L wanted user closed path output = (found : List Found) × AddsNamed I L user closed path [] found status.Done × AreFilesOutput I L wanted user found output

-- the files of these paths are the output, in order
abbrev pub ArePathsOutput : List (List ℕ) → VolumeLayout → Wanted → Option Uic → List ℕ → List (Bor (List ℕ)) → List (List ℕ) → Type 0
ArePathsOutput I L wanted user closed paths output = HaveParts (λ path. IsPathOutput I L wanted user closed path.now) paths output
