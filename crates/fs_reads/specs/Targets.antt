-- What a command gives to the host: the bytes that files of the host have taken.
use Rattle.std.specs.Prelude.{◌≡◌, ℕ, List, Bool, false, Option}
use Rattle.ods_shell.specs.Shown.{ContentsAre}
use Rattle.ods_shell.specs.declared.form.Contents.{Contents}
use Rattle.ods_shell.specs.declared.form.Remark.{Remark}

-- what was taken before is taken now
abbrev pub StayTaken : (List ℕ → List ℕ → Type 0) → (List ℕ → List ℕ → Type 0) → Type 0
StayTaken old new = (path : List ℕ) → (bytes : List ℕ) → old path bytes → new path bytes

-- some file of the host has taken these bytes
abbrev pub IsTaken : (List ℕ → List ℕ → Type 0) → List ℕ → Type 0
IsTaken took bytes = (path : List ℕ) × took path bytes

-- unless the command only tells what it would do, some file of the host has taken these contents
abbrev pub AreTaken : Bool → (List ℕ → List ℕ → Type 0) → Contents → Type 0
AreTaken tells took contents = tells ≡ false → (bytes : List ℕ) → ContentsAre contents bytes → IsTaken took bytes

-- These bytes are read from the file with this number or ID. Unless the command only tells what it would do, a file of the host has taken them.
abbrev pub IsWritten : {Key : Type 0} → Bool → (List ℕ → List ℕ → Type 0) → (Key → List ℕ → Option Remark → Type 0) → Key → List ℕ → Option Remark → Type 0
IsWritten {Key} tells took Gives key bytes said = Gives key bytes said × (tells ≡ false → IsTaken took bytes)
