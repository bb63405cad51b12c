-- When deleted files that IDs name are extracted.
use Rattle.std.specs.Prelude.{◌≡◌, ◌⊎◌, ◌++◌, ℕ, List, Option, Some, codes}
use Rattle.std.specs.Borrow.{Bor}
use Rattle.std.specs.List.{All}
use Rattle.ods_base.specs.declared.file_id.FileId.{FileId}
use Rattle.ods_base.specs.declared.file_id.Uic.{Uic}
use Rattle.ods_space.specs.Layout.{VolumeLayout}
use Rattle.ods_paths.specs.Paths.{File, Says}
use Rattle.ods_shell.specs.Former.{IsFormer}
use Rattle.ods_shell.specs.declared.facts.Facts.{Facts}
use Rattle.ods_shell.specs.declared.form.Remark.{Remark}
use Rattle.ods_shell.specs.declared.former.Former.{Former}
use Rattle.ods_shell.specs.declared.status.Status.{Status}
use Rattle.ods_shell.specs.declared.status.Status.TheVariants as status
use Rattle.fs_reads.specs.Denied.{MayRead}

-- the word is this ID, with or without its `#`
abbrev pub SpellsId : List ℕ → FileId → Type 0
SpellsId word id = Says word (File id) ⊎ Says (codes "#" ++ word) (File id)

-- the word is an ID
abbrev pub SaysId : List ℕ → Type 0
SaysId word = (id : FileId) × SpellsId word id

-- this is known of the deleted file with this ID, which the user might read by its first header, and these bytes are read from it
abbrev pub IsFormerGot : Option Uic → (FileId → List ℕ → Option Remark → Type 0) → Former → Type 0
IsFormerGot user Gives f = (facts : Facts) × (f.found.facts ≡ Some facts) × MayRead user facts × ((bytes : List ℕ) × (said : Option Remark) × Gives f.known.file bytes said)

-- the path is the ID of a deleted file that is extracted
abbrev pub IsIdGot : List (List ℕ) → VolumeLayout → Option Uic → (FileId → List ℕ → Option Remark → Type 0) → List ℕ → Type 0
IsIdGot I L user Gives path = (f : Former) × IsFormer I L f × SpellsId path f.known.file × IsFormerGot user Gives f

-- each of these paths is such an ID
abbrev pub AreIdsGot : List (List ℕ) → VolumeLayout → Option Uic → (FileId → List ℕ → Option Remark → Type 0) → List (Bor (List ℕ)) → Type 0
AreIdsGot I L user Gives paths = All (λ path. IsIdGot I L user Gives path.now) paths

-- the status of a file: it is extracted; or it is refused, or the host does not accept it
abbrev pub EndsBy : Type 0 → Status → Type 0
EndsBy Got s = ((s ≡ status.Done) × Got) ⊎ (s ≡ status.Refused) ⊎ (s ≡ status.Host)
