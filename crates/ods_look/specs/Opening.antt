-- Opening for a user: the checks that requests on one file share, and the facts about a file that passes them.
use Rattle.std.specs.Prelude.{◌≡◌, ◌*◌, ◌<◌, ◌≤◌, ℕ, Bool, true, false, not, nat_le, List, [], ◌∷◌, length, None, Some}
use Rattle.std.specs.FinMap as map
use Rattle.ods_base.specs.declared.file_id.FileId.{FileId}
use Rattle.ods_base.specs.declared.file_id.Uic.{Uic}
use Rattle.ods_header.specs.Header.{sequence_of, is_directory_header}
use Rattle.ods_space.specs.Layout.{VolumeLayout, header_at}
use Rattle.ods_space.specs.Files.{IsFile, HasBlocks, Holds}
use Rattle.ods_directory.specs.Names.{IsDirectory}
use Rattle.ods_mount.specs.Faults.{contents_of, mark_at}
use Rattle.ods_request.specs.declared.refusals.Refusal.{Refusal}
use Rattle.ods_request.specs.declared.refusals.Refusal.TheVariants as refusal
use Rattle.ods_request.specs.declared.rights.Right.{Right}
use Rattle.ods_request.specs.Catalogue.{Catalogue, File, is_directory}
use Rattle.ods_request.specs.Faults.{first_of, on_file, is_denied, lacks_block}
use Rattle.ods_state.specs.Contents.{file_of, ShowsBy}
use Rattle.ods_space.specs.Chain.{chain_blocks}
use Rattle.ods_look.specs.declared.opening.OpenDirectory.{OpenDirectory}

-- the rows of a table of refusals, for a file
abbrev pub Rows : Type 0
Rows = File → List (Bool × Refusal)

-- the first checks of a request on a plain file: its number is above the reserved ones, and it is not a directory
abbrev pub kind_checks : FileId → ℕ → Rows → Rows
kind_checks id reserved rest f = (nat_le id.number reserved, refusal.Reserved) ∷ (is_directory f.body, refusal.IsDirectory) ∷ rest f

-- the row of a right that the user must have
abbrev pub right_check : Uic → Right → Rows → Rows
right_check who r rest f = (is_denied f who r, refusal.Denied) ∷ rest f

-- the checks of a request on a plain file, with the check of the right, before its own rows
abbrev pub plain_checks : FileId → ℕ → Uic → Right → Rows → Rows
plain_checks id reserved who r rest = kind_checks id reserved (right_check who r rest)

-- the checks of a request on a directory before its own rows: it is a directory, and the user has the right
abbrev pub directory_checks : Uic → Right → Rows → Rows
directory_checks who r rest d =
    (not (is_directory d.body), refusal.NotADirectory) ∷ (is_denied d who r, refusal.Denied) ∷ rest d

-- the last row of a Read and of a Write: the file has the block
abbrev pub block_check : ℕ → Rows
block_check vbn f = (lacks_block f vbn, refusal.NoSuchBlock) ∷ []

-- a file has this ID
abbrev pub IsFileId : List (List ℕ) → VolumeLayout → FileId → Type 0
IsFileId I L id = IsFile I L id.number × (sequence_of (header_at I L id.number) ≡ id.sequence)

-- the file with this ID and these blocks, as the blocks show it
abbrev pub file_shown : List (List ℕ) → VolumeLayout → FileId → List ℕ → File
file_shown I L id blocks = file_of id.number (header_at I L id.number) (contents_of I blocks)

-- the catalogue has the file with these blocks, and it passes the checks: only the other rows can refuse the request
pub record PassesChecks (I : List (List ℕ)) (L : VolumeLayout) (id : FileId) (blocks : List ℕ) (checks : Rows → Rows) (C : Catalogue) : Type 0 where
  pub there : map.get C.files id ≡ Some (file_shown I L id blocks)
  pub left : (rest : Rows) → on_file (map.get C.files id) (checks rest) ≡ first_of (rest (file_shown I L id blocks))

-- by the catalogue that the blocks show, the checks return this refusal for any other rows
abbrev pub IsRefusedByChecks : List (List ℕ) → VolumeLayout → FileId → (Rows → Rows) → Refusal → Type 0
IsRefusedByChecks I L id checks f = (C : Catalogue) (rest : Rows) → ShowsBy I L C → on_file (map.get C.files id) (checks rest) ≡ Some f

-- the file is plain, and its number is above the reserved ones
pub record IsPlainFile (I : List (List ℕ)) (L : VolumeLayout) (id : FileId) (reserved : ℕ) : Type 0 where
  pub file : IsFileId I L id
  pub number : reserved < id.number
  pub kind : is_directory_header id.number (header_at I L id.number) ≡ false
  pub lbns : List ℕ
  pub held : HasBlocks I L id.number lbns
  pub passes : (C : Catalogue) → ShowsBy I L C → PassesChecks I L id lbns (kind_checks id reserved) C

-- the file is plain, and passes the checks
pub record IsOpenPlain (I : List (List ℕ)) (L : VolumeLayout) (id : FileId) (reserved : ℕ) (who : Uic) (r : Right) : Type 0 where
  pub file : IsFileId I L id
  pub number : reserved < id.number
  pub kind : is_directory_header id.number (header_at I L id.number) ≡ false
  pub lbns : List ℕ
  pub held : HasBlocks I L id.number lbns
  pub passes : (C : Catalogue) → ShowsBy I L C → PassesChecks I L id lbns (plain_checks id reserved who r) C

-- the plain file has this block, and the checks find no fault
pub record IsOpenBlock (I : List (List ℕ)) (L : VolumeLayout) (id : FileId) (reserved : ℕ) (who : Uic) (r : Right) (vbn lbn : ℕ) : Type 0 where
  pub plain : IsOpenPlain I L id reserved who r
  pub held : Holds I L id.number vbn lbn
  pub fine : (C : Catalogue) → ShowsBy I L C → on_file (map.get C.files id) (plain_checks id reserved who r (block_check vbn)) ≡ None

-- by the catalogue that the blocks show, this is the first fault of reading or writing the block
abbrev pub IsRefusedBlock : List (List ℕ) → VolumeLayout → FileId → ℕ → Uic → Right → ℕ → Refusal → Type 0
IsRefusedBlock I L id reserved who r vbn f = (C : Catalogue) → ShowsBy I L C → on_file (map.get C.files id) (plain_checks id reserved who r (block_check vbn)) ≡ Some f

-- opened is directory n, with its first header, its blocks and its end mark
pub record IsDirectoryAt (I : List (List ℕ)) (L : VolumeLayout) (n : ℕ) (opened : OpenDirectory) : Type 0 where
  pub kind : is_directory_header n (header_at I L n) ≡ true
  pub header : opened.header.now ≡ header_at I L n
  pub lbns : List ℕ
  pub held : HasBlocks I L n lbns
  pub contents : opened.blocks ≡ contents_of I lbns
  pub few : length opened.blocks ≤ chain_blocks
  pub mark : opened.mark ≡ mark_at I L n lbns
  pub inside : opened.mark ≤ 512 * length opened.blocks
  pub directory : IsDirectory opened.blocks opened.mark

-- the file is a directory, and passes the checks
pub record IsOpenDirectory (I : List (List ℕ)) (L : VolumeLayout) (id : FileId) (who : Uic) (r : Right) (opened : OpenDirectory) : Type 0 where
  pub file : IsFileId I L id
  pub is : IsDirectoryAt I L id.number opened
  pub passes : (C : Catalogue) → ShowsBy I L C → PassesChecks I L id is.lbns (directory_checks who r) C

-- the file is a directory, and passes the checks with any blocks that it has
pub record MayBeOpened (I : List (List ℕ)) (L : VolumeLayout) (id : FileId) (who : Uic) (r : Right) : Type 0 where
  pub file : IsFileId I L id
  pub kind : is_directory_header id.number (header_at I L id.number) ≡ true
  pub passes : (lbns : List ℕ) → HasBlocks I L id.number lbns → (C : Catalogue) → ShowsBy I L C → PassesChecks I L id lbns (directory_checks who r) C
