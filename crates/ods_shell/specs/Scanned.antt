-- The contents of a file that a scan found: the blocks that its headers name, with the attributes of the first header.
use Rattle.std.specs.Prelude.{◌≡◌, ◌≢◌, ◌⊎◌, ℕ, ◌+◌, ◌-◌, ◌<◌, ◌≤◌, Bool, true, false, List, length, slice_index, string_bytes, Option, Some, None}
use Rattle.std.specs.List.{Contains}
use Rattle.ods_base.specs.Image.{block_at}
use Rattle.ods_header.specs.Header.{attributes_of, ident_of, is_directory_header, number_of, sequence_of}
use Rattle.ods_header.specs.Text.{ident_text}
use Rattle.ods_space.specs.Files.{AreInside}
use Rattle.ods_space.specs.declared.fault.ChainFault.{ChainFault}
use Rattle.ods_space.specs.declared.fault.ChainFault.TheVariants.{BadChain, OutsideVolume, NoMemory}
use Rattle.ods_files.specs.Body.{Body, body_at}
use Rattle.ods_remains.specs.Candidates.{HasFirst}
use Rattle.ods_remains.specs.declared.scanned.Scanned.{Scanned}
use Rattle.ods_shell.specs.declared.form.Contents.{Contents}
use Rattle.ods_shell.specs.declared.scanned.HeaderName.{HeaderName}
use Rattle.ods_shell.specs.declared.scanned.Refound.{Refound}
use Rattle.ods_shell.specs.Rescued.{IsKept}

-- the file of the first header in this block is considered: it is not a reserved file, and not a directory
abbrev pub IsSought : List ℕ → Type 0
IsSought b = (5 < number_of b) × (is_directory_header (number_of b) b ≡ false)

-- this is the ID and the name in the first header at an LBN, and its file is considered
pub record IsNamedAt (I : List (List ℕ)) (first : ℕ) (found : HeaderName) : Type 0 where
  pub there : HasFirst I first
  pub sought : IsSought (block_at I first)
  pub number : found.file.number ≡ number_of (block_at I first)
  pub sequence : found.file.sequence ≡ sequence_of (block_at I first)
  pub name : string_bytes found.name ≡ ident_text (ident_of (block_at I first))

-- The body of a file that a scan found: the blocks that its headers name, with zeros for blocks past the image, and the attributes of its first
-- header.
abbrev pub body_found : List (List ℕ) → ℕ → List ℕ → Body
body_found I first lbns = body_at I lbns (attributes_of (block_at I first))

-- The missing part of a file: nothing; a header, if the chain is cut; or one of these blocks, which is past the image.
abbrev pub IsMissing : List (List ℕ) → List ℕ → Bool → Option ChainFault → Type 0
IsMissing I lbns cut None = (cut ≡ false) × AreInside I lbns
IsMissing I lbns cut (Some BadChain) = cut ≡ true
IsMissing I lbns cut (Some (OutsideVolume lbn)) = (cut ≡ false) × Contains lbns lbn × (length I ≤ lbn)
IsMissing I lbns cut (Some NoMemory) = ⊥

-- The kept contents of a file with this body: nothing if a part is missing, unless parts are requested. With `text`, its lines, as for any rescued
-- file.
abbrev pub IsKeptPart : Bool → Bool → Body → Option ChainFault → Option Contents → Type 0
IsKeptPart text partial body missing None = (partial ≡ false) × (missing ≢ None)
IsKeptPart text partial body missing (Some kept) = (partial ≡ false → missing ≡ None) × IsKept text body kept

-- This is the result for the file of the first header at an LBN: its missing part, and its kept contents.
pub record IsRefound (I : List (List ℕ)) (first : ℕ) (text partial : Bool) (file : Scanned) (found : Refound) : Type 0 where
  pub missing : IsMissing I file.blocks.items file.is_cut found.missing
  pub kept : IsKeptPart text partial (body_found I first file.blocks.items) found.missing found.contents

-- the header at the LBN with index i has the number of the header before it or after it in the list
abbrev pub HasItsNumberBeside : List (List ℕ) → List ℕ → ℕ → Type 0
HasItsNumberBeside I lbns i =
    ((0 < i) × (number_of (block_at I (slice_index lbns (i - 1))) ≡ number_of (block_at I (slice_index lbns i))))
    ⊎ ((i + 1 < length lbns) × (number_of (block_at I (slice_index lbns (i + 1))) ≡ number_of (block_at I (slice_index lbns i))))
