-- The facts of a file from its first header and its blocks.
use Rattle.std.specs.Prelude.{◌≡◌, ℕ, ◌*◌, ◌<◌, ◌≤◌, Bool, true, false, List, [], length, codes, slice_range, if◌then◌else◌, is_some}
use Rattle.std.specs.List.{All, Contains}
use Rattle.ods_base.specs.Block.{word}
use Rattle.ods_header.specs.Header.{sequence_of, owner_of, protection_of, user_char_of, system_char_of, ident_of, attributes_of, is_directory_header}
use Rattle.ods_space.specs.Layout.{VolumeLayout, header_at}
use Rattle.ods_space.specs.Files.{IsFile, HasBlocks}
use Rattle.ods_space.specs.Reach.{ReachesBy}
use Rattle.ods_mount.specs.Sound.{IsSoundBy}
use Rattle.ods_files.specs.Body.{are_zeros, end_of}
use Rattle.ods_records.specs.Attributes.{kind_in, is_controlled}
use Rattle.ods_shell.specs.declared.facts.Condition.{Condition}
use Rattle.ods_shell.specs.declared.facts.Condition.TheVariants.{Whole, Broken, Outside}
use Rattle.ods_shell.specs.declared.facts.Kind.{Kind}
use Rattle.ods_shell.specs.declared.facts.Kind.TheVariants.{Directory, Text, Records, Binary}
use Rattle.ods_shell.specs.declared.facts.Facts.{Facts}

-- the kind of file n by its first header: a directory; records with a length, with or without carriage control; otherwise bytes
abbrev pub kind_by : ℕ → List ℕ → Kind
kind_by n header =
    if is_directory_header n header then Directory
    else if is_some (kind_in (attributes_of header)) then (if is_controlled (attributes_of header) then Text else Records)
    else Binary

-- the word for the kind of a file
abbrev pub kind_word : Kind → List ℕ
kind_word Directory = codes "directory"
kind_word Text = codes "text"
kind_word Records = codes "records"
kind_word Binary = codes "binary"

-- the word for the condition of a file
abbrev pub condition_word : Condition → List ℕ
condition_word Whole = []
condition_word Broken = codes "chain broken"
condition_word Outside = codes "outside"

-- The condition of a file whose headers name these LBNs, in an image of `len` blocks: whole; or a header is missing; or each header is present, and
-- a block is past the image.
abbrev pub HasCondition : ℕ → List ℕ → Bool → Condition → Type 0
HasCondition len lbns whole Whole = (whole ≡ true) × All (λ lbn. lbn < len) lbns
HasCondition len lbns whole Broken = whole ≡ false
HasCondition len lbns whole Outside = (whole ≡ true) × (lbn : ℕ) × Contains lbns lbn × (len ≤ lbn)

-- the 13 bytes of the date of creation in an ident area
abbrev pub created_in : List ℕ → List ℕ
created_in ident = slice_range ident 25 38

-- the 13 bytes of the date of the last revision in an ident area
abbrev pub revised_in : List ℕ → List ℕ
revised_in ident = slice_range ident 12 25

-- the number of revisions in an ident area
abbrev pub revision_in : List ℕ → ℕ
revision_in ident = word ident 5

-- The number of bytes of a file: up to the end in its attributes, which may be past its blocks; all bytes if the attributes are zeros.
abbrev pub bytes_by : List ℕ → ℕ → ℕ
bytes_by attributes blocks = if are_zeros attributes then 512 * blocks else end_of attributes

-- the facts of file n from its first header and its number of blocks
abbrev pub facts_in : ℕ → List ℕ → ℕ → Condition → Facts
facts_in n header blocks condition = record {
  file = record { number = n; sequence = sequence_of header };
  kind = kind_by n header;
  condition = condition;
  blocks = blocks;
  bytes = bytes_by (attributes_of header) blocks;
  owner = owner_of header;
  protection = protection_of header;
  user_char = user_char_of header;
  system_char = system_char_of header;
  ident = ident_of header;
  attributes = attributes_of header;
}

-- These are the facts of file n: its headers, up to the last present one, name these LBNs.
pub record AreFacts (I : List (List ℕ)) (L : VolumeLayout) (n : ℕ) (facts : Facts) : Type 0 where
  pub file : IsFile I L n
  pub lbns : List ℕ
  pub whole : Bool
  pub reached : ReachesBy I L n lbns whole
  pub condition : HasCondition (length I) lbns whole facts.condition
  pub are : facts ≡ facts_in n (header_at I L n) (length lbns) facts.condition

-- the facts of file n, which has a whole chain
abbrev pub AreFactsOfWhole : List (List ℕ) → VolumeLayout → ℕ → Facts → Type 0
AreFactsOfWhole I L n facts = (lbns : List ℕ) × HasBlocks I L n lbns × (facts ≡ facts_in n (header_at I L n) (length lbns) Whole)

-- On a sound image each file with facts has a whole chain.
abbrev pub FactsOfSound : Type 0
FactsOfSound = (I : List (List ℕ)) (L : VolumeLayout) (n : ℕ) (facts : Facts) → IsSoundBy I L → AreFacts I L n facts → AreFactsOfWhole I L n facts
