-- The facts of deleted files whose headers are still present, and the deleted files that a path selects.
use Rattle.std.specs.Prelude.{◌≡◌, ℕ, Bool, List, length, Option, Some, None, MatchBool, option_map}
use Rattle.std.specs.List.{AllZip, range_with_len}
use Rattle.ods_base.specs.Block.{word}
use Rattle.ods_base.specs.Name.{IsName}
use Rattle.ods_base.specs.declared.file_id.FileId.{FileId}
use Rattle.ods_header.specs.Header.{attributes_of, ident_of, sequence_of}
use Rattle.ods_space.specs.Layout.{VolumeLayout, last_number}
use Rattle.ods_remains.specs.Deleted.{IsDeletedFile, IsFormerChain, counted, former, used_again}
use Rattle.ods_remains.specs.Idents.{name_in}
use Rattle.ods_remains.specs.Shared.{IsWhole}
use Rattle.ods_remains.specs.Summary.{IsSharerOrSelf, missing_header}
use Rattle.ods_remains.specs.declared.summary.Summary.{Summary}
use Rattle.ods_paths.specs.declared.versions.Versions.{Versions}
use Rattle.ods_paths.specs.declared.versions.Versions.TheVariants.{Exact, Highest, Lowest, Every}
use Rattle.ods_paths.specs.Paths.{Files}
use Rattle.ods_shell.specs.Choosing.{AreThose, IsMatched}
use Rattle.ods_shell.specs.Facts.{bytes_by}
use Rattle.ods_shell.specs.declared.deleted.Deletion.{Deletion}

-- the ID in the deleted header n
abbrev pub deleted_id : List (List ℕ) → VolumeLayout → ℕ → FileId
deleted_id I L n = record { number = n; sequence = sequence_of (former I L n) }

-- A deleted file that shares blocks with the deleted file n, which has these blocks: another file that names one of them, or n itself if there is
-- none and n names one twice.
abbrev pub SharesWith : List (List ℕ) → VolumeLayout → ℕ → List ℕ → Option FileId → Type 0
SharesWith I L n blocks id = (sharer : Option ℕ) × (id ≡ option_map (deleted_id I L) sharer) × IsSharerOrSelf I L n blocks sharer

-- the facts of the deleted file n with this first header and this summary
abbrev pub deletion_by : ℕ → List ℕ → Summary → Option FileId → Deletion
deletion_by n header summary sharer = record {
  file = record { number = n; sequence = sequence_of header };
  ident = ident_of header;
  blocks = summary.blocks;
  bytes = bytes_by (attributes_of header) summary.blocks;
  used = summary.used;
  missing = summary.missing;
  sharer = sharer;
  whole = summary.is_whole;
}

-- these are the facts of the deleted file n, which has these headers and these blocks
pub record IsDeletionBy (I : List (List ℕ)) (L : VolumeLayout) (n : ℕ) (numbers lbns : List ℕ) (ends : Bool) (d : Deletion) : Type 0 where
  pub follows : IsFormerChain I L n numbers lbns ends
  pub id : d.file ≡ deleted_id I L n
  pub named : d.ident ≡ ident_of (former I L n)
  pub held : d.blocks ≡ counted (length lbns)
  pub sized : d.bytes ≡ bytes_by (attributes_of (former I L n)) d.blocks
  pub reused : d.used ≡ counted (used_again I L lbns)
  pub cut : d.missing ≡ missing_header numbers ends
  pub shared : SharesWith I L n lbns d.sharer
  pub complete : MatchBool d.whole (IsWhole I L n lbns ends) (¬ IsWhole I L n lbns ends)

-- these are the facts of the deleted file n
abbrev pub IsDeletion : List (List ℕ) → VolumeLayout → ℕ → Deletion → Type 0
IsDeletion I L n d = (numbers : List ℕ) × (lbns : List ℕ) × (ends : Bool) × IsDeletionBy I L n numbers lbns ends d

-- A version is selected unless another one is specified. The former entries of directories are unknown, so no version is the highest or the lowest.
abbrev pub HasVersion : Option Versions → ℕ → Type 0
HasVersion None version = Unit {0}
HasVersion (Some (Exact said)) version = version ≡ said
HasVersion (Some Highest) version = Unit {0}
HasVersion (Some Lowest) version = Unit {0}
HasVersion (Some Every) version = Unit {0}

-- A deleted file is selected by the name in its ident: any name if no files are specified. Otherwise its words spell a valid name that the patterns
-- match.
abbrev pub IsSought : Option Files → List ℕ → Type 0
IsSought None ident = Unit {0}
IsSought (Some files) ident = IsName (name_in ident) × IsMatched files (name_in ident) × HasVersion files.versions (word ident 4)

-- n is a selected deleted file
abbrev pub IsSoughtFile : List (List ℕ) → VolumeLayout → Option Files → ℕ → Type 0
IsSoughtFile I L files n = IsDeletedFile I L n × IsSought files (ident_of (former I L n))

-- these are the facts of exactly the selected deleted files, in the order of their numbers
abbrev pub AreDeletions : List (List ℕ) → VolumeLayout → Option Files → List Deletion → Type 0
AreDeletions I L files all =
    (numbers : List ℕ) × AreThose (IsSoughtFile I L files) (range_with_len 1 (last_number L)) numbers × AllZip (IsDeletion I L) numbers all
