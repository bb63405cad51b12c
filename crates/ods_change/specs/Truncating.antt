-- The cut of a chain, and the facts about a file that a user may cut.
use Rattle.std.specs.Prelude.{◌≡◌, ℕ, ◌+◌, ◌-◌, ◌<◌, ◌≤◌, ◌⊎◌, false, List, [], ◌∷◌, ◌++◌, length, Option, None, Some}
use Rattle.std.specs.FinMap as map
use Rattle.ods_base.specs.declared.file_id.FileId.{FileId}
use Rattle.ods_base.specs.declared.file_id.Uic.{Uic}
use Rattle.ods_header.specs.Header.{IsValidHeader, blocks_of, is_directory_header}
use Rattle.ods_space.specs.Chain.{headers_of, named_by}
use Rattle.ods_space.specs.Files.{HasBlocks}
use Rattle.ods_space.specs.Layout.{VolumeLayout, header_at}
use Rattle.ods_request.specs.declared.requests.Request.TheVariants.{Truncate}
use Rattle.ods_request.specs.Catalogue.{Catalogue}
use Rattle.ods_request.specs.Faults.{fault_of}
use Rattle.ods_state.specs.declared.known_end.KnownEnd.{KnownEnd}
use Rattle.ods_state.specs.Contents.{ShowsBy}
use Rattle.ods_look.specs.Opening.{IsFileId, file_shown}
use Rattle.ods_change.specs.declared.truncate_file.CutPlace.{CutPlace}

-- The chain of file n is cut in this header if the file keeps `count` blocks: the headers before it have fewer, and it has the rest of the kept
-- blocks, `left` blocks.
pub record IsCutPlace (I : List (List ℕ)) (L : VolumeLayout) (n count : ℕ) (place : CutPlace) : Type 0 where
  pub front : List (ℕ × List ℕ)
  pub parts : headers_of I L n ≡ front ++ (place.number, place.header.now) ∷ place.behind
  pub fewer : (front ≡ []) ⊎ (length (named_by front) < count)
  pub left : count ≡ length (named_by front) + place.left
  pub has : place.left ≤ length (blocks_of place.header.now)
  pub valid : IsValidHeader place.header.now place.number

-- the file is plain and not a reserved file, has at least `count` blocks, and the user may cut it
pub record IsCuttable (I : List (List ℕ)) (L : VolumeLayout) (who : Uic) (id : FileId) (count : ℕ) : Type 0 where
  pub file : IsFileId I L id
  pub number : 5 < id.number
  pub kind : is_directory_header id.number (header_at I L id.number) ≡ false
  pub lbns : List ℕ
  pub held : HasBlocks I L id.number lbns
  pub enough : count ≤ length lbns
  pub there : (C : Catalogue) → ShowsBy I L C → map.get C.files id ≡ Some (file_shown I L id lbns)
  pub fine : (C : Catalogue) → ShowsBy I L C → fault_of C who (Truncate id count) ≡ None

-- The note after file n keeps `count` blocks: the end of its chain was noted, and its last header keeps some of its own blocks.
pub record IsCutEnd (I : List (List ℕ)) (L : VolumeLayout) (n count : ℕ) (known : Option KnownEnd) (after : KnownEnd) : Type 0 where
  pub end : KnownEnd
  pub noted : known ≡ Some end
  pub own : end.file ≡ n
  pub fits : count ≤ end.blocks
  pub within : end.blocks - count < length (blocks_of (header_at I L end.last))
  pub is : after ≡ record { file = end.file; headers = end.headers; blocks = count; last = end.last }
