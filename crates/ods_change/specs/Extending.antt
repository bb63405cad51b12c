-- The facts about a file that a user may extend, and the blocks after its growth.
use Rattle.std.specs.Prelude.{◌≡◌, ℕ, ◌<◌, ◌≤◌, false, List, None, Some}
use Rattle.std.specs.FinMap as map
use Rattle.ods_base.specs.declared.file_id.FileId.{FileId}
use Rattle.ods_base.specs.declared.file_id.Uic.{Uic}
use Rattle.ods_header.specs.Header.{attributes_of, ident_of, is_directory_header, owner_of, protection_of, sequence_of, system_char_of, user_char_of}
use Rattle.ods_space.specs.Files.{HasBlocks, IsFile}
use Rattle.ods_space.specs.Layout.{VolumeLayout, header_at}
use Rattle.ods_request.specs.declared.requests.Request.TheVariants.{Extend}
use Rattle.ods_request.specs.Catalogue.{Catalogue}
use Rattle.ods_request.specs.Faults.{fault_of}
use Rattle.ods_request.specs.Steps.{not_contiguous}
use Rattle.ods_alloc.specs.Extend.{cut}
use Rattle.ods_state.specs.Change.{disk}
use Rattle.ods_state.specs.Contents.{ShowsBy}
use Rattle.ods_state.specs.Made.{AreMade, AreZeroed}
use Rattle.ods_state.specs.Wants.{HasHeaders, index_growth, lack_of, allocated_blocks, allocated_numbers}
use Rattle.ods_state.specs.Growth.{IsGrowth}
use Rattle.ods_look.specs.Opening.{IsFileId, file_shown}
use Rattle.ods_change.specs.declared.growing.Growing.{Growing}

-- the file is plain and not a reserved file, and the user may extend it by `count` blocks
pub record IsExtensible (I : List (List ℕ)) (L : VolumeLayout) (who : Uic) (id : FileId) (count : ℕ) : Type 0 where
  pub file : IsFileId I L id
  pub number : 5 < id.number
  pub kind : is_directory_header id.number (header_at I L id.number) ≡ false
  pub count_fits : count ≤ 65535
  pub lbns : List ℕ
  pub held : HasBlocks I L id.number lbns
  pub there : (C : Catalogue) → ShowsBy I L C → map.get C.files id ≡ Some (file_shown I L id lbns)
  pub fine : (C : Catalogue) → ShowsBy I L C → fault_of C who (Extend id count) ≡ None

-- header c has the same fields for its file as header b, with these user characteristics
pub record SaysWith (char : ℕ) (b c : List ℕ) : Type 0 where
  pub sequence : sequence_of c ≡ sequence_of b
  pub owner : owner_of c ≡ owner_of b
  pub protection : protection_of c ≡ protection_of b
  pub user_char : user_char_of c ≡ char
  pub system_char : system_char_of c ≡ system_char_of b
  pub attributes : attributes_of c ≡ attributes_of b
  pub ident : ident_of c ≡ ident_of b
  pub kind : (n : ℕ) → is_directory_header n c ≡ is_directory_header n b

-- the same fields, without the mark that its blocks are contiguous
abbrev pub SaysGrown : List ℕ → List ℕ → Type 0
SaysGrown b c = SaysWith (not_contiguous (user_char_of b)) b c

-- file n has these headers and blocks, and this is what it takes to gain `count` more; INDEXF.SYS has a block for each of the numbers
pub record IsWanted (I : List (List ℕ)) (L : VolumeLayout) (n : ℕ) (headers old : List ℕ) (count : ℕ) (g : Growing) : Type 0 where
  pub file : IsFile I L n
  pub has : HasHeaders I L n headers old
  pub blocks : g.blocks.items ≡ allocated_blocks I L count
  pub runs : g.runs.items ≡ cut g.blocks.items
  pub numbers : g.numbers.items ≡ allocated_numbers I L headers count
  pub enough : lack_of I L headers count ≡ None
  pub no_growth : index_growth L (allocated_numbers I L headers count) ≡ 0

-- J is I with file n grown: its new blocks are zeros, its new headers are complete, and the first header keeps all its fields except UC.CON
pub record IsGrownBy (I : List (List ℕ)) (L : VolumeLayout) (n : ℕ) (headers old : List ℕ) (count : ℕ) (numbers : List ℕ) (J : List (List ℕ)) : Type 0 where
  pub grown : IsGrowth I J L n headers old count numbers
  pub made : AreMade (disk I L) (disk J L) headers (allocated_numbers I L headers count)
  pub zeroed : AreZeroed (disk I L) (disk J L) count
  pub first : SaysGrown (header_at I L n) (header_at J L n)
