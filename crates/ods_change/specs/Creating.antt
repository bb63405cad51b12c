-- A new file: the fields of its first header, and the blocks of its volume afterwards.
use Rattle.std.specs.Prelude.{◌≡◌, ℕ, ◌+◌, List, []}
use Rattle.std.specs.List.{Contains}
use Rattle.ods_base.specs.Block.{zeros}
use Rattle.ods_base.specs.Image.{block_at}
use Rattle.ods_base.specs.Name.{RadName}
use Rattle.ods_base.specs.declared.file_id.FileId.{FileId}
use Rattle.ods_base.specs.declared.file_id.Uic.{Uic}
use Rattle.ods_header.specs.First.{primary_header}
use Rattle.ods_header.specs.Header.{IsValidHeader, header_of, sequence_of}
use Rattle.ods_header.specs.Writing.{AreZeros}
use Rattle.ods_space.specs.Layout.{VolumeLayout, header_at}
use Rattle.ods_alloc.specs.Extend.{Extends}
use Rattle.ods_request.specs.Steps.{new_ident}
use Rattle.ods_state.specs.Moves.{new_attributes}
use Rattle.ods_state.specs.Wants.{allocated_blocks}
use Rattle.ods_state.specs.Growth.{IsReady}

-- the ID of a new file whose first header is n: the old sequence number of that header's block, plus one
abbrev pub new_id : List (List ℕ) → VolumeLayout → ℕ → FileId
new_id I L n = record { number = n; sequence = sequence_of (header_at I L n) + 1 }

-- b is the first header of a new file of this user, under this ID
pub record IsNewHeaderFor (who : Uic) (protection : ℕ) (id : FileId) (name : RadName) (version count : ℕ) (stamp b : List ℕ) : Type 0 where
  pub valid : IsValidHeader b id.number
  pub rest : AreZeros b 102 510
  pub fields : header_of b ≡ primary_header id who protection (new_attributes name count) (new_ident name version stamp)

-- J is I with file n made: b is its first header, its new blocks are zeros, and then its chain grows by them
pub record IsMadeFile (I : List (List ℕ)) (L : VolumeLayout) (n : ℕ) (b : List ℕ) (count : ℕ) (numbers : List ℕ) (J : List (List ℕ)) : Type 0 where
  pub ready : List (List ℕ)
  pub is_ready : IsReady I ready L n [] count
  pub first : header_at ready L n ≡ b
  pub zeroed : (x : ℕ) → Contains (allocated_blocks I L count) x → block_at ready x ≡ zeros
  pub extended : Extends ready L n [] [] (allocated_blocks I L count) numbers J
