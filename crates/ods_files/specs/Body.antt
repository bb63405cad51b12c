-- The bytes of a file: the bytes of its blocks in order, all of them or up to the end of file in its attributes.
use Rattle.std.specs.Prelude.{◌≡◌, ℕ, ◌+◌, ◌-◌, ◌*◌, ◌==◌, nat_le, nat_lt, Bool, List, [], length, map, take, Option, Some, None, if◌then◌else◌}
use Rattle.std.specs.List.{list_all}
use Rattle.std.specs.Option.{option_map}
use Rattle.std.specs.Io.KnownBytes.{Appends}
use Rattle.ods_base.specs.Block.{zeros}
use Rattle.ods_base.specs.Image.{block_at, image_bytes, TookBytes}
use Rattle.ods_header.specs.Header.{attributes_of}
use Rattle.ods_space.specs.Layout.{VolumeLayout, header_at}
use Rattle.ods_space.specs.Files.{IsFile, HasBlocks}
use Rattle.ods_space.specs.Faults.{IsChainFault}
use Rattle.ods_space.specs.Reach.{ReachesBy}
use Rattle.ods_directory.specs.Mark.{end_block, end_byte}
use Rattle.ods_mount.specs.Faults.{contents_of}
use Rattle.ods_files.specs.declared.form.Form.{Form}
use Rattle.ods_files.specs.declared.form.Form.TheVariants.{Binary, Raw}
use Rattle.ods_files.specs.declared.fault.FileFault.{FileFault}
use Rattle.ods_files.specs.declared.fault.FileFault.TheVariants.{NoSuchFile, Chain}
use Rattle.ods_files.specs.declared.fault.CopyFault.{CopyFault}
use Rattle.ods_files.specs.declared.fault.CopyFault.TheVariants.{EndPastBlocks, Write}

-- a file as its bytes are read: the bytes of each of its blocks, and the 32 bytes of its attributes
pub record Body : Type 0 where
  pub blocks : List (List ℕ)
  pub attributes : List ℕ

-- the block at this LBN, or zeros if it is past the image
abbrev pub block_or_zeros : List (List ℕ) → ℕ → List ℕ
block_or_zeros I lbn = if nat_lt lbn (length I) then block_at I lbn else zeros

-- the blocks at these LBNs, and zeros for those past the image
abbrev pub padded : List (List ℕ) → List ℕ → List (List ℕ)
padded I lbns = map (block_or_zeros I) lbns

-- the body of the blocks at these LBNs, with these attributes
abbrev pub body_at : List (List ℕ) → List ℕ → List ℕ → Body
body_at I lbns attributes = record { blocks = padded I lbns; attributes = attributes }

-- file n has a whole chain with these blocks, and its first header has these attributes
pub record HasBody (I : List (List ℕ)) (L : VolumeLayout) (n : ℕ) (body : Body) : Type 0 where
  pub lbns : List ℕ
  pub held : HasBlocks I L n lbns
  pub blocks : body.blocks ≡ contents_of I lbns
  pub attributes : body.attributes ≡ attributes_of (header_at I L n)

-- The blocks of file n whose headers exist, with zeros for the blocks past the image: all blocks if the chain is whole. Its first header has these
-- attributes.
pub record HasPart (I : List (List ℕ)) (L : VolumeLayout) (n : ℕ) (body : Body) (whole : Bool) : Type 0 where
  pub lbns : List ℕ
  pub reached : ReachesBy I L n lbns whole
  pub blocks : body.blocks ≡ padded I lbns
  pub attributes : body.attributes ≡ attributes_of (header_at I L n)

-- why there is no body: the number is not a file, or its chain is not whole, or out of memory
abbrev pub IsFileFault : List (List ℕ) → VolumeLayout → ℕ → FileFault → Type 0
IsFileFault I L n NoSuchFile = ¬ IsFile I L n
IsFileFault I L n (Chain fault) = IsFile I L n × IsChainFault I L n fault

-- the end of file in bytes: byte F.FFBY of block F.EFBK, counted from 1, and 0 if F.EFBK is 0
abbrev pub end_of : List ℕ → ℕ
end_of attributes = if end_block attributes == 0 then 0 else (end_block attributes - 1) * 512 + end_byte attributes

-- the attributes were never written
abbrev pub are_zeros : List ℕ → Bool
are_zeros attributes = list_all (λ b. b == 0) attributes

-- The number of bytes of a file in a form. Raw counts all blocks. Binary counts up to the end of file: there is none if it is past the blocks, and
-- all blocks count if the attributes are zeros.
abbrev pub size_in : Form → Body → Option ℕ
size_in Raw body = Some (512 * length body.blocks)
size_in Binary body =
    if are_zeros body.attributes then Some (512 * length body.blocks)
    else if nat_le (end_of body.attributes) (512 * length body.blocks) then Some (end_of body.attributes)
    else None

-- the bytes of a file in this form, if it has that form
abbrev pub bytes_in : Form → Body → Option (List ℕ)
bytes_in form body = option_map (λ size. take size (image_bytes body.blocks)) (size_in form body)

-- Why the bytes were not written, by the contents of the writer before and after. There is no end of file within the blocks, and the contents are
-- unchanged; or the writer failed, and took `fault.written` bytes.
abbrev pub IsCopyFault : Form → Body → Option (List ℕ) → Option (List ℕ) → CopyFault → Type 0
IsCopyFault form body old new EndPastBlocks = (bytes_in form body ≡ None) × Appends old new []
IsCopyFault form body old new (Write fault) = (bytes : List ℕ) × (bytes_in form body ≡ Some bytes) × TookBytes old new bytes fault.written
