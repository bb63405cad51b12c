-- A file that is put into a volume: its blocks, and the catalogue afterwards.
use Rattle.std.specs.Prelude.{◌≡◌, ℕ, ◌+◌, ◌-◌, ◌*◌, ◌/◌, List, ◌++◌, length, map, take, drop, replicate, None}
use Rattle.std.specs.List.{range_with_len}
use Rattle.std.specs.FinMap as finmap
use Rattle.ods_base.specs.declared.file_id.FileId.{FileId}
use Rattle.ods_base.specs.declared.file_id.Uic.{Uic}
use Rattle.ods_base.specs.Block.{zeros}
use Rattle.ods_base.specs.Name.{RadName}
use Rattle.ods_request.specs.Catalogue.{Catalogue, File, Body}
use Rattle.ods_request.specs.Steps.{created, new_ident}
use Rattle.ods_state.specs.Contents.{ShowsBy}
use Rattle.ods_filing.specs.declared.put.NewFile.{NewFile}
use Rattle.ods_filing.specs.Filed.{Filed}

-- the number of blocks for these bytes
abbrev pub block_count : List ℕ → ℕ
block_count bytes = (length bytes + 511) / 512

-- their block k, counted from 0: 512 bytes, padded with zeros
abbrev pub block_with : List ℕ → ℕ → List ℕ
block_with bytes k = take 512 (drop (512 * k) bytes ++ zeros)

-- their blocks
abbrev pub blocks_with : List ℕ → List (List ℕ)
blocks_with bytes = map (block_with bytes) (range_with_len 0 (block_count bytes))

-- k of them are written, and the other blocks up to `count` are zeros
abbrev pub so_far : List ℕ → ℕ → ℕ → List (List ℕ)
so_far bytes count k = map (block_with bytes) (range_with_len 0 k) ++ replicate (count - k) zeros

-- the fields of the ident of a new file
pub record Heading : Type 0 where
  pub name : RadName
  pub version : ℕ
  pub stamp : List ℕ

abbrev pub heading_of : NewFile → Heading
heading_of f = record { name = f.name; version = f.version; stamp = f.stamp }

-- a file of this user, with this protection, this heading in its ident, and this body
abbrev pub file_with : Uic → ℕ → Heading → Body → File
file_with who protection h body = record {
  owner = who;
  protection = protection;
  user_char = 0;
  system_char = 0;
  ident = new_ident h.name h.version h.stamp;
  body = body;
}

-- One more file: the blocks show each former catalogue with this file added, which belongs to the user and has the default protection, under an ID
-- that no file had.
pub record IsAdded (old : Filed) (h : Heading) (id : FileId) (body : Body) (new : Filed) : Type 0 where
  pub free : (C : Catalogue) → ShowsBy old.image old.layout C → finmap.get C.files id ≡ None
  pub shown : (C : Catalogue) → ShowsBy old.image old.layout C → ShowsBy new.image new.layout (created C id (file_with old.user C.default h body))
  pub user : new.user ≡ old.user
