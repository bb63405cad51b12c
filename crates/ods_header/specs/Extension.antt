-- Extension headers as this software makes them.
use Rattle.std.specs.Prelude.{◌≡◌, ℕ, List, replicate}
use Rattle.ods_base.specs.Block.{word}
use Rattle.ods_base.specs.declared.file_id.FileId.{FileId}
use Rattle.ods_header.specs.declared.header.Run.{Run}
use Rattle.ods_header.specs.declared.header.Header.{Header}
use Rattle.ods_header.specs.Header.{attributes_of, ident_of, ident_word, map_word, most_words_of, next_volume_of}
use Rattle.ods_header.specs.Pointing.{behind_pointers}
use Rattle.ods_header.specs.Writing.{AreZeros}

-- the fields of a new extension header of the file with this first header: the owner, protection and ident of the first header, no characteristics
-- and no attributes
abbrev pub extension_of : Header → FileId → ℕ → FileId → List Run → Header
extension_of first file segment next runs = record {
  file = file;
  owner = first.owner;
  protection = first.protection;
  user_char = 0;
  system_char = 0;
  attributes = replicate 32 0;
  ident = first.ident;
  segment = segment;
  next = next;
  next_volume = 0;
  ident_offset = 23;
  map_offset = 46;
  most_words = 204;
  pointers = record { items = runs };
}

-- b has the form that this software gives to a header. The ident is at word 23, the map at word 46, and there is room for 204 words of pointers. A
-- next header is on this volume. The bytes after the pointers are zeros.
pub record IsMadeHeader (b : List ℕ) : Type 0 where
  pub ident : ident_word b ≡ 23
  pub map : map_word b ≡ 46
  pub most : most_words_of b ≡ 204
  pub volume : next_volume_of b ≡ 0
  pub rest : AreZeros b (behind_pointers b) 510

-- b is an extension header as this software makes it, for a file whose first header is f
pub record IsExtensionOf (f b : List ℕ) : Type 0 where
  pub form : IsMadeHeader b
  -- the owner, the protection and the ident belong to the first header
  pub copied : (word b 4 ≡ word f 4) × (word b 5 ≡ word f 5) × (ident_of b ≡ ident_of f)
  -- characteristics and attributes are zero
  pub plain : (word b 6 ≡ 0) × (attributes_of b ≡ replicate 32 0)
