-- First headers of new files, as this software makes them.
use Rattle.std.specs.Prelude.{ℕ, List, []}
use Rattle.ods_base.specs.declared.file_id.FileId.{FileId}
use Rattle.ods_base.specs.declared.file_id.Uic.{Uic}
use Rattle.ods_header.specs.declared.header.Header.{Header}

-- the fields of the first header of a new file: no characteristics, no next header, no pointer
abbrev pub primary_header : FileId → Uic → ℕ → List ℕ → List ℕ → Header
primary_header file owner protection attributes ident = record {
  file = file;
  owner = owner;
  protection = protection;
  user_char = 0;
  system_char = 0;
  attributes = attributes;
  ident = ident;
  segment = 0;
  next = record { number = 0; sequence = 0 };
  next_volume = 0;
  ident_offset = 23;
  map_offset = 46;
  most_words = 204;
  pointers = record { items = [] };
}
