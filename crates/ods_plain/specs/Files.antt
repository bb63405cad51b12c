-- Files of the program as files of a catalogue.
use Rattle.std.specs.Prelude.{Bool, true, false, nat_le}
use Rattle.ods_base.specs.declared.file_id.FileId.{FileId}
use Rattle.ods_request.specs.Catalogue.{File, Body, System, Directory, Plain}
use Rattle.ods_plain.specs.declared.files.File.{File as PlainFile}
use Rattle.ods_plain.specs.declared.files.Body.{Body as PlainBody}
use Rattle.ods_plain.specs.declared.files.Body.TheVariants as plain

-- the body
abbrev pub body_of : PlainBody → Body
body_of plain.System = System
body_of (plain.Directory names) = Directory names
body_of (plain.Plain attributes blocks) = Plain attributes blocks.items

-- the file
abbrev pub file_of : PlainFile → File
file_of f = record { owner = f.owner; protection = f.protection; user_char = f.user_char; system_char = f.system_char; ident = f.ident; body = body_of f.body }

-- only files 1 to 5 may be system files
abbrev pub may_have : FileId → Body → Bool
may_have id System = nat_le id.number 5
may_have id (Directory names) = true
may_have id (Plain attributes blocks) = true

-- the file is plain
abbrev pub is_plain : Body → Bool
is_plain System = false
is_plain (Directory names) = false
is_plain (Plain attributes blocks) = true
