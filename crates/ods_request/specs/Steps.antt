-- The effect of an accepted request on a catalogue, and its answer.
use Rattle.std.specs.Prelude.{ℕ, ◌+◌, ◌-◌, ◌%◌, ◌/◌, Bool, not, ◌&&◌, ◌==◌, nat_le, bit_and, List, [], ◌∷◌, ◌++◌, length, replicate, slice_index_or, slice_set, take, if◌then◌else◌, is_some, unwrap_or, Option, Some, None}
use Rattle.std.specs.List.{list_any, flat_map}
use Rattle.std.specs.Option.{option_and_then}
use Rattle.std.specs.FinMap as map
use Rattle.std.specs.FinSet as set
use Rattle.ods_base.specs.declared.file_id.Uic.{Uic}
use Rattle.ods_base.specs.declared.file_id.FileId.{FileId}
use Rattle.ods_base.specs.Block.{zeros}
use Rattle.ods_base.specs.Name.{RadName, directory_type, key_of}
use Rattle.ods_base.specs.declared.name.Pick.{Pick}
use Rattle.ods_request.specs.declared.requests.Request.{Request}
use Rattle.ods_request.specs.declared.requests.Request.TheVariants.{Create, Extend, Truncate, Delete, Enter, LookUp, Remove, Read, Write, List as Lines, Stat, SetUser}
use Rattle.ods_request.specs.declared.answers.Answer.{Answer}
use Rattle.ods_request.specs.declared.answers.Answer.TheVariants as answer
use Rattle.ods_request.specs.declared.answers.Kind.{Kind}
use Rattle.ods_request.specs.declared.answers.Kind.TheVariants as kind
use Rattle.ods_request.specs.declared.answers.Entry.{Entry}
use Rattle.ods_base.specs.Names.{entered_version as version_entered, picked_version, lines_of}
use Rattle.ods_request.specs.Catalogue.{Catalogue, File, Body, System, Directory, Plain, names_of, blocks_of, attributes_of}
use Rattle.ods_request.specs.Equal.{same_answer}
use Rattle.ods_request.specs.Faults.{fault_of}

-- the value for a missing file; an accepted request never reads it
abbrev pub no_file : File
no_file = record { owner = record { group = 0; member = 0 }; protection = 0; user_char = 0; system_char = 0; ident = []; body = System }

-- the value for a missing ID
abbrev pub no_id : FileId
no_id = record { number = 0; sequence = 0 }

-- the file of this ID
abbrev pub file_at : Catalogue → FileId → File
file_at C id = unwrap_or (map.get C.files id) no_file

-- blocks of zeros
abbrev pub zero_blocks : ℕ → List (List ℕ)
zero_blocks n = replicate n zeros

-- the two bytes of a word, the low one first
abbrev pub word_bytes : ℕ → List ℕ
word_bytes w = w % 256 ∷ w / 256 ∷ []

-- The ident of a new file, 46 bytes: the name, the type and the version, revision 1, the stamp as its date of revision and of creation, no date of
-- expiry, and an unused byte.
abbrev pub new_ident : RadName → ℕ → List ℕ → List ℕ
new_ident name version stamp =
    flat_map word_bytes (name.words ++ name.ext ∷ version ∷ 1 ∷ []) ++ stamp ++ stamp ++ replicate 8 0

-- the body of a new file: a directory without names, or blocks of zeros
abbrev pub new_body : RadName → ℕ → Body
new_body name blocks = if name.ext == directory_type then Directory map.empty else Plain (replicate 32 0) (zero_blocks blocks)

-- a new file of this user
abbrev pub new_file : Catalogue → Uic → RadName → ℕ → ℕ → List ℕ → File
new_file C who name version blocks stamp = record {
  owner = who;
  protection = C.default;
  user_char = 0;
  system_char = 0;
  ident = new_ident name version stamp;
  body = new_body name blocks;
}

-- a file has this number
abbrev pub is_used : Catalogue → ℕ → Bool
is_used C number = list_any (λ id. id.number == number) (map.keys C.files)

-- an ID that is free for a new file: it is not in the past, its number is unused, and its number is at least 6
abbrev pub is_new : Catalogue → FileId → Bool
is_new C id = not (set.contains C.past id) && (not (is_used C id.number) && (nat_le 6 id.number && nat_le id.number 65535))

-- the catalogue after a file is made
abbrev pub created : Catalogue → FileId → File → Catalogue
created C id f = record { files = map.insert C.files id f; past = set.insert C.past id; default = C.default }

-- the catalogue with another file under this ID
abbrev pub put : Catalogue → FileId → File → Catalogue
put C id f = record { files = map.insert C.files id f; past = C.past; default = C.default }

-- the file with another body
abbrev pub with_body : File → Body → File
with_body f body = record { owner = f.owner; protection = f.protection; user_char = f.user_char; system_char = f.system_char; ident = f.ident; body = body }

-- the catalogue with another body in a file
abbrev pub put_body : Catalogue → FileId → Body → Catalogue
put_body C id body = put C id (with_body (file_at C id) body)

-- the characteristics without the bit for contiguous blocks
abbrev pub not_contiguous : ℕ → ℕ
not_contiguous char = bit_and char 127

-- the file with blocks of zeros appended; it is no longer contiguous
abbrev pub grown : File → ℕ → File
grown f blocks = record {
  owner = f.owner;
  protection = f.protection;
  user_char = not_contiguous f.user_char;
  system_char = f.system_char;
  ident = f.ident;
  body = Plain (attributes_of f.body) (blocks_of f.body ++ zero_blocks blocks);
}

-- the body with another block at this VBN, counted from 1
abbrev pub written : Body → ℕ → List ℕ → Body
written body vbn block = Plain (attributes_of body) (slice_set (blocks_of body) (vbn - 1) block)

-- the body with only its first `count` blocks
abbrev pub first_blocks : Body → ℕ → Body
first_blocks body count = Plain (attributes_of body) (take count (blocks_of body))

-- the version under which a name is entered in a directory of the catalogue
abbrev pub entered_version : Catalogue → FileId → RadName → Option ℕ → ℕ
entered_version C dir name version = version_entered (names_of (file_at C dir).body) name version

-- the version that a pick selects, and 0 if there is none
abbrev pub found_version : Catalogue → FileId → RadName → Pick → ℕ
found_version C dir name pick = unwrap_or (picked_version (names_of (file_at C dir).body) name pick) 0

-- the file that a pick selects
abbrev pub found_file : Catalogue → FileId → RadName → Pick → FileId
found_file C dir name pick = unwrap_or (map.get (names_of (file_at C dir).body) (key_of name (found_version C dir name pick))) no_id

-- the kind of a body
abbrev pub kind_of : Body → Kind
kind_of System = kind.System
kind_of (Directory names) = kind.Directory (map.len names)
kind_of (Plain attributes blocks) = kind.Plain (length blocks) attributes

-- The answer to a request that is not refused. Create has another: its ID is chosen by the volume.
unfoldable pub answer_of : Catalogue → Request → Answer
answer_of C (Create name version blocks stamp) = answer.Done
answer_of C (Extend file blocks) = answer.Extended (length (blocks_of (file_at C file).body) + blocks)
answer_of C (Truncate file blocks) = answer.Truncated blocks
answer_of C (Delete file) = answer.Done
answer_of C (Enter dir name version file) = answer.Entered (entered_version C dir name version)
answer_of C (LookUp dir name pick) = answer.Found (found_file C dir name pick) (found_version C dir name pick)
answer_of C (Remove dir name pick) = answer.Removed (found_file C dir name pick) (found_version C dir name pick)
answer_of C (Read file vbn) = answer.Bytes (slice_index_or (blocks_of (file_at C file).body) (vbn - 1) [])
answer_of C (Write file vbn block) = answer.Done
answer_of C (Lines dir) = answer.Names (lines_of (names_of (file_at C dir).body))
answer_of C (Stat file) = let f = file_at C file in
    answer.Info (record { file = file; ident = f.ident; owner = f.owner; protection = f.protection; user_char = f.user_char; system_char = f.system_char; kind = kind_of f.body })
answer_of C (SetUser file attributes) = answer.Done

-- the catalogue after a request that is not refused, except for Create
unfoldable pub after : Catalogue → Request → Catalogue
after C (Create name version blocks stamp) = C
after C (Extend file blocks) = put C file (grown (file_at C file) blocks)
after C (Truncate file blocks) = put_body C file (first_blocks (file_at C file).body blocks)
after C (Delete file) = record { files = map.remove C.files file; past = C.past; default = C.default }
after C (Enter dir name version file) = let names = names_of (file_at C dir).body in
    put_body C dir (Directory (map.insert names (key_of name (entered_version C dir name version)) file))
after C (LookUp dir name pick) = C
after C (Remove dir name pick) = let names = names_of (file_at C dir).body in
    put_body C dir (Directory (map.remove names (key_of name (found_version C dir name pick))))
after C (Read file vbn) = C
after C (Write file vbn block) = put_body C file (written (file_at C file).body vbn block)
after C (Lines dir) = C
after C (Stat file) = C
after C (SetUser file attributes) = put_body C file (Plain attributes (blocks_of (file_at C file).body))

-- the ID of the created file in an answer
abbrev pub created_id : Answer → Option FileId
created_id (answer.Created id) = Some id
created_id (answer.Extended count) = None
created_id (answer.Truncated count) = None
created_id answer.Done = None
created_id (answer.Entered version) = None
created_id (answer.Found file version) = None
created_id (answer.Removed file version) = None
created_id (answer.Bytes block) = None
created_id (answer.Names lines) = None
created_id (answer.Info stat) = None

-- the catalogue after a file is made, if the ID is free
abbrev pub create : Catalogue → File → Option FileId → Option Catalogue
create C f None = None
create C f (Some id) = if is_new C id then Some (created C id f) else None

-- the step of a request that is not refused
unfoldable pub change : Catalogue → Uic → Request → Answer → Option Catalogue
change C who (Create name version blocks stamp) a = create C (new_file C who name version blocks stamp) (created_id a)
change C who r a = if same_answer a (answer_of C r) then Some (after C r) else None

-- the catalogue after a request with its answer; None if the request is refused or the answer is another
unfoldable pub step : Catalogue → Uic → Request → Answer → Option Catalogue
step C who r a = if is_some (fault_of C who r) then None else change C who r a

-- the catalogue after the entries in order; None if one entry has no step
abbrev pub replay : Catalogue → List Entry → Option Catalogue
replay C [] = Some C
replay C (e ∷ entries) = option_and_then (λ D. replay D entries) (step C e.who e.request e.answer)
