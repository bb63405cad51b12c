-- The first refusal that holds for a request, by the catalogue only. The past has no effect.
use Rattle.std.specs.Prelude.{◌≡◌, ℕ, Bool, not, ◌||◌, ◌==◌, nat_le, nat_lt, List, [], ◌∷◌, length, is_none, if◌then◌else◌, Option, Some, None}
use Rattle.std.specs.FinMap as map
use Rattle.ods_base.specs.declared.file_id.Uic.{Uic}
use Rattle.ods_base.specs.declared.file_id.FileId.{FileId}
use Rattle.ods_base.specs.Name.{RadName, key_of}
use Rattle.ods_request.specs.declared.refusals.Refusal.{Refusal}
use Rattle.ods_request.specs.declared.refusals.Refusal.TheVariants as refusal
use Rattle.ods_request.specs.declared.requests.Request.{Request}
use Rattle.ods_request.specs.declared.requests.Request.TheVariants.{Create, Extend, Truncate, Delete, Enter, LookUp, Remove, Read, Write, List as Lines, Stat, SetUser}
use Rattle.ods_request.specs.declared.rights.Right.{Right}
use Rattle.ods_request.specs.declared.rights.Right.TheVariants as right
use Rattle.ods_request.specs.Rights.{permits}
use Rattle.ods_base.specs.Names.{NameMap, picked_version, last_version}
use Rattle.ods_request.specs.Catalogue.{Catalogue, File, names_of, blocks_of, is_directory}

-- the first of these refusals whose condition holds
abbrev pub first_of : List (Bool × Refusal) → Option Refusal
first_of [] = None
first_of (row ∷ rows) = if row.0 then Some row.1 else first_of rows

-- the checks of a file, if there is one
abbrev pub on_file : Option File → (File → List (Bool × Refusal)) → Option Refusal
on_file None checks = Some refusal.NoSuchFile
on_file (Some f) checks = first_of (checks f)

-- the file number is at most 5; numbers 1 to 5 are the system's files
abbrev pub is_reserved : FileId → Bool
is_reserved id = nat_le id.number 5

-- the file is INDEXF.SYS or BITMAP.SYS
abbrev pub is_map : FileId → Bool
is_map id = nat_le id.number 2

-- the file's protection word does not grant the user this right
abbrev pub is_denied : File → Uic → Right → Bool
is_denied f who r = not (permits who f.owner f.protection r)

-- the file has no block with this number, counted from 1
abbrev pub lacks_block : File → ℕ → Bool
lacks_block f vbn = (vbn == 0) || nat_lt (length (blocks_of f.body)) vbn

-- a name cannot be entered: the given version exists, or the highest version has no successor
abbrev pub cannot_enter : NameMap → RadName → Option ℕ → List (Bool × Refusal)
cannot_enter names name (Some v) = (map.contains_key names (key_of name v), refusal.NameTaken) ∷ []
cannot_enter names name None = (nat_le 32767 (last_version names name), refusal.VersionsFull) ∷ []

-- the first refusal that holds for a request, or none: for each request a table of conditions with their refusals, in the order of the refusals
unfoldable pub fault_of : Catalogue → Uic → Request → Option Refusal
fault_of C who (Create name version blocks stamp) = first_of ((nat_lt 65535 blocks, refusal.BadCount) ∷ [])
fault_of C who (Extend file blocks) = on_file (map.get C.files file) (λ f.
    (is_reserved file, refusal.Reserved) ∷ (is_directory f.body, refusal.IsDirectory)
    ∷ (nat_lt 65535 blocks || (blocks == 0), refusal.BadCount) ∷ (is_denied f who right.Extend, refusal.Denied) ∷ [])
fault_of C who (Truncate file blocks) = on_file (map.get C.files file) (λ f.
    (is_reserved file, refusal.Reserved) ∷ (is_directory f.body, refusal.IsDirectory)
    ∷ (nat_lt (length (blocks_of f.body)) blocks, refusal.BadCount) ∷ (is_denied f who right.Extend, refusal.Denied) ∷ [])
fault_of C who (Delete file) = on_file (map.get C.files file) (λ f.
    (is_reserved file, refusal.Reserved) ∷ (is_denied f who right.Delete, refusal.Denied)
    ∷ (not (map.len (names_of f.body) == 0), refusal.NotEmpty) ∷ [])
fault_of C who (Enter dir name version file) = on_file (map.get C.files dir) (λ d.
    (is_none (map.get C.files file), refusal.NoSuchFile) ∷ (not (is_directory d.body), refusal.NotADirectory)
    ∷ (is_denied d who right.Write, refusal.Denied) ∷ cannot_enter (names_of d.body) name version)
fault_of C who (LookUp dir name pick) = on_file (map.get C.files dir) (λ d.
    (not (is_directory d.body), refusal.NotADirectory) ∷ (is_denied d who right.Read, refusal.Denied)
    ∷ (is_none (picked_version (names_of d.body) name pick), refusal.NoSuchName) ∷ [])
fault_of C who (Remove dir name pick) = on_file (map.get C.files dir) (λ d.
    (not (is_directory d.body), refusal.NotADirectory) ∷ (is_denied d who right.Write, refusal.Denied)
    ∷ (is_none (picked_version (names_of d.body) name pick), refusal.NoSuchName) ∷ [])
fault_of C who (Read file vbn) = on_file (map.get C.files file) (λ f.
    (is_map file, refusal.Reserved) ∷ (is_directory f.body, refusal.IsDirectory)
    ∷ (is_denied f who right.Read, refusal.Denied) ∷ (lacks_block f vbn, refusal.NoSuchBlock) ∷ [])
fault_of C who (Write file vbn block) = on_file (map.get C.files file) (λ f.
    (is_reserved file, refusal.Reserved) ∷ (is_directory f.body, refusal.IsDirectory)
    ∷ (is_denied f who right.Write, refusal.Denied) ∷ (lacks_block f vbn, refusal.NoSuchBlock) ∷ [])
fault_of C who (Lines dir) = on_file (map.get C.files dir) (λ d.
    (not (is_directory d.body), refusal.NotADirectory) ∷ (is_denied d who right.Read, refusal.Denied) ∷ [])
fault_of C who (Stat file) = on_file (map.get C.files file) (λ f. [])
fault_of C who (SetUser file attributes) = on_file (map.get C.files file) (λ f.
    (is_reserved file, refusal.Reserved) ∷ (is_directory f.body, refusal.IsDirectory)
    ∷ (is_denied f who right.Write, refusal.Denied) ∷ [])

-- some user may make this request
pub record IsAllowed (C : Catalogue) (r : Request) : Type 0 where
  pub who : Uic
  pub allowed : fault_of C who r ≡ None
