-- What is refused, by request: for callers that do not unfold the whole table.
use Rattle.std.proofs.Common.{◌≡◌, ℕ, Bool, true, false, cond, refl, List, [], ◌∷◌, Option, Some, None}
use Rattle.std.specs.Prelude.{not, ◌||◌, ◌==◌, nat_lt, is_none, length}
use Rattle.std.specs.FinMap as map
use Rattle.ods_base.specs.declared.file_id.Uic.{Uic}
use Rattle.ods_base.specs.declared.file_id.FileId.{FileId}
use Rattle.ods_base.specs.declared.name.Pick.{Pick}
use Rattle.ods_base.specs.Name.{RadName}
use Rattle.ods_base.specs.Names.{picked_version}
use Rattle.ods_request.specs.declared.refusals.Refusal.{Refusal}
use Rattle.ods_request.specs.declared.refusals.Refusal.TheVariants as refusal
use Rattle.ods_request.specs.declared.requests.Request.TheVariants.{Create, Extend, Truncate, Delete, Enter, LookUp, Remove, Read, Write, List as Lines, Stat, SetUser}
use Rattle.ods_request.specs.declared.rights.Right.TheVariants as right
use Rattle.ods_request.specs.Catalogue.{Catalogue, File, blocks_of, names_of, is_directory}
use Rattle.ods_request.specs.Faults.{fault_of, first_of, on_file, is_reserved, is_map, is_denied, lacks_block, cannot_enter}

pub fault_create : (C : Catalogue) (who : Uic) (name : RadName) (version : ℕ) (blocks : ℕ) (stamp : List ℕ) → fault_of C who (Create name version blocks stamp) ≡ first_of ((nat_lt 65535 blocks, refusal.BadCount) ∷ [])
unfolding fault_of
fault_create C who name version blocks stamp = refl

pub fault_extend : (C : Catalogue) (who : Uic) (file : FileId) (blocks : ℕ) → fault_of C who (Extend file blocks) ≡ on_file (map.get C.files file) (λ f.
    (is_reserved file, refusal.Reserved) ∷ (is_directory f.body, refusal.IsDirectory)
    ∷ (nat_lt 65535 blocks || (blocks == 0), refusal.BadCount) ∷ (is_denied f who right.Extend, refusal.Denied) ∷ [])
unfolding fault_of
fault_extend C who file blocks = refl

pub fault_truncate : (C : Catalogue) (who : Uic) (file : FileId) (blocks : ℕ) → fault_of C who (Truncate file blocks) ≡ on_file (map.get C.files file) (λ f.
    (is_reserved file, refusal.Reserved) ∷ (is_directory f.body, refusal.IsDirectory)
    ∷ (nat_lt (length (blocks_of f.body)) blocks, refusal.BadCount) ∷ (is_denied f who right.Extend, refusal.Denied) ∷ [])
unfolding fault_of
fault_truncate C who file blocks = refl

pub fault_delete : (C : Catalogue) (who : Uic) (file : FileId) → fault_of C who (Delete file) ≡ on_file (map.get C.files file) (λ f.
    (is_reserved file, refusal.Reserved) ∷ (is_denied f who right.Delete, refusal.Denied)
    ∷ (not (map.len (names_of f.body) == 0), refusal.NotEmpty) ∷ [])
unfolding fault_of
fault_delete C who file = refl

pub fault_enter : (C : Catalogue) (who : Uic) (dir : FileId) (name : RadName) (version : Option ℕ) (file : FileId) → fault_of C who (Enter dir name version file) ≡ on_file (map.get C.files dir) (λ d.
    (is_none (map.get C.files file), refusal.NoSuchFile) ∷ (not (is_directory d.body), refusal.NotADirectory)
    ∷ (is_denied d who right.Write, refusal.Denied) ∷ cannot_enter (names_of d.body) name version)
unfolding fault_of
fault_enter C who dir name version file = refl

pub fault_look_up : (C : Catalogue) (who : Uic) (dir : FileId) (name : RadName) (pick : Pick) → fault_of C who (LookUp dir name pick) ≡ on_file (map.get C.files dir) (λ d.
    (not (is_directory d.body), refusal.NotADirectory) ∷ (is_denied d who right.Read, refusal.Denied)
    ∷ (is_none (picked_version (names_of d.body) name pick), refusal.NoSuchName) ∷ [])
unfolding fault_of
fault_look_up C who dir name pick = refl

pub fault_remove : (C : Catalogue) (who : Uic) (dir : FileId) (name : RadName) (pick : Pick) → fault_of C who (Remove dir name pick) ≡ on_file (map.get C.files dir) (λ d.
    (not (is_directory d.body), refusal.NotADirectory) ∷ (is_denied d who right.Write, refusal.Denied)
    ∷ (is_none (picked_version (names_of d.body) name pick), refusal.NoSuchName) ∷ [])
unfolding fault_of
fault_remove C who dir name pick = refl

pub fault_read : (C : Catalogue) (who : Uic) (file : FileId) (vbn : ℕ) → fault_of C who (Read file vbn) ≡ on_file (map.get C.files file) (λ f.
    (is_map file, refusal.Reserved) ∷ (is_directory f.body, refusal.IsDirectory)
    ∷ (is_denied f who right.Read, refusal.Denied) ∷ (lacks_block f vbn, refusal.NoSuchBlock) ∷ [])
unfolding fault_of
fault_read C who file vbn = refl

pub fault_write : (C : Catalogue) (who : Uic) (file : FileId) (vbn : ℕ) (block : List ℕ) → fault_of C who (Write file vbn block) ≡ on_file (map.get C.files file) (λ f.
    (is_reserved file, refusal.Reserved) ∷ (is_directory f.body, refusal.IsDirectory)
    ∷ (is_denied f who right.Write, refusal.Denied) ∷ (lacks_block f vbn, refusal.NoSuchBlock) ∷ [])
unfolding fault_of
fault_write C who file vbn block = refl

pub fault_list : (C : Catalogue) (who : Uic) (dir : FileId) → fault_of C who (Lines dir) ≡ on_file (map.get C.files dir) (λ d.
    (not (is_directory d.body), refusal.NotADirectory) ∷ (is_denied d who right.Read, refusal.Denied) ∷ [])
unfolding fault_of
fault_list C who dir = refl

pub fault_stat : (C : Catalogue) (who : Uic) (file : FileId) → fault_of C who (Stat file) ≡ on_file (map.get C.files file) (λ f. [])
unfolding fault_of
fault_stat C who file = refl

pub fault_set_user : (C : Catalogue) (who : Uic) (file : FileId) (attributes : List ℕ) → fault_of C who (SetUser file attributes) ≡ on_file (map.get C.files file) (λ f.
    (is_reserved file, refusal.Reserved) ∷ (is_directory f.body, refusal.IsDirectory)
    ∷ (is_denied f who right.Write, refusal.Denied) ∷ [])
unfolding fault_of
fault_set_user C who file attributes = refl

-- none of the conditions holds
abbrev pub NoneHolds : List (Bool × Refusal) → Type 0
NoneHolds [] = Unit {0}
NoneHolds (row ∷ rows) = (row.0 ≡ false) × NoneHolds rows

pub none_holds : (rows : List (Bool × Refusal)) → first_of rows ≡ None → NoneHolds rows
none_holds [] h = tt
none_holds (row ∷ rows) h = by row.0 row.1 refl (none_holds rows) h
  where
    by : (b : Bool) (r : Refusal) → row.0 ≡ b → (first_of rows ≡ None → NoneHolds rows) → cond b (Some r) (first_of rows) ≡ None → (row.0 ≡ false) × NoneHolds rows
    by true r e rest g = absurd (cc)
    by false r e rest g = (e, rest g)

-- what is known of a file that a request names first, where the request is not refused
pub record IsThere (o : Option File) (checks : File → List (Bool × Refusal)) : Type 0 where
  pub file : File
  pub there : o ≡ Some file
  pub none : NoneHolds (checks file)

pub passed : (o : Option File) (checks : File → List (Bool × Refusal)) → on_file o checks ≡ None → IsThere o checks
passed None checks h = absurd (cc)
passed (Some f) checks h = record { file = f; there = refl; none = none_holds (checks f) h }
