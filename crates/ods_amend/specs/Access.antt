-- Another owner, another protection or other characteristics of a file: who may set them, and the catalogue and the blocks afterwards.
use Rattle.std.specs.Prelude.{◌≡◌, ◌≢◌, ℕ, ◌<◌, ◌≤◌, ◌⊎◌, Bool, not, ◌||◌, List, [], ◌∷◌, length, MatchOption, Option, Some, None, unwrap_or}
use Rattle.std.specs.FinMap as map
use Rattle.ods_base.specs.Block.{byte, word, sum_of}
use Rattle.ods_base.specs.Image.{block_at}
use Rattle.ods_base.specs.declared.file_id.FileId.{FileId}
use Rattle.ods_base.specs.declared.file_id.Uic.{Uic}
use Rattle.ods_header.specs.Header.{owner_of, protection_of, user_char_of}
use Rattle.ods_space.specs.Layout.{Disk, VolumeLayout, header_at, place_of}
use Rattle.ods_mount.specs.Sound.{IsSoundBy}
use Rattle.ods_request.specs.declared.refusals.Refusal.{Refusal}
use Rattle.ods_request.specs.declared.refusals.Refusal.TheVariants as refusal
use Rattle.ods_request.specs.Catalogue.{Catalogue, File}
use Rattle.ods_request.specs.Faults.{is_reserved, on_file}
use Rattle.ods_request.specs.Rights.{System, Owner, is_in_class}
use Rattle.ods_request.specs.Steps.{file_at, put}
use Rattle.ods_state.specs.Contents.{ShowsBy}
use Rattle.ods_state.specs.Moves.{NothingMoves}
use Rattle.ods_state.specs.Version.{PastIsSpent}
use Rattle.ods_look.specs.Opening.{IsFileId, Rows}

-- a system user, whose group is at most 10 octal, and the owner of a file may give it another owner or another protection
abbrev pub may_give : Uic → Uic → Bool
may_give who owner = is_in_class System who owner || is_in_class Owner who owner

-- the requirements for the file and the user: the file is not a system file, and the user may set them
abbrev pub access_checks : Uic → FileId → Rows
access_checks who id f = (is_reserved id, refusal.Reserved) ∷ (not (may_give who f.owner), refusal.Denied) ∷ []

-- why it is refused, by the catalogue: there is no such file, or the first check that fails
abbrev pub access_fault : Catalogue → Uic → FileId → Option Refusal
access_fault C who id = on_file (map.get C.files id) (access_checks who id)

-- the file with this owner, this protection and these user characteristics, each if given; all else of it is unchanged
abbrev pub with_access : File → Option Uic → Option ℕ → Option ℕ → File
with_access f owner protection flags = record f { owner = unwrap_or owner f.owner; protection = unwrap_or protection f.protection; user_char = unwrap_or flags f.user_char }

-- the catalogue with that file in place of the file under this ID; its past is unchanged
abbrev pub put_access : Catalogue → FileId → Option Uic → Option ℕ → Option ℕ → Catalogue
put_access C id owner protection flags = put C id (with_access (file_at C id) owner protection flags)

-- c is the header block b with this owner in bytes 8 and 9, this protection in bytes 10 and 11 and these characteristics in byte 12, each if given,
-- and with a new checksum; every other byte is unchanged
pub record IsWithAccess (b : List ℕ) (user : Option Uic) (word_given flags_given : Option ℕ) (c : List ℕ) : Type 0 where
  pub size : length c ≡ length b
  pub owner : owner_of c ≡ unwrap_or user (owner_of b)
  pub protection : protection_of c ≡ unwrap_or word_given (protection_of b)
  pub flags : user_char_of c ≡ unwrap_or flags_given (user_char_of b)
  pub checksum : word c 255 ≡ sum_of c 255
  pub others : (i : ℕ) → (i < 8) ⊎ ((13 ≤ i) × (i < 510)) → byte c i ≡ byte b i

-- The blocks J are the blocks I in which file `id` has this owner, this protection and these characteristics, each if given.
pub record IsSet (I : List (List ℕ)) (L : VolumeLayout) (id : FileId) (owner : Option Uic) (protection flags : Option ℕ) (J : List (List ℕ)) : Type 0 where
  -- the file exists
  pub there : (C : Catalogue) → ShowsBy I L C → map.get C.files id ≡ Some (file_at C id)
  -- the image is sound, and shows the catalogue with that file
  pub sound : IsSoundBy J L
  pub shown : (C : Catalogue) → ShowsBy I L C → ShowsBy J L (put_access C id owner protection flags)
  -- no past ID can be assigned again
  pub past : (C : Catalogue) → PastIsSpent I L C → PastIsSpent J L C
  -- the blocks of files and the free blocks and numbers are unchanged
  pub moves : NothingMoves (record { image = I; layout = L }) (record { image = J; layout = L })
  -- the file's first header block changes like this, and no other block
  pub long : length J ≡ length I
  pub header : IsWithAccess (header_at I L id.number) owner protection flags (header_at J L id.number)
  pub elsewhere : (x : ℕ) → place_of L id.number ≢ Some x → block_at J x ≡ block_at I x

-- the blocks J are the blocks I after the user gave file `id` this owner, this protection and these characteristics, each if given
pub record IsGiven (I : List (List ℕ)) (L : VolumeLayout) (who : Uic) (id : FileId) (owner : Option Uic) (protection flags : Option ℕ) (J : List (List ℕ)) : Type 0 where
  -- it is not refused
  pub allowed : (C : Catalogue) → ShowsBy I L C → access_fault C who id ≡ None
  -- they are set
  pub set : IsSet I L id owner protection flags J

-- the volume E is the volume D after the user gave the file these; the layout is unchanged
abbrev pub GivesAll : Disk → Uic → FileId → Option Uic → Option ℕ → Option ℕ → Disk → Type 0
GivesAll D who id owner protection flags E = IsGiven D.image D.layout who id owner protection flags E.image × (E.layout ≡ D.layout)

-- and its characteristics are unchanged
abbrev pub Gives : Disk → Uic → FileId → Option Uic → Option ℕ → Disk → Type 0
Gives D who id owner protection E = GivesAll D who id owner protection None E

-- the file exists, it is not a system file, and no check refuses
pub record MayBeGiven (I : List (List ℕ)) (L : VolumeLayout) (who : Uic) (id : FileId) : Type 0 where
  pub file : IsFileId I L id
  pub number : 5 < id.number
  pub allowed : (C : Catalogue) → ShowsBy I L C → access_fault C who id ≡ None

-- by each catalogue that the blocks show, this is the first fault
abbrev pub IsAccessFault : List (List ℕ) → VolumeLayout → Uic → FileId → Refusal → Type 0
IsAccessFault I L who id f = (C : Catalogue) → ShowsBy I L C → access_fault C who id ≡ Some f

-- why it is refused: its first fault or, if it has none, out of memory
abbrev pub IsNotGiven : List (List ℕ) → VolumeLayout → Uic → FileId → Refusal → Type 0
IsNotGiven I L who id f = (C : Catalogue) → ShowsBy I L C → MatchOption (access_fault C who id) (f ≡ refusal.NoMemory) (λ g. f ≡ g)

-- the protection word of a file, H.FPRO of its first header
abbrev pub protection_at : Disk → FileId → ℕ
protection_at D id = protection_of (header_at D.image D.layout id.number)

-- the volume E is the volume D in which file `id` has this protection word, whoever may set it; the layout is unchanged
abbrev pub Protects : Disk → FileId → ℕ → Disk → Type 0
Protects D id protection E = IsSet D.image D.layout id None (Some protection) None E.image × (E.layout ≡ D.layout)

-- why a protection word is not set without regard to rights: there is no such file, or memory runs out
abbrev pub IsNotProtected : List (List ℕ) → VolumeLayout → FileId → Refusal → Type 0
IsNotProtected I L id f = ((f ≡ refusal.NoSuchFile) × ¬ IsFileId I L id) ⊎ (f ≡ refusal.NoMemory)
