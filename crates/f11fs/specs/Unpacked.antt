-- What untar leaves of a volume.
use Rattle.std.specs.Prelude.{◌≡◌, ◌||◌, ℕ, Bool, true, false, if◌then◌else◌, MatchBool, nat_le, List, [], ◌∷◌, ◌++◌, codes, length, slice_get, Option, Some, None, is_some}
use Rattle.std.specs.Borrow.{Bor}
use Rattle.ods_archive.specs.Members.{entry_of}
use Rattle.ods_archive.specs.declared.kind.Kind.{Kind}
use Rattle.ods_archive.specs.declared.kind.Kind.TheVariants.{Directory}
use Rattle.ods_base.specs.declared.file_id.FileId.{FileId}
use Rattle.ods_filing.specs.Filed.{Filed}
use Rattle.ods_request.specs.Stamps.{is_stamp}
use Rattle.ods_untar.specs.Below.{bare, below}
use Rattle.ods_untar.specs.Wanted.{AsksFor}
use Rattle.ods_upkeep.specs.Ready.{MayHaveGrown}
use Rattle.ods_untar.specs.declared.told.Told.{Told}
use Rattle.ods_untar.specs.declared.wanted.Wanted.{Wanted}
use Rattle.ods_upkeep.specs.DirectoryUntarred.{IsDirectoryUntarred}
use Rattle.ods_upkeep.specs.Given.{GetTheirs}
use Rattle.ods_upkeep.specs.Untarred.{IsUntarred}
use Rattle.ods_upkeep.specs.declared.asked.Placing.{Placing}
use Rattle.ods_upkeep.specs.declared.asked.Placing.TheVariants.{Anywhere, InOnePiece}
use Rattle.ods_upkeep.specs.declared.giving.Access.{Access}
use Rattle.ods_upkeep.specs.declared.untarring.Packed.{Packed}
use Rattle.ods_upkeep.specs.declared.untarring_directories.PackedDirectory.{PackedDirectory}
use Rattle.f11fs.specs.Dated.{IsTimeOf}
use Rattle.f11fs.specs.Given.{Bytes, HostGives}

-- the first word is the archive; without words it is standard input
abbrev pub archive_among : List (Bor (List ℕ)) → List ℕ
archive_among [] = codes "-"
archive_among (word ∷ words) = word.now

-- the second word is the directory below which files go
abbrev pub directory_among : List (Bor (List ℕ)) → Option (Bor (List ℕ))
directory_among words = slice_get words 1

-- UC.CON, 200 octal among the characteristics of the user: the blocks of the file are in one piece
abbrev pub placing_told : Option (ℕ × ℕ) → Placing
placing_told None = Anywhere
placing_told (Some characteristics) = if nat_le 128 characteristics.0 then InOnePiece else Anywhere

-- the local time at which a member was changed, or the time of the run if the member has none since 1970
abbrev pub IsChangeTime : List ℕ → Option ℕ → List ℕ → Type 0
IsChangeTime run None stamp = stamp ≡ run
IsChangeTime run (Some second) stamp = IsTimeOf false run second stamp

-- the time of a file: the date in its records, or without one that of its member
abbrev pub IsOwnTime : List ℕ → Option (List ℕ) → Option ℕ → List ℕ → Type 0
IsOwnTime run None time stamp = IsChangeTime run time stamp
IsOwnTime run (Some date) time stamp = MatchBool (is_stamp date) (stamp ≡ date) (IsChangeTime run time stamp)

-- the time of a file: a specified time, or else its own
abbrev pub IsMemberTime : Bool → List ℕ → Option (List ℕ) → Option ℕ → List ℕ → Type 0
IsMemberTime true run date time stamp = stamp ≡ run
IsMemberTime false run date time stamp = IsOwnTime run date time stamp

-- the put file of an archive entry: below the specified directory, at its time, with its bytes and everything that its records specify
pub record IsPackedFrom (said : Bool) (directory : Option (Bor (List ℕ))) (run : List ℕ) (wanted : Wanted) (packed : Packed) : Type 0 where
  pub path : packed.path.now ≡ below directory (entry_of wanted.found).path
  pub bytes : packed.bytes.now ≡ wanted.found.bytes.now
  pub stamp : IsMemberTime said run wanted.told.date wanted.found.mtime packed.stamp
  pub attributes : packed.attributes ≡ wanted.told.attributes
  pub owner : packed.owner ≡ wanted.told.owner
  pub protection : packed.protection ≡ wanted.told.protection
  pub placing : packed.placing ≡ placing_told wanted.told.characteristics

-- the directory of an archive entry: below the specified directory, without slashes at its end, and at its time
pub record IsDirectoryFrom (said : Bool) (directory : Option (Bor (List ℕ))) (run : List ℕ) (wanted : Wanted) (packed : PackedDirectory) : Type 0 where
  pub path : packed.path.now ≡ below directory (bare (entry_of wanted.found).path)
  pub stamp : IsMemberTime said run wanted.told.date wanted.found.mtime packed.stamp

abbrev pub is_directory : Kind → Bool
is_directory Directory = true
is_directory kind = false

-- the records give an owner or a protection
abbrev pub has_access : Told → Bool
has_access told = is_some told.owner || is_some told.protection

-- this file receives the owner and the protection in these records
abbrev pub IsAccessOf : Told → FileId → Access → Type 0
IsAccessOf told file access = (access.file ≡ file) × (access.owner ≡ told.owner) × (access.protection ≡ told.protection)

-- What remains to be given to a directory: the owner and the protection in its records, if it was created. A directory that existed receives nothing.
abbrev pub IsDue : Told → Option FileId → List Access → Type 0
IsDue told None due = due ≡ []
IsDue told (Some file) due = MatchBool (has_access told) ((access : Access) × IsAccessOf told file access × (due ≡ access ∷ [])) (due ≡ [])

-- the file is put
abbrev pub IsFilePut : Bool → Option (Bor (List ℕ)) → List ℕ → Wanted → Filed → Filed → Type 0
IsFilePut said directory stamp wanted old new = (packed : Packed) × IsPackedFrom said directory stamp wanted packed × IsUntarred stamp packed old new

-- the directory exists; `due` remains to be given
abbrev pub IsDirectoryPut : Bool → Option (Bor (List ℕ)) → List ℕ → Wanted → List Access → Filed → Filed → Type 0
IsDirectoryPut said directory stamp wanted due old new =
    (packed : PackedDirectory) × (made : Option FileId) × IsDirectoryFrom said directory stamp wanted packed × IsDirectoryUntarred stamp packed made old new × IsDue wanted.told made due

-- the directory or the file is put
abbrev pub IsPut : Bool → Option (Bor (List ℕ)) → List ℕ → Wanted → List Access → Filed → Filed → Type 0
IsPut said directory stamp wanted due old new =
    MatchBool (is_directory wanted.found.kind) (IsDirectoryPut said directory stamp wanted due old new) ((due ≡ []) × IsFilePut said directory stamp wanted old new)

-- each of these, in order
abbrev pub ArePutFrom : Bool → Option (Bor (List ℕ)) → List ℕ → List Wanted → List Access → Filed → Filed → Type 0
ArePutFrom said directory stamp [] due old new = (due ≡ []) × (new ≡ old)
ArePutFrom said directory stamp (w ∷ wanted) due old new =
    (first : List Access) × (rest : List Access) × (mid : Filed) × (due ≡ first ++ rest) × IsPut said directory stamp w first old mid × ArePutFrom said directory stamp wanted rest mid new

-- Each file and directory of the archive that the words name was put, below the directory that they specify. Before the first INDEXF.SYS may get the headers that it lacks for all of them. After the last each directory that was created receives the owner and the protection
-- in its records. Nothing else was done.
pub record AreUntarred (Gives : HostGives) (said : Bool) (words : List (Bor (List ℕ))) (stamp : List ℕ) (old new : Filed) : Type 0 where
  pub bytes : List ℕ
  pub given_bytes : Gives (archive_among words) (Bytes bytes)
  pub wanted : List Wanted
  pub asked : AsksFor bytes wanted
  pub ready : Filed
  pub made_ready : MayHaveGrown (length wanted) old ready
  pub due : List Access
  pub filled : Filed
  pub put : ArePutFrom said (directory_among words) stamp wanted due ready filled
  pub given : GetTheirs due filled new
