-- What cp does: for each file that is found a new one is created, with the bytes of all its blocks, its attributes and its protection.
use Rattle.std.specs.Prelude.{◌≡◌, ◌≢◌, ◌⊎◌, ◌≤◌, ◌<◌, ◌*◌, ℕ, nat_lt, Bool, true, false, if◌then◌else◌, List, [], ◌∷◌, ◌++◌, length, take, drop, Option, Some, None}
use Rattle.std.specs.Borrow.{Bor}
use Rattle.ods_base.specs.Name.{RadName, Spells, directory_type}
use Rattle.ods_base.specs.declared.file_id.FileId.{FileId}
use Rattle.ods_base.specs.declared.file_id.Uic.{Uic}
use Rattle.ods_base.specs.declared.name.Pick.TheVariants as pick
use Rattle.ods_header.specs.Text.{ident_text}
use Rattle.ods_files.specs.Body.{Body, HasBody, are_zeros, bytes_in}
use Rattle.ods_files.specs.declared.fault.FileFault.{FileFault}
use Rattle.ods_files.specs.declared.fault.FileFault.TheVariants.{NoSuchFile, Chain}
use Rattle.ods_files.specs.declared.form.Form.TheVariants.{Raw}
use Rattle.ods_space.specs.Layout.{VolumeLayout}
use Rattle.ods_space.specs.declared.fault.ChainFault.TheVariants.{BadChain, OutsideVolume, NoMemory}
use Rattle.ods_records.specs.Attributes.{block, end_of}
use Rattle.ods_request.specs.Rights.{permits}
use Rattle.ods_request.specs.declared.refusals.Refusal.TheVariants as refusal
use Rattle.ods_request.specs.declared.rights.Right.TheVariants.{Read}
use Rattle.ods_filing.specs.Amended.{HasGiven}
use Rattle.ods_filing.specs.Filed.{Filed}
use Rattle.ods_shell.specs.declared.alone.Alone.TheVariants as alone
use Rattle.ods_shell.specs.Named.{highest}
use Rattle.ods_shell.specs.HostNames.{before_version}
use Rattle.ods_shell.specs.declared.facts.Facts.{Facts}
use Rattle.ods_shell.specs.declared.facts.Kind.TheVariants.{Directory}
use Rattle.ods_shell.specs.declared.found.EntryPlace.{EntryPlace}
use Rattle.ods_shell.specs.declared.found.Found.{Found}
use Rattle.ods_shell.specs.declared.path_fault.PathFault.TheVariants as fault
use Rattle.ods_upkeep.specs.Looked.{IsNextVersion}
use Rattle.ods_upkeep.specs.Pieces.{with_end}
use Rattle.ods_upkeep.specs.PutFor.{IsMadeFor}
use Rattle.ods_upkeep.specs.Ready.{MayHaveGrown}
use Rattle.ods_upkeep.specs.Sources.{AreSources}
use Rattle.ods_upkeep.specs.Target.{IsTarget}
use Rattle.ods_upkeep.specs.declared.asked.Placing.{Placing}
use Rattle.ods_upkeep.specs.declared.failure.Why.{Why}
use Rattle.ods_upkeep.specs.declared.failure.Why.TheVariants.{Path, Request, BadName, IsDirectory, DirectoryType}
use Rattle.ods_upkeep.specs.declared.target.Target.{Target}

-- the name of a copy: the given one; otherwise the name of the entry; otherwise the part before the `;` of the name in the header
abbrev pub IsNameOf : Option RadName → Option EntryPlace → Facts → RadName → Type 0
IsNameOf (Some said) place facts name = name ≡ said
IsNameOf None (Some p) facts name = name ≡ p.entry.name
IsNameOf None None facts name = Spells (before_version (ident_text facts.ident)) name pick.Highest

abbrev pub NamesCopy : Target → Found → Facts → RadName → Type 0
NamesCopy to found facts name = IsNameOf to.name found.place facts name

-- whether a file of which this is known may be read: this user may if the rights permit it, and without a user no rights are asked
abbrev pub may_read : Option Uic → Facts → Bool
may_read None facts = true
may_read (Some user) facts = permits user facts.owner facts.protection Read

-- The file exists, is no directory, and is above 2; it may be read; and its copy gets this name, which has another type than DIR.
pub record IsCopyable (reader : Option Uic) (to : Target) (found : Found) (facts : Facts) (name : RadName) : Type 0 where
  pub known : found.facts ≡ Some facts
  pub above : 2 < facts.file.number
  pub plain : facts.kind ≢ Directory
  pub readable : may_read reader facts ≡ true
  pub named : NamesCopy to found facts name
  pub other : name.ext ≢ directory_type

-- why a file is not copied, as far as it can be determined before
pub data IsUncopyable (reader : Option Uic) (to : Target) (found : Found) : Why → Type 0 where
  not_there : found.facts ≡ None → IsUncopyable reader to found (Path fault.NoSuchFile)
  reserved : (facts : Facts) → found.facts ≡ Some facts → facts.file.number ≤ 2 → IsUncopyable reader to found (Request refusal.Reserved)
  directory : (facts : Facts) → found.facts ≡ Some facts → facts.kind ≡ Directory → IsUncopyable reader to found IsDirectory
  denied : (facts : Facts) → found.facts ≡ Some facts → may_read reader facts ≡ false → IsUncopyable reader to found (Request refusal.Denied)
  nameless : (facts : Facts) → found.facts ≡ Some facts → ((name : RadName) → ¬ NamesCopy to found facts name) → IsUncopyable reader to found BadName
  of_directory : (facts : Facts) (name : RadName) → found.facts ≡ Some facts → NamesCopy to found facts name → name.ext ≡ directory_type → IsUncopyable reader to found DirectoryType

-- why the bytes of file n are not read: out of memory, or the blocks show no such file with a whole chain
abbrev pub IsUnread : List (List ℕ) → VolumeLayout → ℕ → Why → Type 0
IsUnread I L n why = (why ≡ Request refusal.NoMemory) ⊎ ((why ≡ Path fault.NoSuchFile) × ((body : Body) → ¬ HasBody I L n body))

-- the refusal for this: a file without a whole chain is reported like a file that does not exist
abbrev pub why_unread : FileFault → Why
why_unread NoSuchFile = Path fault.NoSuchFile
why_unread (Chain BadChain) = Path fault.NoSuchFile
why_unread (Chain (OutsideVolume lbn)) = Path fault.NoSuchFile
why_unread (Chain NoMemory) = Request refusal.NoMemory

-- The attributes of a copy with this number of blocks: zeros, with which all blocks count, stay; an end of file past the blocks becomes their end;
-- otherwise only F.HIBK, bytes 4 to 7, is set to their count.
abbrev pub true_for : List ℕ → ℕ → List ℕ
true_for own blocks =
    if are_zeros own then own
    else if nat_lt (512 * blocks) (end_of own) then with_end own (512 * blocks)
    else take 4 own ++ block blocks ++ drop 8 own

-- A copy with these bytes is made of a file of which this is known: the user makes it, with its blocks placed this way, and enters it under this
-- name, under the given version or the next one. Then it has received the protection of that file, and this owner, if one is given.
pub record IsCopyMade (placing : Placing) (to : Target) (name : RadName) (stamp : List ℕ) (owner : Option Uic) (facts : Facts) (bytes : List ℕ) (old new : Filed) : Type 0 where
  -- the version that the header of the copy gets, and the volume when it is looked up
  pub version : ℕ
  pub mid : Filed
  pub next : IsNextVersion old to.directory name to.version version mid
  pub file : FileId
  pub filed : Filed
  pub made : IsMadeFor placing old.user to.directory to.version (record { name = name; version = version; stamp = stamp }) (true_for facts.attributes facts.blocks) bytes file mid filed
  pub given : HasGiven filed file owner (Some facts.protection) new

-- A file is copied. Its facts are as they were found at first; its bytes are the bytes of all its blocks when its turn comes.
pub record IsCopied (placing : Placing) (to : Target) (stamp : List ℕ) (found : Found) (old new : Filed) : Type 0 where
  pub facts : Facts
  pub name : RadName
  pub copyable : IsCopyable (Some old.user) to found facts name
  pub body : Body
  pub held : HasBody old.image old.layout facts.file.number body
  pub bytes : List ℕ
  pub all : bytes_in Raw body ≡ Some bytes
  pub made : IsCopyMade placing to name stamp None facts bytes old new

-- these files are copied, in order
abbrev pub AreCopied : Placing → Target → List ℕ → List Found → Filed → Filed → Type 0
AreCopied placing to stamp [] old new = new ≡ old
AreCopied placing to stamp (f ∷ found) old new = (mid : Filed) × IsCopied placing to stamp f old mid × AreCopied placing to stamp found mid new

-- these files are copied, in order; nothing else was done, except that INDEXF.SYS may have grown for them
abbrev pub AreAllCopied : Placing → Target → List ℕ → List Found → Filed → Filed → Type 0
AreAllCopied placing to stamp found old new = (ready : Filed) × MayHaveGrown (length found) old ready × AreCopied placing to stamp found ready new

-- Each file that these paths select, the highest version if they specify none, is copied to the target of the last path.
abbrev pub IsCopiedTo : Placing → List ℕ → List (Bor (List ℕ)) → List ℕ → Filed → Filed → Type 0
IsCopiedTo placing stamp paths to old new =
    (found : List Found) × ((target : Target) × AreSources old.image old.layout (highest alone.Files) paths found × IsTarget old.image old.layout (length found) to target
    × AreAllCopied placing target stamp found old new)
