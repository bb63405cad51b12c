-- The result of untar for a file of an archive, and why it is not put.
use Rattle.std.specs.Fmt.{decimal}
use Rattle.std.specs.Prelude.{◌≡◌, ◌≢◌, ◌⊎◌, ℕ, ◌%◌, ◌==◌, ◌≤◌, Bool, true, false, if◌then◌else◌, MatchBool, List, [], ◌∷◌, ◌++◌, codes, length, replicate, Option, Some, None, is_some}
use Rattle.ods_text.specs.Cuts.{cut_of}
use Rattle.ods_base.specs.Name.{RadName, Spells}
use Rattle.ods_base.specs.declared.name.Pick.TheVariants.{Highest}
use Rattle.ods_base.specs.declared.file_id.FileId.{FileId}
use Rattle.ods_files.specs.Body.{are_zeros}
use Rattle.ods_request.specs.declared.refusals.Refusal.{Refusal}
use Rattle.ods_paths.specs.Patterns.{capitals, has_wildcard}
use Rattle.ods_paths.specs.declared.bad.BadPath.TheVariants.{Version}
use Rattle.ods_filing.specs.Amended.{HasGiven, IsWhyNotGiven}
use Rattle.ods_filing.specs.Filed.{Filed}
use Rattle.ods_shell.specs.declared.path_fault.PathFault.TheVariants.{Bad}
use Rattle.ods_upkeep.specs.HostNames.{IsHostName, title_of, type_of}
use Rattle.ods_upkeep.specs.HostPut.{IsVersionFor}
use Rattle.ods_upkeep.specs.PutFor.{IsMadeFor}
use Rattle.ods_upkeep.specs.Target.{IsNoName as SpellsNone}
use Rattle.ods_upkeep.specs.Unfiled.{IsUnfiled}
use Rattle.ods_upkeep.specs.Unput.{IsNoHostName}
use Rattle.ods_upkeep.specs.Wayside.{IsNotOpen, IsOpen, IsParted, IsWay, StopsOnWay, path_of_way}
use Rattle.ods_upkeep.specs.Written.{IsUnwritten, IsWritten}
use Rattle.ods_upkeep.specs.declared.asked.PutForm.TheVariants as form
use Rattle.ods_upkeep.specs.declared.failure.Why.{Why}
use Rattle.ods_upkeep.specs.declared.failure.Why.TheVariants.{BadName, Path, Request, Several}
use Rattle.ods_upkeep.specs.declared.untarring.Packed.{Packed}

-- version 0 is no version: the next one applies
abbrev pub unless_zero : ℕ → Option ℕ
unless_zero n = if n == 0 then None else Some n

-- a version in decimal; 0 is none
abbrev pub IsVersionText : List ℕ → ℕ → Type 0
IsVersionText digits n = (n ≤ 32767) × (digits ≡ decimal n)

-- The name of a member: of a file of a volume, any name of a volume, even one that RSX cannot type or an empty one; otherwise a name as of a host file.
abbrev pub IsMemberName : Bool → List ℕ → RadName → Type 0
IsMemberName true text name = Spells (capitals (title_of text) ++ 46 ∷ capitals (type_of text)) name Highest
IsMemberName false text name = IsHostName text name

-- why it is no name
abbrev pub IsNoMemberName : Bool → List ℕ → Why → Type 0
IsNoMemberName true text why = SpellsNone (capitals (title_of text)) (capitals (type_of text)) why
IsNoMemberName false text why = IsNoHostName text why

-- The meaning of the last part of a path: the name of a member, and after a `;` its version. `.` is a directory.
abbrev pub SaysFileBy : Option (List ℕ × List ℕ) → Bool → List ℕ → RadName → Option ℕ → Type 0
SaysFileBy None own last name version = (last ≢ codes ".") × IsMemberName own last name × (version ≡ None)
SaysFileBy (Some cut) own last name version = IsMemberName own cut.0 name × ((n : ℕ) × IsVersionText cut.1 n × (version ≡ unless_zero n))

abbrev pub SaysFile : Bool → List ℕ → RadName → Option ℕ → Type 0
SaysFile own last name version = SaysFileBy (cut_of 59 last) own last name version

-- why it specifies no file
abbrev pub SaysNoFileBy : Option (List ℕ × List ℕ) → Bool → List ℕ → Why → Type 0
SaysNoFileBy None own last why = ((why ≡ BadName) × (last ≡ codes ".")) ⊎ IsNoMemberName own last why
SaysNoFileBy (Some cut) own last why = ((why ≡ Path (Bad Version)) × ((n : ℕ) → IsVersionText cut.1 n → ⊥)) ⊎ IsNoMemberName own cut.0 why

abbrev pub SaysNoFile : Bool → List ℕ → Why → Type 0
SaysNoFile own last why = SaysNoFileBy (cut_of 59 last) own last why

-- attributes of zeros stay zeros if the bytes are whole blocks, since then all blocks count
abbrev pub zeros_or : ℕ → List ℕ → List ℕ
zeros_or size attributes = if size % 512 == 0 then replicate 32 0 else attributes

-- Attributes of which nothing is known: the bytes are put as bytes.
abbrev pub IsUnknown : List ℕ → List ℕ → List ℕ → Type 0
IsUnknown bytes attributes stored = (own : List ℕ) × IsWritten form.Binary None bytes own stored × (attributes ≡ zeros_or (length bytes) own)

-- These attributes and these bytes are written of a packed file. If its records specify attributes, they are these with the end after the bytes,
-- which are whole records if the attributes specify records. Without them they are the attributes of put.
abbrev pub IsUnpacked : Option (List ℕ) → List ℕ → List ℕ → List ℕ → Type 0
IsUnpacked None bytes attributes stored = IsWritten form.ByContents None bytes attributes stored
IsUnpacked (Some own) bytes attributes stored = MatchBool (are_zeros own) (IsUnknown bytes attributes stored) (IsWritten form.Binary (Some own) bytes attributes stored)

-- why they are not written
abbrev pub IsNotUnpacked : Option (List ℕ) → List ℕ → Why → Type 0
IsNotUnpacked None bytes why = IsUnwritten form.ByContents None bytes why
IsNotUnpacked (Some own) bytes why = MatchBool (are_zeros own) (IsUnwritten form.Binary None bytes why) (IsUnwritten form.Binary (Some own) bytes why)

-- A packed file with this name, these attributes and these bytes is in a directory: the user has made it, with the time of its member, and entered it
-- under the given version, or the next one. Then it has received the owner and the protection in its records.
pub record IsFiled (packed : Packed) (dir : FileId) (name : RadName) (said : Option ℕ) (attributes stored : List ℕ) (old new : Filed) : Type 0 where
  -- the version of its ident, and the volume when it is known
  pub version : ℕ
  pub seen : Filed
  pub next : IsVersionFor None old dir name said version seen
  pub file : FileId
  pub filed : Filed
  pub made : IsMadeFor packed.placing seen.user dir said (record { name = name; version = version; stamp = packed.stamp }) attributes stored file seen filed
  pub given : HasGiven filed file packed.owner packed.protection new

-- why it is not: it is not made or not entered, or the user may not give it the owner and the protection
pub data IsNotFiled (packed : Packed) (dir : FileId) (name : RadName) (said : Option ℕ) (attributes stored : List ℕ) (old new : Filed) : Why → Type 0 where
  unfiled : (why : Why) (version : ℕ) (seen : Filed) → IsVersionFor None old dir name said version seen
      → IsUnfiled packed.placing seen.user dir said (record { name = name; version = version; stamp = packed.stamp }) attributes stored seen new why → IsNotFiled packed dir name said attributes stored old new why
  not_given : (reason : Refusal) (version : ℕ) (seen : Filed) (file : FileId) → IsVersionFor None old dir name said version seen
      → IsMadeFor packed.placing seen.user dir said (record { name = name; version = version; stamp = packed.stamp }) attributes stored file seen new → IsWhyNotGiven new file reason
      → IsNotFiled packed dir name said attributes stored old new (Request reason)

-- A file of an archive has been put. The directories on its way exist, and it is in the last of them, under the name and the version in its path.
pub record IsUntarred (stamp : List ℕ) (packed : Packed) (old new : Filed) : Type 0 where
  pub plain : has_wildcard packed.path.now ≡ false
  pub parts : List (List ℕ)
  pub last : List ℕ
  pub parted : IsParted packed.path.now parts last
  pub name : RadName
  pub said : Option ℕ
  pub named : SaysFile (is_some packed.owner) last name said
  pub attributes : List ℕ
  pub stored : List ℕ
  pub unpacked : IsUnpacked packed.attributes packed.bytes.now attributes stored
  -- the way to its directory, and the volume when all directories on it exist
  pub way : List ℕ
  pub ready : Filed
  pub made : IsWay stamp parts [] old way ready
  pub dir : FileId
  pub takes : IsOpen ready.image ready.layout (path_of_way way) dir
  pub filed : IsFiled packed dir name said attributes stored ready new

-- Why it is not put, and what was done for it. Its path has wildcards, or names no file, or its bytes are not written: nothing was done. Or a
-- directory on its way does not exist, and cannot be created. Or the directory that they reach takes no names, or it does not take the file.
pub data IsNotUntarred (stamp : List ℕ) (packed : Packed) (old new : Filed) : Why → Type 0 where
  pattern : has_wildcard packed.path.now ≡ true → new ≡ old → IsNotUntarred stamp packed old new Several
  nameless : (why : Why) (parts : List (List ℕ)) (last : List ℕ) → IsParted packed.path.now parts last → SaysNoFile (is_some packed.owner) last why → new ≡ old → IsNotUntarred stamp packed old new why
  unwritten : (why : Why) → IsNotUnpacked packed.attributes packed.bytes.now why → new ≡ old → IsNotUntarred stamp packed old new why
  no_way : (why : Why) (parts : List (List ℕ)) (last : List ℕ) → IsParted packed.path.now parts last → StopsOnWay stamp parts [] old new why → IsNotUntarred stamp packed old new why
  closed : (why : Why) (parts : List (List ℕ)) (last way : List ℕ) → IsParted packed.path.now parts last → IsWay stamp parts [] old way new → IsNotOpen new.image new.layout (path_of_way way) why
      → IsNotUntarred stamp packed old new why
  unfiled_there : (why : Why) (parts : List (List ℕ)) (last way : List ℕ) (ready : Filed) (dir : FileId) (name : RadName) (said : Option ℕ) (attributes stored : List ℕ) → IsParted packed.path.now parts last
      → SaysFile (is_some packed.owner) last name said → IsUnpacked packed.attributes packed.bytes.now attributes stored → IsWay stamp parts [] old way ready → IsOpen ready.image ready.layout (path_of_way way) dir
      → IsNotFiled packed dir name said attributes stored ready new why → IsNotUntarred stamp packed old new why
