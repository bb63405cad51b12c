-- Why a host file is not put, and what was done for it.
use Rattle.std.specs.Prelude.{◌≡◌, ◌≢◌, ◌⊎◌, ℕ, Bool, true, List, ◌∷◌, slice_index, Option, Some, None, is_some, unwrap_or}
use Rattle.std.specs.Option.{option_or}
use Rattle.ods_base.specs.Name.{RadName, directory_type}
use Rattle.ods_base.specs.declared.file_id.FileId.{FileId}
use Rattle.ods_base.specs.declared.name.Pick.TheVariants.{Exact}
use Rattle.ods_paths.specs.Patterns.{capitals}
use Rattle.ods_records.specs.declared.near.NearText.{NearText}
use Rattle.ods_request.specs.declared.answers.Stat.{Stat as Shown}
use Rattle.ods_request.specs.declared.requests.Request.TheVariants.{Remove}
use Rattle.ods_filing.specs.Filed.{Filed}
use Rattle.ods_filing.specs.Put.{Heading, block_count}
use Rattle.ods_upkeep.specs.HostNames.{IsNameFor, IsNoName, IsTyped, IsUntyped, title_of, type_of}
use Rattle.ods_upkeep.specs.HostPut.{IsFormOf, IsFormerOf, IsVersionFor}
use Rattle.ods_upkeep.specs.Left.{InPut}
use Rattle.ods_upkeep.specs.Looked.{IsSeen}
use Rattle.ods_upkeep.specs.PutFor.{IsMadeFor}
use Rattle.ods_upkeep.specs.Refused.{StopsAt, no_memory}
use Rattle.ods_upkeep.specs.Remarks.{AreSeen, IsRemarkOn, changed_from}
use Rattle.ods_upkeep.specs.Replaced.{KeepsAccess, KeepsNoAccess, placing_kept}
use Rattle.ods_upkeep.specs.Rooms.{IsNotPlain, IsRoomMade, IsThere, counts_left, file_left, pick_for}
use Rattle.ods_upkeep.specs.Target.{IsNoName as SpellsNone}
use Rattle.ods_upkeep.specs.Unfiled.{IsUnfiled}
use Rattle.ods_upkeep.specs.Written.{IsUnwritten, IsWritten}
use Rattle.ods_upkeep.specs.declared.asked.PutForm.{PutForm}
use Rattle.ods_upkeep.specs.declared.failure.Why.{Why}
use Rattle.ods_upkeep.specs.declared.failure.Why.TheVariants.{BadName, DirectoryType, Put}
use Rattle.ods_upkeep.specs.declared.put_fault.PutFault.TheVariants.{Untyped}

-- Why the name of a host file is not a name of the volume: it is not valid, it has a character that is not typed, or it spells none.
pub data IsNoHostName (host : List ℕ) : Why → Type 0 where
  no_name : IsNoName host → IsNoHostName host BadName
  untyped : (c : ℕ) → ¬ IsNoName host → IsUntyped host c → IsNoHostName host (Put (Untyped c))
  unspelled : (why : Why) → ¬ IsNoName host → IsTyped host → SpellsNone (capitals (title_of host)) (capitals (type_of host)) why → IsNoHostName host why

-- a host file gets no name if none is given, and its own is not valid
abbrev pub IsNameless : Option RadName → List ℕ → Why → Type 0
IsNameless (Some said) host why = ⊥
IsNameless None host why = IsNoHostName host why

-- Why an entry is not removed. A Stat shows that its file is not replaced, or is refused. Or a request is not done, to remove the entry, or then to
-- delete the file that no other entry names.
abbrev pub IsNotReplaced : FileId → RadName → ℕ → FileId → List ℕ → Filed → Filed → Why → Type 0
IsNotReplaced dir name version file before old new why =
    IsNotPlain old file new why
    ⊎ ((held : Option Shown) × ((known : Filed) × IsThere old file held known
    × StopsAt known (Remove dir name (Exact version) ∷ file_left (is_some held) (counts_left (is_some held) (slice_index before) file) file) new why))

-- why no room is made for a name if files are replaced: an entry has it, and is not removed
abbrev pub IsNoRoom : FileId → RadName → Option ℕ → Option (List ℕ) → Filed → Filed → Why → Type 0
IsNoRoom dir name said None old new why = ⊥
IsNoRoom dir name said (Some before) old new why =
    (file : FileId) × ((version : ℕ) × ((seen : Filed) × IsSeen old dir name (pick_for said) file version seen × IsNotReplaced dir name version file before seen new why))

-- The new file can be made. There is room for it, and this is known of the file that it replaces, if there is one. The version under which it is
-- entered is the one that is free or given, if there is one, and the version of its ident is known.
pub record IsReady (p : InPut) (name : RadName) (old : Filed) (under : Option ℕ) (held : Option Shown) (version : ℕ) (new : Filed) : Type 0 where
  pub free : Option ℕ
  pub left : Option (List ℕ)
  pub mid : Filed
  pub room : IsRoomMade p.target.directory name p.target.version free held p.names left old mid
  pub entered : under ≡ option_or free p.target.version
  pub next : IsVersionFor p.highest mid p.target.directory name under version new

-- the contents of the header of the new file
abbrev pub heading_in : InPut → RadName → ℕ → Heading
heading_in p name version = record { name = name; version = version; stamp = p.stamp }

-- Why the written bytes are not put under a name. There is no room; or the file is not made or not entered. Or it is, and the user may not give it
-- what it keeps of the file that it replaces. Or all of this is done, and there is no memory to record its version.
pub data IsNotStored (p : InPut) (name : RadName) (attributes bytes : List ℕ) (old new : Filed) : Why → Type 0 where
  no_room : (why : Why) → IsNoRoom p.target.directory name p.target.version p.names old new why → IsNotStored p name attributes bytes old new why
  unfiled : (why : Why) (under : Option ℕ) (held : Option Shown) (version : ℕ) (mid : Filed) → IsReady p name old under held version mid
      → IsUnfiled (placing_kept p.placing held) (unwrap_or p.owner old.user) p.target.directory under (heading_in p name version) attributes bytes mid new why → IsNotStored p name attributes bytes old new why
  unkept : (why : Why) (under : Option ℕ) (held : Option Shown) (version : ℕ) (mid : Filed) (file : FileId) (filed : Filed) → IsReady p name old under held version mid
      → IsMadeFor (placing_kept p.placing held) (unwrap_or p.owner old.user) p.target.directory under (heading_in p name version) attributes bytes file mid filed
      → KeepsNoAccess (placing_kept p.placing held) (block_count bytes) held file filed new why → IsNotStored p name attributes bytes old new why
  unnoted : (under : Option ℕ) (held : Option Shown) (version : ℕ) (mid : Filed) (file : FileId) (filed : Filed) → IsReady p name old under held version mid
      → IsMadeFor (placing_kept p.placing held) (unwrap_or p.owner old.user) p.target.directory under (heading_in p name version) attributes bytes file mid filed
      → KeepsAccess p.owner (placing_kept p.placing held) (block_count bytes) held file filed new → is_some p.highest ≡ true → IsNotStored p name attributes bytes old new no_memory

-- the host file has a name on the volume, which is not of the type DIR
pub record MayBeCalled (p : InPut) (host : List ℕ) (name : RadName) : Type 0 where
  pub named : IsNameFor p.target.name host name
  pub plain : name.ext ≢ directory_type

-- Why a host file is not put. It has no name, or one of the type DIR. Or there is no memory to read the names of the directory, for the version before.
-- Or its bytes are not written in the form. Or there is a remark, and no memory for it. In each of these cases nothing was done. Or the written bytes
-- are not put under the name.
pub data IsNotPut (p : InPut) (host bytes : List ℕ) (old new : Filed) : Why → Type 0 where
  nameless : (why : Why) → IsNameless p.target.name host why → new ≡ old → IsNotPut p host bytes old new why
  of_directory : (name : RadName) → IsNameFor p.target.name host name → name.ext ≡ directory_type → new ≡ old → IsNotPut p host bytes old new DirectoryType
  unread : (name : RadName) → MayBeCalled p host name → p.keeps ≡ true → new ≡ old → IsNotPut p host bytes old new no_memory
  unwritten : (why : Why) (name : RadName) (chosen : PutForm) (own : Option (List ℕ)) → MayBeCalled p host name → IsFormOf p name bytes old chosen own → IsUnwritten chosen own bytes why → new ≡ old
      → IsNotPut p host bytes old new why
  unremarked : (name : RadName) (chosen : PutForm) (own former : Option (List ℕ)) (attributes stored : List ℕ) (completed : Bool) (near : Option NearText) → MayBeCalled p host name → IsFormOf p name bytes old chosen own
      → IsFormerOf p name bytes old former → IsWritten chosen own bytes attributes stored → AreSeen chosen own bytes completed near → ¬ IsRemarkOn (changed_from former attributes) completed near None → new ≡ old
      → IsNotPut p host bytes old new no_memory
  unstored : (why : Why) (name : RadName) (chosen : PutForm) (own : Option (List ℕ)) (attributes stored : List ℕ) → MayBeCalled p host name → IsFormOf p name bytes old chosen own
      → IsWritten chosen own bytes attributes stored → IsNotStored p name attributes stored old new why → IsNotPut p host bytes old new why
