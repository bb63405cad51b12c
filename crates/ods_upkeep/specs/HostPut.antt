-- What is left of a volume, and of its known facts, when a host file has been put.
use Rattle.std.specs.Prelude.{◌≡◌, ◌≢◌, ℕ, Bool, true, false, List, slice_index, Option, Some, None, unwrap_or, String}
use Rattle.std.specs.Option.{option_or}
use Rattle.std.specs.declared.alloc.Global.{Global}
use Rattle.ods_base.specs.Name.{RadName, directory_type}
use Rattle.ods_base.specs.declared.file_id.FileId.{FileId}
use Rattle.ods_request.specs.declared.answers.Stat.{Stat as Shown}
use Rattle.ods_filing.specs.Filed.{Filed}
use Rattle.ods_filing.specs.Put.{block_count}
use Rattle.ods_upkeep.specs.Before.{IsBefore}
use Rattle.ods_upkeep.specs.Counted.{one_more}
use Rattle.ods_upkeep.specs.HostNames.{IsNameFor}
use Rattle.ods_upkeep.specs.Kept.{IsKept, IsNotKept}
use Rattle.ods_upkeep.specs.Left.{InPut, replaced_version, replaces}
use Rattle.ods_upkeep.specs.Looked.{IsNextVersion}
use Rattle.ods_upkeep.specs.PutFor.{IsMadeFor}
use Rattle.ods_upkeep.specs.Remarks.{IsRemark}
use Rattle.ods_upkeep.specs.Replaced.{KeepsAccess, placing_kept}
use Rattle.ods_upkeep.specs.Rooms.{IsRoomMade}
use Rattle.ods_upkeep.specs.Versions.{IsNoted, Noted, behind, version_in}
use Rattle.ods_upkeep.specs.Written.{IsWritten}
use Rattle.ods_upkeep.specs.declared.asked.PutForm.{PutForm}

-- The version of the ident of a new file: the given one; otherwise the one after the highest that is known, or that the user finds.
abbrev pub IsVersionFor : Option Noted → Filed → FileId → RadName → Option ℕ → ℕ → Filed → Type 0
IsVersionFor highest old dir name (Some said) version new = (version ≡ said) × (new ≡ old)
IsVersionFor (Some noted) old dir name None version new = (version ≡ behind (version_in noted name)) × (new ≡ old)
IsVersionFor None old dir name None version new = IsNextVersion old dir name None version new

-- one entry more names this file, if names are counted
abbrev pub AreCountedOn : Option (List ℕ) → FileId → Option (List ℕ) → Type 0
AreCountedOn None file after = after ≡ None
AreCountedOn (Some before) file after = (counts : List ℕ) × (after ≡ Some counts) × (slice_index counts ≡ one_more (slice_index before) file.number)

-- this version of the name is recorded too, if the highest versions are known
abbrev pub AreNotedOn : Option Noted → RadName → ℕ → Option Noted → Type 0
AreNotedOn None name version after = after ≡ None
AreNotedOn (Some before) name version after = (noted : Noted) × (after ≡ Some noted) × IsNoted before name version noted

-- what was looked up at the beginning, and stays; names are counted then if they were
pub record IsStill (p q : InPut) : Type 0 where
  pub target : q.target ≡ p.target
  pub stamp : q.stamp ≡ p.stamp
  pub form : q.form ≡ p.form
  pub like : q.like ≡ p.like
  pub keeps : q.keeps ≡ p.keeps
  pub placing : q.placing ≡ p.placing
  pub owner : q.owner ≡ p.owner
  pub counts : replaces q ≡ replaces p

-- A file of this name, these attributes and these bytes has been put, with the earlier facts; and these are the facts then.
pub record IsPutAs (p : InPut) (name : RadName) (attributes bytes : List ℕ) (old : Filed) (q : InPut) (new : Filed) : Type 0 where
  -- the version that is free then, if room is made for the file, what is known of the file that it replaces, and the volume then
  pub free : Option ℕ
  pub held : Option Shown
  pub left : Option (List ℕ)
  pub mid : Filed
  pub room : IsRoomMade p.target.directory name p.target.version free held p.names left old mid
  -- the version of its ident, and the volume when it is known
  pub version : ℕ
  pub seen : Filed
  pub next : IsVersionFor p.highest mid p.target.directory name (option_or free p.target.version) version seen
  -- the file is made by its owner, in one piece if it replaces a contiguous one, and entered under the version that is free or given, or the next one
  pub file : FileId
  pub filed : Filed
  pub made : IsMadeFor (placing_kept p.placing held) (unwrap_or p.owner old.user) p.target.directory (option_or free p.target.version) (record { name = name; version = version; stamp = p.stamp }) attributes bytes file seen filed
  -- the user gives it what it keeps of the file that it replaces
  pub given : KeepsAccess p.owner (placing_kept p.placing held) (block_count bytes) held file filed new
  -- it is counted, and its version is noted
  pub counted : AreCountedOn left file q.names
  pub noted : AreNotedOn p.highest name version q.highest
  pub still : IsStill p q

-- The form of a file, and the attributes of its model file: the given ones. If files keep their form, they are those after the version before it: the
-- version that is replaced, or else the highest.
abbrev pub IsFormFor : Bool → PutForm → Option (List ℕ) → FileId → RadName → Option (List ℕ) → Option ℕ → List ℕ → Filed → PutForm → Option (List ℕ) → Type 0
IsFormFor false form like dir name names said bytes old chosen own = (chosen ≡ form) × (own ≡ like)
IsFormFor true form like dir name names said bytes old chosen own =
    (before : Option (List ℕ)) × IsBefore old.image old.layout dir.number name (replaced_version names said) before × IsKept before bytes chosen own

-- the same, for a file that is put under this name
abbrev pub IsFormOf : InPut → RadName → List ℕ → Filed → PutForm → Option (List ℕ) → Type 0
IsFormOf p name bytes old chosen own = IsFormFor p.keeps p.form p.like p.target.directory name p.names p.target.version bytes old chosen own

-- The attributes of the version before, if files keep their form and the form of that version is not kept.
abbrev pub IsFormerFor : Bool → FileId → RadName → Option (List ℕ) → Option ℕ → List ℕ → Filed → Option (List ℕ) → Type 0
IsFormerFor false dir name names said bytes old former = former ≡ None
IsFormerFor true dir name names said bytes old former =
    (before : Option (List ℕ)) × IsBefore old.image old.layout dir.number name (replaced_version names said) before × IsNotKept before bytes former

-- the same, for a file that is put under this name
abbrev pub IsFormerOf : InPut → RadName → List ℕ → Filed → Option (List ℕ) → Type 0
IsFormerOf p name bytes old former = IsFormerFor p.keeps p.target.directory name p.names p.target.version bytes old former

-- A host file of this name and these bytes has been put. Its name on the volume is the given one, or its own, and not of the type DIR. Its form gives
-- attributes and bytes.
pub record IsHostPut (p : InPut) (host bytes : List ℕ) (old : Filed) (q : InPut) (new : Filed) : Type 0 where
  pub name : RadName
  pub named : IsNameFor p.target.name host name
  pub plain : name.ext ≢ directory_type
  pub chosen : PutForm
  pub own : Option (List ℕ)
  pub formed : IsFormOf p name bytes old chosen own
  pub attributes : List ℕ
  pub stored : List ℕ
  pub written : IsWritten chosen own bytes attributes stored
  pub put : IsPutAs p name attributes stored old q new

-- the remark on the host file, in the form that it has, and on a form that is not kept
abbrev pub IsRemarkFor : InPut → List ℕ → List ℕ → Filed → Option (String Global) → Type 0
IsRemarkFor p host bytes old remark =
    (name : RadName) × IsNameFor p.target.name host name × ((chosen : PutForm) × ((own former : Option (List ℕ)) × IsFormOf p name bytes old chosen own × IsFormerOf p name bytes old former × IsRemark chosen own former bytes remark))
