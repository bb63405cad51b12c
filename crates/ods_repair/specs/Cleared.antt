-- Names that name no file are deleted: the requests, their result, and the reason why not all are made.
use Rattle.std.specs.Prelude.{◌≡◌, ◌↔◌, ℕ, List}
use Rattle.ods_base.specs.declared.listed.Listed.{Listed}
use Rattle.ods_base.specs.declared.name.Pick.TheVariants.{Exact}
use Rattle.ods_request.specs.declared.refusals.Refusal.TheVariants as refusal
use Rattle.ods_request.specs.declared.requests.Request.{Request as Asked}
use Rattle.ods_request.specs.declared.requests.Request.TheVariants.{Remove}
use Rattle.ods_check.specs.declared.dangling_list.Dangling.{Dangling}
use Rattle.ods_check.specs.Findings.{HasName, IsIdOfFile, IsNamingNone}
use Rattle.ods_check.specs.Repairs.{AreDangling}
use Rattle.ods_filing.specs.Filed.{Filed}
use Rattle.ods_repair.specs.Asked.{AsksAll, StopsAt}
use Rattle.ods_repair.specs.Kept.{KeepsFiles}
use Rattle.ods_repair.specs.declared.fault.RepairFault.{RepairFault}
use Rattle.ods_repair.specs.declared.fault.RepairFault.TheVariants.{NoMemory, NotRemoved}

-- the request that removes exactly this entry
abbrev pub removal_of : Dangling → Asked
removal_of x = Remove x.directory x.line.name (Exact x.line.version)

-- All names that named no file were removed, in this order, and nothing else was done.
pub record IsCleared (old : Filed) (found : List Dangling) (new : Filed) : Type 0 where
  pub are : AreDangling old.image old.layout found
  pub removed : AsksAll removal_of old found new
  pub files : KeepsFiles old new
  -- no name is left that names no file
  pub none : (d : ℕ) (line : Listed) → ¬ IsNamingNone new.image new.layout d line
  -- the names are those that named a file, and each names the file that it named
  pub kept : (d : ℕ) (line : Listed) → HasName new.image new.layout d line ↔ (HasName old.image old.layout d line × IsIdOfFile old.image old.layout line.file)

-- Why not all of them were removed: memory ran out. The volume is unchanged, or the earlier entries were removed, and this one was not.
abbrev pub IsNotCleared : Filed → Filed → RepairFault → Type 0
IsNotCleared old new NoMemory = new ≡ old
IsNotCleared old new (NotRemoved x reason) = (reason ≡ refusal.NoMemory) × ((found : List Dangling) × AreDangling old.image old.layout found × StopsAt removal_of old found new x reason)
IsNotCleared old new _ = ⊥
