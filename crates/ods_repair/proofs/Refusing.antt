-- Why a repair stops: where one request is refused.
use Rattle.std.proofs.Common.{◌≡◌, sym, subst, List}
use Rattle.ods_base.specs.declared.file_id.FileId.{FileId}
use Rattle.ods_mount.specs.Sound.{IsSoundBy}
use Rattle.ods_request.specs.declared.refusals.Refusal.{Refusal}
use Rattle.ods_check.specs.declared.dangling_list.Dangling.{Dangling}
use Rattle.ods_check.specs.Repairs.{AreDangling}
use Rattle.ods_filing.specs.Filed.{Filed}
use Rattle.ods_repair.specs.Asked.{StopsAt}
use Rattle.ods_repair.specs.Cleared.{IsNotCleared, removal_of}
use Rattle.ods_repair.specs.Found.{AreNamed, IsNotFound, entry_of}
use Rattle.ods_repair.specs.declared.fault.RepairFault.{RepairFault}
use Rattle.ods_repair.specs.declared.fault.RepairFault.TheVariants.{NotRemoved, NotEntered}
use Rattle.ods_repair.specs.declared.lost_file.LostFile.{LostFile}
use Rattle.ods_repair.proofs.Denying.{no_memory}

pub not_cleared : (old new : Filed) → IsSoundBy old.image old.layout → (found : List Dangling) → AreDangling old.image old.layout found → (why : RepairFault) (x : Dangling) (reason : Refusal) → why ≡ NotRemoved x reason
    → StopsAt removal_of old found new x reason → IsNotCleared old new why
not_cleared old new sound found are why x reason is stop = subst (IsNotCleared old new) (sym is) (no_memory old new sound found are x reason stop, (found, are, stop))

pub not_found : (old new : Filed) (dir : FileId) (found : List LostFile) → AreNamed old.image old.layout found → (why : RepairFault) (x : LostFile) (reason : Refusal) → why ≡ NotEntered x reason
    → StopsAt (entry_of dir) old found new x reason → IsNotFound old dir new why
not_found old new dir found are why x reason is stop = subst (IsNotFound old dir new) (sym is) (found, are, stop)
