-- The changes of a mounted volume that no request makes: another owner or protection of a file, another label.
use Rattle.std.specs.Prelude.{◌≡◌, ℕ, List, Option}
use Rattle.ods_base.specs.declared.file_id.FileId.{FileId}
use Rattle.ods_base.specs.declared.file_id.Uic.{Uic}
use Rattle.ods_request.specs.declared.refusals.Refusal.{Refusal}
use Rattle.ods_amend.specs.Access.{Gives, Protects}
use Rattle.ods_amend.specs.Label.{Relabels}
use Rattle.ods_volume.specs.Amended.{IsWhyNotGiven as MayNotGive, IsWhyNotProtected as MayNotProtect}
use Rattle.ods_filing.specs.Filed.{Filed, disk_at}

-- the user has set this owner and this protection of the file, each if given, with no other change
pub record HasGiven (old : Filed) (id : FileId) (owner : Option Uic) (protection : Option ℕ) (new : Filed) : Type 0 where
  pub given : Gives (disk_at old) old.user id owner protection (disk_at new)
  pub user : new.user ≡ old.user

-- why the user may not, or cannot
abbrev pub IsWhyNotGiven : Filed → FileId → Refusal → Type 0
IsWhyNotGiven f id reason = MayNotGive (disk_at f) f.user id reason

-- the file has this protection word, which is set without regard to rights, with no other change
pub record HasProtection (old : Filed) (id : FileId) (protection : ℕ) (new : Filed) : Type 0 where
  pub set : Protects (disk_at old) id protection (disk_at new)
  pub user : new.user ≡ old.user

-- why it cannot be set
abbrev pub IsWhyNotProtected : Filed → FileId → Refusal → Type 0
IsWhyNotProtected f id reason = MayNotProtect (disk_at f) id reason

-- the volume has this label, with no other change
pub record HasGotLabel (old : Filed) (label : List ℕ) (new : Filed) : Type 0 where
  pub labelled : Relabels (disk_at old) label (disk_at new)
  pub user : new.user ≡ old.user
