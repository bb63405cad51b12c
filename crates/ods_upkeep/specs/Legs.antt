-- Requests with changes in between that no request makes: what cp leaves, whose copies receive the protection and perhaps the owner of their
-- originals, and what put leaves, whose file keeps the owner, the protection and the characteristics of the one that it replaces.
use Rattle.std.specs.Prelude.{◌≡◌, ◌⊎◌, ℕ, zero, suc, Bool, true, false, Option, Some, None}
use Rattle.ods_base.specs.declared.file_id.FileId.{FileId}
use Rattle.ods_base.specs.declared.file_id.Uic.{Uic}
use Rattle.ods_request.specs.declared.answers.Answer.TheVariants.{Info}
use Rattle.ods_request.specs.declared.answers.Stat.{Stat as Shown}
use Rattle.ods_request.specs.declared.requests.Request.{Request}
use Rattle.ods_request.specs.declared.requests.Request.TheVariants.{Stat}
use Rattle.ods_filing.specs.Amended.{HasGiven}
use Rattle.ods_filing.specs.Filed.{Filed, IsDone}
use Rattle.ods_filing.specs.Led.{IsLed}
use Rattle.ods_upkeep.specs.Kinds.{Puts}
use Rattle.ods_upkeep.specs.Replaced.{KeepsAccess, placing_kept}
use Rattle.ods_upkeep.specs.declared.asked.Placing.{Placing}
use Rattle.ods_upkeep.specs.declared.asked.Placing.TheVariants.{Anywhere}

-- a leg: accepted requests of an allowed kind, and then a file has received a protection from the user, and an owner, if owners are given
pub record IsLeg (owners : Bool) (Allows : Request → Type 0) (old new : Filed) : Type 0 where
  pub mid : Filed
  pub led : IsLed Allows old mid
  pub file : FileId
  pub owner : Option Uic
  pub alone : owners ≡ false → owner ≡ None
  pub protection : ℕ
  pub given : HasGiven mid file owner (Some protection) new

-- this number of legs, in order
abbrev pub AreLegs : Bool → (Request → Type 0) → ℕ → Filed → Filed → Type 0
AreLegs owners Allows zero old new = new ≡ old
AreLegs owners Allows (suc count) old new = (mid : Filed) × IsLeg owners Allows old mid × AreLegs owners Allows count mid new

-- the new volume is the old one after some legs
abbrev pub IsLedGiving : Bool → (Request → Type 0) → Filed → Filed → Type 0
IsLedGiving owners Allows old new = (count : ℕ) × AreLegs owners Allows count old new

-- A leg of put --replace. Requests of put, the last of which shows the file that is replaced; more of them, if the blocks of the new file may be
-- anywhere then; and the new file has received from the user what it keeps.
pub record IsKeptLeg (placing : Option Placing) (old new : Filed) : Type 0 where
  pub seen : Filed
  pub before : IsLed (Puts true) old seen
  pub replaced : FileId
  pub shown : Shown
  pub known : Filed
  pub info : IsDone seen (Stat replaced) (Info shown) known
  pub filed : Filed
  pub led : placing_kept placing (Some shown) ≡ Anywhere → IsLed (Puts true) known filed
  pub file : FileId
  pub count : ℕ
  pub kept : KeepsAccess None (placing_kept placing (Some shown)) count (Some shown) file filed new

-- the requests of put; if files are replaced, the new file may receive after them what it keeps
abbrev pub IsPutLed : Bool → Option Placing → Filed → Filed → Type 0
IsPutLed false placing old new = IsLed (Puts false) old new
IsPutLed true placing old new = IsLed (Puts true) old new ⊎ IsKeptLeg placing old new
