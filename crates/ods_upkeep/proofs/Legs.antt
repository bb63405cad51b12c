-- Requests with changes of protection in between, put together.
use Rattle.std.proofs.Common.{◌≡◌, ℕ, zero, suc, refl, subst, Bool, false, Option, Some, None}
use Rattle.ods_base.specs.declared.file_id.FileId.{FileId}
use Rattle.ods_base.specs.declared.file_id.Uic.{Uic}
use Rattle.ods_request.specs.declared.requests.Request.{Request}
use Rattle.ods_filing.specs.Amended.{HasGiven}
use Rattle.ods_filing.specs.Filed.{Filed}
use Rattle.ods_filing.specs.Led.{IsLed}
use Rattle.ods_upkeep.specs.Legs.{AreLegs, IsLeg, IsLedGiving}

-- nothing is done
pub no_legs : {owners : Bool} {Allows : Request → Type 0} (f : Filed) → IsLedGiving owners Allows f f
no_legs f = (0, refl)

-- one leg
pub one_leg : {Allows : Request → Type 0} {old mid new : Filed} (owners : Bool) (file : FileId) (owner : Option Uic) (protection : ℕ) → (owners ≡ false → owner ≡ None) → IsLed Allows old mid → HasGiven mid file owner (Some protection) new
    → IsLedGiving owners Allows old new
one_leg {Allows = Allows} {old = old} {mid = mid} {new = new} owners file owner protection alone led given =
    let leg : IsLeg owners Allows old new = record { mid = mid; led = led; file = file; owner = owner; alone = alone; protection = protection; given = given } in
    (1, (new, leg, refl))

-- legs, one after another
legs_on : (owners : Bool) (Allows : Request → Type 0) (n m : ℕ) (old mid new : Filed) → AreLegs owners Allows n old mid → AreLegs owners Allows m mid new → IsLedGiving owners Allows old new
legs_on owners Allows zero m old mid new same rest = (m, subst (λ f. AreLegs owners Allows m f new) same rest)
legs_on owners Allows (suc n) m old mid new first rest = let more = legs_on owners Allows n m first.0 mid new first.2 rest in (suc more.0, (first.0, first.1, more.1))

pub then_legs : {owners : Bool} {Allows : Request → Type 0} {old mid new : Filed} → IsLedGiving owners Allows old mid → IsLedGiving owners Allows mid new → IsLedGiving owners Allows old new
then_legs {owners = owners} {Allows = Allows} {old = old} {mid = mid} {new = new} first rest = legs_on owners Allows first.0 rest.0 old mid new first.1 rest.1
