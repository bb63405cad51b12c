-- Why a new file is not made by its owner, or not entered by the requesting user, and what part of it exists then.
use Rattle.std.specs.Prelude.{◌≡◌, ℕ, List, Option}
use Rattle.ods_base.specs.Name.{directory_type}
use Rattle.ods_base.specs.declared.file_id.FileId.{FileId}
use Rattle.ods_base.specs.declared.file_id.Uic.{Uic}
use Rattle.ods_request.specs.declared.refusals.Refusal.TheVariants as refusal
use Rattle.ods_request.specs.declared.requests.Request.TheVariants.{Enter}
use Rattle.ods_state.specs.Outcome.{IsVersionNumber}
use Rattle.ods_filing.specs.Filed.{Filed, for_another}
use Rattle.ods_filing.specs.Put.{Heading}
use Rattle.ods_upkeep.specs.PutFor.{IsStored, IsUnstored}
use Rattle.ods_upkeep.specs.Refused.{IsNotDone}
use Rattle.ods_upkeep.specs.declared.asked.Placing.{Placing}
use Rattle.ods_upkeep.specs.declared.failure.Why.{Why}
use Rattle.ods_upkeep.specs.declared.failure.Why.TheVariants.{Request, DirectoryType}

-- The owner has made the file on the old volume. Afterwards the user makes the requests again.
pub record IsFilled (placing : Placing) (owner : Uic) (heading : Heading) (attributes bytes : List ℕ) (file : FileId) (old new : Filed) : Type 0 where
  pub made : Filed
  pub stored : IsStored placing heading attributes bytes file (for_another old owner) made
  pub back : new ≡ for_another made old.user

-- The type of the name is DIR, or the version of the header is not valid, and nothing was done. Or the owner's file is not put. Or it is, and the
-- user's request to enter it is not done.
pub data IsUnfiled (placing : Placing) (owner : Uic) (dir : FileId) (version : Option ℕ) (heading : Heading) (attributes bytes : List ℕ) (old new : Filed) : Why → Type 0 where
  named_as_directory : heading.name.ext ≡ directory_type → new ≡ old → IsUnfiled placing owner dir version heading attributes bytes old new DirectoryType
  no_version : ¬ IsVersionNumber heading.version → new ≡ old → IsUnfiled placing owner dir version heading attributes bytes old new (Request refusal.VersionsFull)
  not_made : (why : Why) (made : Filed) → IsUnstored placing heading attributes bytes (for_another old owner) made why → new ≡ for_another made old.user
      → IsUnfiled placing owner dir version heading attributes bytes old new why
  not_entered : (file : FileId) (why : Why) → IsFilled placing owner heading attributes bytes file old new → IsNotDone new (Enter dir heading.name version file) why
      → IsUnfiled placing owner dir version heading attributes bytes old new why
