-- A new file that is not made, or not entered.
use Rattle.std.proofs.Common.{◌≡◌, ◌∙◌, ap, sym, subst, ℕ, List, Option}
use Rattle.ods_base.specs.declared.file_id.FileId.{FileId}
use Rattle.ods_base.specs.declared.file_id.Uic.{Uic}
use Rattle.ods_request.specs.declared.requests.Request.TheVariants.{Enter}
use Rattle.ods_filing.specs.Filed.{Filed, for_another}
use Rattle.ods_filing.specs.Put.{Heading}
use Rattle.ods_upkeep.specs.PutFor.{IsStored, IsUnstored}
use Rattle.ods_upkeep.specs.Refused.{IsNotDone}
use Rattle.ods_upkeep.specs.Unfiled.{IsUnfiled, not_entered, not_made}
use Rattle.ods_upkeep.specs.declared.asked.Placing.{Placing}
use Rattle.ods_upkeep.specs.declared.failure.Why.{Why}

-- The volume is lent to the owner, and goes back to the user.
module _ (placing : Placing) (owner user : Uic) (dir : FileId) (version : Option ℕ) (heading : Heading) (attributes bytes : List ℕ) (old lent made back : Filed) (is : user ≡ old.user) (to : lent ≡ for_another old owner) (from : back ≡ for_another made user) where
  same_back : back ≡ for_another made old.user
  same_back = from ∙ ap (for_another made) is

  -- the owner does not make the file
  pub making_stops : (why : Why) → IsUnstored placing heading attributes bytes lent made why → IsUnfiled placing owner dir version heading attributes bytes old back why
  making_stops why refused = not_made why made (subst (λ f. IsUnstored placing heading attributes bytes f made why) to refused) same_back

  -- it is made, and the user does not enter it
  pub entering_stops : (why : Why) (file : FileId) (new : Filed) → IsStored placing heading attributes bytes file lent made → new ≡ back
      → IsNotDone back (Enter dir heading.name version file) why → IsUnfiled placing owner dir version heading attributes bytes old new why
  entering_stops why file new stored same refused =
      subst (λ f. IsUnfiled placing owner dir version heading attributes bytes old f why) (sym same)
      (not_entered file why (record {
        made = made;
        stored = subst (λ f. IsStored placing heading attributes bytes file f made) to stored;
        back = same_back;
      }) refused)
