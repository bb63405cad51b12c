-- What is written of a host file, and is not put under a name.
use Rattle.std.proofs.Common.{◌≡◌, ◌∙◌, ap, sym, subst, inl, ℕ, List, [], ◌∷◌, Bool, true, cond, Option, is_some, Result, Ok, Err, eq-eqb}
use Rattle.std.specs.Prelude.{IfErr, MatchResult, OnOk, unwrap_or}
use Rattle.std.specs.Option.{option_or}
use Rattle.ods_base.specs.Name.{RadName}
use Rattle.ods_base.specs.declared.file_id.FileId.{FileId}
use Rattle.ods_base.specs.declared.file_id.Uic.{Uic}
use Rattle.ods_request.specs.declared.answers.Stat.{Stat as Shown}
use Rattle.ods_request.specs.declared.requests.Request.TheVariants.{Delete}
use Rattle.ods_filing.specs.Filed.{Filed}
use Rattle.ods_filing.specs.Led.{IsLed}
use Rattle.ods_filing.specs.Put.{block_count}
use Rattle.ods_filing.proofs.Led.{same_user, then_led}
use Rattle.ods_upkeep.specs.Counted.{one_less}
use Rattle.ods_upkeep.specs.HostPut.{IsVersionFor}
use Rattle.ods_upkeep.specs.Kinds.{Puts}
use Rattle.ods_upkeep.specs.Left.{InPut}
use Rattle.ods_upkeep.specs.PutFor.{IsMadeFor}
use Rattle.ods_upkeep.specs.Refused.{IsRefusedBy, StopsAt, no_memory}
use Rattle.ods_upkeep.specs.Replaced.{KeepsAccess, KeepsNoAccess, placing_kept}
use Rattle.ods_upkeep.specs.Rooms.{IsRoomMade, counts_left, file_left}
use Rattle.ods_upkeep.specs.Unfiled.{IsUnfiled}
use Rattle.ods_upkeep.specs.Unput.{IsNotStored, IsReady, heading_in, unfiled, unkept, unnoted}
use Rattle.ods_upkeep.specs.declared.asked.Placing.{Placing}
use Rattle.ods_upkeep.specs.declared.failure.Why.{Why}
use Rattle.ods_upkeep.proofs.PutLists.{room_led, version_led}

-- what follows from the promises of a call, whether it is done or fails
pub if_either : {A E P Q : Type 0} {F G : E → Type 0} (result : Result A E) → (P → Q) → ((why : E) → F why → G why) → OnOk result P → IfErr result F → MatchResult result (λ _. Q) G
if_either (Ok a) so not done refused = so done
if_either (Err e) so not done refused = not e refused

-- no other entry names the file, and it does not go
pub file_is_kept : (old new : Filed) (there : Bool) (counts left : ℕ → ℕ) (file : FileId) (count : ℕ) → there ≡ true → left ≡ one_less counts file.number → count ≡ left file.number → count ≡ 0
    → new ≡ old → (why : Why) → IsRefusedBy old (Delete file) why → StopsAt old (file_left there (counts_left there counts file) file) new why
file_is_kept old new there counts left file count is taken are none same why refused =
    let gone : StopsAt old (file_left true left file) new why =
    subst (λ b. StopsAt old (cond b (Delete file ∷ []) []) new why) (sym (eq-eqb (left file.number) 0 (sym are ∙ none))) (inl (same, inl refused)) in
    subst (λ b. StopsAt old (file_left b (counts_left b counts file) file) new why) (sym is) (subst (λ n. StopsAt old (file_left true n file) new why) taken gone)

-- what is so of the fields is so of the value
pub not_stored_of : (why : Why) {p q : InPut} (name : RadName) (attributes bytes : List ℕ) (old new : Filed) → p ≡ q → IsNotStored p name attributes bytes old new why → IsNotStored q name attributes bytes old new why
not_stored_of why name attributes bytes old new same none = subst (λ v. IsNotStored v name attributes bytes old new why) same none

-- Room is made, and the version is known; who is asked for then is the owner that is said, or the user.
module _ (p : InPut) (name : RadName) (attributes bytes all : List ℕ) (old mid seen filed : Filed) (free : Option ℕ) (held : Option Shown) (said : Option ℕ) (left : Option (List ℕ)) (version : ℕ) (user owner : Uic) (placing : Placing) (room : IsRoomMade p.target.directory name p.target.version free held p.names left old mid) (is : said ≡ option_or free p.target.version) (next : IsVersionFor p.highest mid p.target.directory name said version seen) (asks : user ≡ seen.user) (owns : owner ≡ unwrap_or p.owner user) (same : bytes ≡ all) (placed : placing ≡ placing_kept p.placing held) where
  ready : IsReady p name old said held version seen
  ready = record { free = free; left = left; mid = mid; room = room; entered = is; next = next }

  whose : owner ≡ unwrap_or p.owner old.user
  whose =
      let led : IsLed (Puts (is_some p.names)) old seen =
      then_led (room_led p.target.directory name p.target.version free held p.names left old mid room) (version_led (is_some p.names) p.highest mid p.target.directory name said version seen next) in
      owns ∙ ap (λ u. unwrap_or p.owner u) (asks ∙ same_user led)

  -- the file is not made, or not entered
  pub storing_stops : (why : Why) → IsUnfiled placing owner p.target.directory said (heading_in p name version) attributes bytes seen filed why → IsNotStored p name attributes all old filed why
  storing_stops why refused = unfiled why said held version seen ready
      (subst (λ k. IsUnfiled k (unwrap_or p.owner old.user) p.target.directory said (heading_in p name version) attributes all seen filed why) placed
      (subst (λ u. IsUnfiled placing u p.target.directory said (heading_in p name version) attributes all seen filed why) whose
      (subst (λ b. IsUnfiled placing owner p.target.directory said (heading_in p name version) attributes b seen filed why) same refused)))

  -- it is made by its owner
  module _ (file : FileId) (count : ℕ) (counts : count ≡ block_count bytes) (made : IsMadeFor placing owner p.target.directory said (heading_in p name version) attributes bytes file seen filed) where
    made_of : IsMadeFor (placing_kept p.placing held) (unwrap_or p.owner old.user) p.target.directory said (heading_in p name version) attributes all file seen filed
    made_of =
        subst (λ k. IsMadeFor k (unwrap_or p.owner old.user) p.target.directory said (heading_in p name version) attributes all file seen filed) placed
        (subst (λ u. IsMadeFor placing u p.target.directory said (heading_in p name version) attributes all file seen filed) whose
        (subst (λ b. IsMadeFor placing owner p.target.directory said (heading_in p name version) attributes b file seen filed) same made))

    -- and does not receive what it keeps
    pub keeping_stops : (new : Filed) (why : Why) → KeepsNoAccess placing count held file filed new why → IsNotStored p name attributes all old new why
    keeping_stops new why none = unkept why said held version seen file filed ready made_of
        (subst (λ k. KeepsNoAccess k (block_count all) held file filed new why) placed (subst (λ n. KeepsNoAccess placing n held file filed new why) (counts ∙ ap block_count same) none))

    -- it does, and its version is not noted
    pub noting_stops : (new : Filed) → KeepsAccess p.owner placing count held file filed new → (why : Why) → (why ≡ no_memory) × (is_some p.highest ≡ true) → IsNotStored p name attributes all old new why
    noting_stops new given why none = subst (IsNotStored p name attributes all old new) (sym none.0) (unnoted said held version seen file filed ready made_of
        (subst (λ k. KeepsAccess p.owner k (block_count all) held file filed new) placed (subst (λ n. KeepsAccess p.owner placing n held file filed new) (counts ∙ ap block_count same) given)) none.1)
