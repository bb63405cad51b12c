-- Files of an archive, put one by one.
use Rattle.std.proofs.Common.{◌≡◌, ℕ, false, List, [], Option, None, Result, Ok, Err, sym, subst}
use Rattle.std.specs.Prelude.{MatchResult, is_some}
use Rattle.ods_base.specs.Name.{RadName}
use Rattle.ods_base.specs.declared.file_id.FileId.{FileId}
use Rattle.ods_base.specs.declared.file_id.Uic.{Uic}
use Rattle.ods_filing.specs.Amended.{HasGiven, IsWhyNotGiven}
use Rattle.ods_filing.specs.Filed.{Filed}
use Rattle.ods_filing.specs.Put.{Heading}
use Rattle.ods_paths.specs.Patterns.{has_wildcard}
use Rattle.ods_request.specs.declared.refusals.Refusal.{Refusal}
use Rattle.ods_upkeep.specs.HostPut.{IsVersionFor}
use Rattle.ods_upkeep.specs.PutFor.{IsMadeFor}
use Rattle.ods_upkeep.specs.Unfiled.{IsUnfiled}
use Rattle.ods_upkeep.specs.Untarred.{IsFiled, IsNotFiled, IsNotUntarred, IsUnpacked, IsUntarred, SaysFile, not_given, unfiled, unfiled_there}
use Rattle.ods_upkeep.specs.Wayside.{IsOpen, IsParted, IsWay, path_of_way}
use Rattle.ods_upkeep.specs.declared.failure.Why.{Why}
use Rattle.ods_upkeep.specs.declared.failure.Why.TheVariants.{Request}
use Rattle.ods_upkeep.specs.declared.untarring.Packed.{Packed}

-- the heading of a packed file
abbrev pub heading : Packed → RadName → ℕ → Heading
heading packed name version = record { name = name; version = version; stamp = packed.stamp }

module _ (packed : Packed) (dir : FileId) (name : RadName) (said : Option ℕ) (attributes stored bytes : List ℕ) (user : Uic) (version : ℕ) (old seen : Filed) (next : IsVersionFor None old dir name said version seen)
    (is : user ≡ seen.user) (same : bytes ≡ stored) where
  -- it is made for the user
  for_user : (file : FileId) (filed : Filed) → IsMadeFor packed.placing user dir said (heading packed name version) attributes bytes file seen filed
      → IsMadeFor packed.placing seen.user dir said (heading packed name version) attributes stored file seen filed
  for_user file filed made =
      subst (λ b. IsMadeFor packed.placing seen.user dir said (heading packed name version) attributes b file seen filed) same
      (subst (λ u. IsMadeFor packed.placing u dir said (heading packed name version) attributes bytes file seen filed) is made)

  pub is_filed : (file : FileId) (filed new : Filed) → IsMadeFor packed.placing user dir said (heading packed name version) attributes bytes file seen filed → HasGiven filed file packed.owner packed.protection new
      → IsFiled packed dir name said attributes stored old new
  is_filed file filed new made given = record { version = version; seen = seen; next = next; file = file; filed = filed; made = for_user file filed made; given = given }

  pub is_not_given : (file : FileId) (filed new : Filed) (reason : Refusal) → IsMadeFor packed.placing user dir said (heading packed name version) attributes bytes file seen filed → IsWhyNotGiven filed file reason → new ≡ filed
      → IsNotFiled packed dir name said attributes stored old new (Request reason)
  is_not_given file filed new reason made why stays =
      not_given reason version seen file next (subst (λ f. IsMadeFor packed.placing seen.user dir said (heading packed name version) attributes stored file seen f) (sym stays) (for_user file filed made))
      (subst (λ f. IsWhyNotGiven f file reason) (sym stays) why)

  pub is_unfiled : (new : Filed) (why : Why) → IsUnfiled packed.placing user dir said (heading packed name version) attributes bytes seen new why → IsNotFiled packed dir name said attributes stored old new why
  is_unfiled new why none =
      unfiled why version seen next
      (subst (λ b. IsUnfiled packed.placing seen.user dir said (heading packed name version) attributes b seen new why) same
      (subst (λ u. IsUnfiled packed.placing u dir said (heading packed name version) attributes bytes seen new why) is none))

-- the file is put, or not, when its directory takes names
pub ends : {A : Type 0} (r : Result A Why) (stamp : List ℕ) (packed : Packed) (old ready new : Filed) (parts : List (List ℕ)) (last : List ℕ) (name : RadName) (said : Option ℕ) (attributes stored way : List ℕ) (dir : FileId)
    → has_wildcard packed.path.now ≡ false → IsParted packed.path.now parts last → SaysFile (is_some packed.owner) last name said → IsUnpacked packed.attributes packed.bytes.now attributes stored → IsWay stamp parts [] old way ready
    → IsOpen ready.image ready.layout (path_of_way way) dir
    → MatchResult r (λ _. IsFiled packed dir name said attributes stored ready new) (IsNotFiled packed dir name said attributes stored ready new)
    → MatchResult r (λ _. IsUntarred stamp packed old new) (IsNotUntarred stamp packed old new)
ends (Ok x) stamp packed old ready new parts last name said attributes stored way dir plain parted named unpacked made takes filed = record {
  plain = plain;
  parts = parts;
  last = last;
  parted = parted;
  name = name;
  said = said;
  named = named;
  attributes = attributes;
  stored = stored;
  unpacked = unpacked;
  way = way;
  ready = ready;
  made = made;
  dir = dir;
  takes = takes;
  filed = filed;
}
ends (Err why) stamp packed old ready new parts last name said attributes stored way dir plain parted named unpacked made takes none =
    unfiled_there why parts last way ready dir name said attributes stored parted named unpacked made takes none
