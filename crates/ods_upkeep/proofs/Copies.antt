-- Files that are copied, one after another.
use Rattle.std.proofs.Common.{◌≡◌, ◌+◌, ◌<◌, ◌≤◌, refl, sym, subst, ℕ, List, [], length, get_or, drop, Option, Some, None, inl, inr, arith}
use Rattle.std.specs.String.{string_bytes}
use Rattle.std.proofs.lemmas.List.Elements.{All-contains}
use Rattle.ods_base.specs.Name.{RadName}
use Rattle.ods_base.specs.declared.file_id.FileId.{FileId}
use Rattle.ods_base.specs.declared.file_id.Uic.{Uic}
use Rattle.ods_space.specs.Chain.{index_for}
use Rattle.ods_space.specs.Faults.{IsChainFault}
use Rattle.ods_space.specs.Files.{AreInside}
use Rattle.ods_space.specs.Layout.{VolumeLayout}
use Rattle.ods_space.specs.declared.fault.ChainFault.TheVariants.{BadChain, OutsideVolume, NoMemory}
use Rattle.ods_space.proofs.Chains.{same_chain}
use Rattle.ods_files.specs.Body.{Body, HasBody, IsFileFault, bytes_in}
use Rattle.ods_files.specs.declared.fault.FileFault.{FileFault}
use Rattle.ods_files.specs.declared.fault.FileFault.TheVariants.{NoSuchFile, Chain}
use Rattle.ods_files.specs.declared.form.Form.TheVariants.{Raw}
use Rattle.ods_filing.specs.Amended.{HasGiven, IsWhyNotGiven}
use Rattle.ods_filing.specs.Filed.{Filed}
use Rattle.ods_request.specs.declared.refusals.Refusal.{Refusal}
use Rattle.ods_shell.specs.declared.facts.Facts.{Facts}
use Rattle.ods_shell.specs.declared.found.Found.{Found}
use Rattle.ods_upkeep.specs.Copied.{AreCopied, IsCopied, IsCopyMade, IsCopyable, IsUncopyable, IsUnread, true_for, why_unread}
use Rattle.ods_upkeep.specs.Looked.{IsNextVersion}
use Rattle.ods_upkeep.specs.PutFor.{IsMadeFor}
use Rattle.ods_upkeep.specs.Refused.{HasPath}
use Rattle.ods_upkeep.specs.Uncopied.{IsCopyUnmade, IsFirstUncopyable, IsNotCopied, MayAllBeCopied, MayBeCopied, StopsCopying, not_given, uncopyable, unfiled, unmade}
use Rattle.ods_upkeep.specs.Unfiled.{IsUnfiled}
use Rattle.ods_upkeep.specs.declared.asked.Placing.{Placing}
use Rattle.ods_upkeep.specs.declared.failure.Failure.{Failure}
use Rattle.ods_upkeep.specs.declared.failure.Why.{Why}
use Rattle.ods_upkeep.specs.declared.failure.Why.TheVariants.{Request}
use Rattle.ods_upkeep.specs.declared.target.Target.{Target}
use Rattle.ods_upkeep.proofs.Stopping.{left_from}

-- a file with a body has no fault of its chain
not_bad : (I : List (List ℕ)) (L : VolumeLayout) (n : ℕ) (body : Body) → IsChainFault I L n BadChain → HasBody I L n body → ⊥
not_bad I L n body bad has = bad has.held.others has.lbns has.held.whole.chain

not_past : (I : List (List ℕ)) (L : VolumeLayout) (n lbn : ℕ) (body : Body) → IsChainFault I L n (OutsideVolume lbn) → HasBody I L n body → ⊥
not_past I L n lbn body out has =
    let same : has.lbns ≡ out.1 = (same_chain I L.home (index_for L n) [] 0 n has.held.others has.lbns out.0 out.1 has.held.whole.chain out.2).1 in
    let below : lbn < length I = All-contains (λ b. b < length I) out.1 lbn (subst (λ bs. AreInside I bs) same has.held.whole.inside) out.3 in
    let above : length I ≤ lbn = out.4 in
    absurd (omega arith)

-- so the bytes are not read for this reason
pub unread : (I : List (List ℕ)) (L : VolumeLayout) (n : ℕ) (fault : FileFault) → IsFileFault I L n fault → IsUnread I L n (why_unread fault)
unread I L n NoSuchFile told = inr (refl, λ body has. told has.held.file)
unread I L n (Chain BadChain) told = inr (refl, λ body has. not_bad I L n body told.1 has)
unread I L n (Chain (OutsideVolume lbn)) told = inr (refl, λ body has. not_past I L n lbn body told.1 has)
unread I L n (Chain NoMemory) told = inl refl

-- the user makes it
own_copy : (placing : Placing) (to : Target) (name : RadName) (stamp : List ℕ) (facts : Facts) (old mid filed : Filed) (user : Uic) (attributes bytes : List ℕ) (version : ℕ) (file : FileId)
    → user ≡ old.user → attributes ≡ true_for facts.attributes facts.blocks → IsMadeFor placing user to.directory to.version (record { name = name; version = version; stamp = stamp }) attributes bytes file mid filed
    → IsMadeFor placing old.user to.directory to.version (record { name = name; version = version; stamp = stamp }) (true_for facts.attributes facts.blocks) bytes file mid filed
own_copy placing to name stamp facts old mid filed user attributes bytes version file is are made =
    subst (λ u. IsMadeFor placing u to.directory to.version (record { name = name; version = version; stamp = stamp }) (true_for facts.attributes facts.blocks) bytes file mid filed) is
    (subst (λ a. IsMadeFor placing user to.directory to.version (record { name = name; version = version; stamp = stamp }) a bytes file mid filed) are made)

-- a copy is made
pub copy_made : (placing : Placing) (to : Target) (name : RadName) (stamp : List ℕ) (whose : Option Uic) (facts : Facts) (old mid filed new : Filed) (user : Uic) (attributes bytes : List ℕ) (version : ℕ) (file : FileId)
    → user ≡ old.user → attributes ≡ true_for facts.attributes facts.blocks → IsNextVersion old to.directory name to.version version mid
    → IsMadeFor placing user to.directory to.version (record { name = name; version = version; stamp = stamp }) attributes bytes file mid filed
    → HasGiven filed file whose (Some facts.protection) new → IsCopyMade placing to name stamp whose facts bytes old new
copy_made placing to name stamp whose facts old mid filed new user attributes bytes version file is are next made given = record {
  version = version;
  mid = mid;
  next = next;
  file = file;
  filed = filed;
  made = own_copy placing to name stamp facts old mid filed user attributes bytes version file is are made;
  given = given;
}

-- and none is
pub copy_unmade : (why : Why) (placing : Placing) (to : Target) (name : RadName) (stamp : List ℕ) (facts : Facts) (old mid new : Filed) (user : Uic) (attributes bytes : List ℕ) (version : ℕ)
    → user ≡ old.user → attributes ≡ true_for facts.attributes facts.blocks → IsNextVersion old to.directory name to.version version mid
    → IsUnfiled placing user to.directory to.version (record { name = name; version = version; stamp = stamp }) attributes bytes mid new why → IsCopyUnmade placing to name stamp facts bytes old new why
copy_unmade why placing to name stamp facts old mid new user attributes bytes version is are next refused =
    unfiled why version mid next (subst (λ u. IsUnfiled placing u to.directory to.version (record { name = name; version = version; stamp = stamp }) (true_for facts.attributes facts.blocks) bytes mid new why) is
    (subst (λ a. IsUnfiled placing user to.directory to.version (record { name = name; version = version; stamp = stamp }) a bytes mid new why) are refused))

-- or it is, and does not receive the protection
pub copy_not_given : (placing : Placing) (to : Target) (name : RadName) (stamp : List ℕ) (facts : Facts) (old mid filed new : Filed) (user : Uic) (attributes bytes : List ℕ) (version : ℕ) (file : FileId) (reason : Refusal)
    → user ≡ old.user → attributes ≡ true_for facts.attributes facts.blocks → IsNextVersion old to.directory name to.version version mid
    → IsMadeFor placing user to.directory to.version (record { name = name; version = version; stamp = stamp }) attributes bytes file mid filed → IsWhyNotGiven filed file reason → new ≡ filed
    → IsCopyUnmade placing to name stamp facts bytes old new (Request reason)
copy_not_given placing to name stamp facts old mid filed new user attributes bytes version file reason is are next made why stays =
    subst (λ f. IsCopyUnmade placing to name stamp facts bytes old f (Request reason)) (sym stays)
    (not_given reason version mid file next (own_copy placing to name stamp facts old mid filed user attributes bytes version file is are made) why)

-- a file is copied
pub is_copied : (placing : Placing) (to : Target) (stamp : List ℕ) (found : Found) (old new : Filed) (user : Uic) (facts : Facts) (name : RadName) (bytes lent : List ℕ)
    → user ≡ old.user → IsCopyable (Some user) to found facts name → ((body : Body) × HasBody old.image old.layout facts.file.number body × (bytes_in Raw body ≡ Some bytes))
    → lent ≡ bytes → IsCopyMade placing to name stamp None facts lent old new → IsCopied placing to stamp found old new
is_copied placing to stamp found old new user facts name bytes lent is copyable read same made = record {
  facts = facts;
  name = name;
  copyable = subst (λ u. IsCopyable (Some u) to found facts name) is copyable;
  body = read.0;
  held = read.1;
  bytes = bytes;
  all = read.2;
  made = subst (λ b. IsCopyMade placing to name stamp None facts b old new) same made;
}

-- it may not be copied
pub may_not : (why : Why) (placing : Placing) (to : Target) (stamp : List ℕ) (found : Found) (old : Filed) (user : Uic) → user ≡ old.user → IsUncopyable (Some user) to found why → IsNotCopied placing to stamp found old old why
may_not why placing to stamp found old user is reason = uncopyable why (subst (λ u. IsUncopyable (Some u) to found why) is reason) refl

-- its copy is not made
pub not_copied : (why : Why) (placing : Placing) (to : Target) (stamp : List ℕ) (found : Found) (old new : Filed) (user : Uic) (facts : Facts) (name : RadName) (bytes lent : List ℕ)
    → user ≡ old.user → IsCopyable (Some user) to found facts name → ((body : Body) × HasBody old.image old.layout facts.file.number body × (bytes_in Raw body ≡ Some bytes))
    → lent ≡ bytes → IsCopyUnmade placing to name stamp facts lent old new why → IsNotCopied placing to stamp found old new why
not_copied why placing to stamp found old new user facts name bytes lent is copyable read same refused =
    unmade why facts name read.0 bytes (subst (λ u. IsCopyable (Some u) to found facts name) is copyable) read.1 read.2 (subst (λ b. IsCopyUnmade placing to name stamp facts b old new why) same refused)

-- where the others are copied after one more, all that are left are
pub copied_on : (placing : Placing) (to : Target) (stamp : List ℕ) (all : List Found) (i : ℕ) (x : Found) (mid next new : Filed) → i < length all → x ≡ get_or all i x → IsCopied placing to stamp x mid next → AreCopied placing to stamp (drop (i + 1) all) next new
    → AreCopied placing to stamp (drop i all) mid new
copied_on placing to stamp all i x mid next new within is one copied = subst (λ l. AreCopied placing to stamp l mid new) (sym (left_from all i x within is)) (next, one, copied)

-- where they stop then, all that are left do
pub stops_on : (placing : Placing) (to : Target) (stamp : List ℕ) (all : List Found) (i : ℕ) (x : Found) (mid next new : Filed) (failure : Failure) → i < length all → x ≡ get_or all i x → IsCopied placing to stamp x mid next
    → StopsCopying placing to stamp (drop (i + 1) all) next new failure → StopsCopying placing to stamp (drop i all) mid new failure
stops_on placing to stamp all i x mid next new failure within is one stop = subst (λ l. StopsCopying placing to stamp l mid new failure) (sym (left_from all i x within is)) (inr (next, one, stop))

-- and where one is not copied
pub stops_here : (placing : Placing) (to : Target) (stamp : List ℕ) (all : List Found) (i : ℕ) (x : Found) (mid new : Filed) (failure : Failure) → i < length all → x ≡ get_or all i x → HasPath failure (string_bytes x.path)
    → IsNotCopied placing to stamp x mid new failure.why → StopsCopying placing to stamp (drop i all) mid new failure
stops_here placing to stamp all i x mid new failure within is said stays = subst (λ l. StopsCopying placing to stamp l mid new failure) (sym (left_from all i x within is)) (inl (said, stays))

-- one more may be copied
pub may_on : (reader : Option Uic) (to : Target) (all : List Found) (i : ℕ) (x : Found) → i < length all → x ≡ get_or all i x → MayBeCopied reader to x → MayAllBeCopied reader to (drop (i + 1) all) → MayAllBeCopied reader to (drop i all)
may_on reader to all i x within is one rest = subst (MayAllBeCopied reader to) (sym (left_from all i x within is)) (one, rest)

pub first_on : (reader : Option Uic) (to : Target) (all : List Found) (i : ℕ) (x : Found) (failure : Failure) → i < length all → x ≡ get_or all i x → MayBeCopied reader to x → IsFirstUncopyable reader to (drop (i + 1) all) failure
    → IsFirstUncopyable reader to (drop i all) failure
first_on reader to all i x failure within is one first = subst (λ l. IsFirstUncopyable reader to l failure) (sym (left_from all i x within is)) (inr (one, first))

-- one may not
pub first_here : (reader : Option Uic) (to : Target) (all : List Found) (i : ℕ) (x : Found) (text : List ℕ) (why : Why) (failure : Failure) → i < length all → x ≡ get_or all i x → IsUncopyable reader to x why
    → failure.why ≡ why → text ≡ string_bytes x.path → HasPath failure text → IsFirstUncopyable reader to (drop i all) failure
first_here reader to all i x text why failure within is may_not reason path said =
    subst (λ l. IsFirstUncopyable reader to l failure) (sym (left_from all i x within is)) (inl (subst (IsUncopyable reader to x) (sym reason) may_not, subst (HasPath failure) path said))
