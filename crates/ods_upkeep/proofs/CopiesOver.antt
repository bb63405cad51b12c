-- Files of another volume that are copied, one after another.
use Rattle.std.proofs.Common.{◌≡◌, ◌+◌, ◌<◌, ◌∙◌, refl, sym, ap, subst, ℕ, false, List, length, get_or, drop, Option, Some, None, inl, inr}
use Rattle.std.specs.String.{string_bytes}
use Rattle.ods_base.specs.Name.{RadName}
use Rattle.ods_base.specs.declared.file_id.Uic.{Uic}
use Rattle.ods_files.specs.Body.{Body, HasBody, bytes_in}
use Rattle.ods_files.specs.declared.form.Form.TheVariants.{Raw}
use Rattle.ods_space.specs.Layout.{VolumeLayout}
use Rattle.ods_filing.specs.Filed.{Filed}
use Rattle.ods_shell.specs.declared.facts.Facts.{Facts}
use Rattle.ods_shell.specs.declared.found.Found.{Found}
use Rattle.ods_upkeep.specs.Begun.{placing_by}
use Rattle.ods_upkeep.specs.Copied.{IsCopyMade, IsCopyable, IsUncopyable, IsUnread}
use Rattle.ods_upkeep.specs.CopiedFrom.{AreCopiedOver, IsCopiedOver, owner_carried, placing_of, stamp_for, target_for}
use Rattle.ods_upkeep.specs.Refused.{HasPath}
use Rattle.ods_upkeep.specs.Uncopied.{IsCopyUnmade}
use Rattle.ods_upkeep.specs.UncopiedFrom.{IsNotCopiedOver, StopsCopyingOver, uncopyable, unmade, unread}
use Rattle.ods_upkeep.specs.declared.asked.CopyFrom.{CopyFrom}
use Rattle.ods_upkeep.specs.declared.asked.Placing.{Placing}
use Rattle.ods_upkeep.specs.declared.asked.Placing.TheVariants.{Anywhere}
use Rattle.ods_upkeep.specs.declared.failure.Failure.{Failure}
use Rattle.ods_upkeep.specs.declared.failure.Why.{Why}
use Rattle.ods_upkeep.specs.declared.target.Target.{Target}
use Rattle.ods_upkeep.proofs.Stopping.{left_from}

-- where it is said that blocks may stand anywhere, they may
pub said_anywhere : (how : CopyFrom) (facts : Facts) (placing : Placing) → placing ≡ placing_of how facts → how.placing ≡ Some Anywhere → placing ≡ Anywhere
said_anywhere how facts placing is said = is ∙ ap (λ p. placing_by p (Some facts)) said

-- what is so of a copy that goes so is so of one that goes as it is asked for
pub as_asked : (P : Placing → Target → List ℕ → List ℕ → Type 0) (how : CopyFrom) (to place : Target) (stamp date : List ℕ) (found : Found) (facts : Facts) (placing : Placing) (bytes lent : List ℕ)
    → placing ≡ placing_of how facts → place ≡ target_for to found facts how.next → date ≡ stamp_for facts stamp → lent ≡ bytes → P placing place date lent
    → P (placing_of how facts) (target_for to found facts how.next) (stamp_for facts stamp) bytes
as_asked P how to place stamp date found facts placing bytes lent placed goes dated same holds =
    subst (λ p. P p (target_for to found facts how.next) (stamp_for facts stamp) bytes) placed
    (subst (λ t. P placing t (stamp_for facts stamp) bytes) goes
    (subst (λ s. P placing place s bytes) dated
    (subst (λ b. P placing place date b) same holds)))

-- an owner is given only where owners are kept
pub only_kept : (how : CopyFrom) (user owner : Uic) (whose : Option Uic) → whose ≡ owner_carried how.owners user owner → how.owners ≡ false → whose ≡ None
only_kept how user owner whose owns none = owns ∙ ap (λ k. owner_carried k user owner) none

-- a file is copied
pub is_copied_over : (I : List (List ℕ)) (L : VolumeLayout) (how : CopyFrom) (to place : Target) (stamp date : List ℕ) (found : Found) (old new : Filed) (facts : Facts) (name : RadName) (placing : Placing) (bytes lent : List ℕ) (user : Uic) (whose : Option Uic)
    → IsCopyable how.reader to found facts name → ((body : Body) × HasBody I L facts.file.number body × (bytes_in Raw body ≡ Some bytes))
    → placing ≡ placing_of how facts → place ≡ target_for to found facts how.next → date ≡ stamp_for facts stamp → lent ≡ bytes
    → user ≡ old.user → whose ≡ owner_carried how.owners user facts.owner → IsCopyMade placing place name date whose facts lent old new → IsCopiedOver I L how to stamp found old new
is_copied_over I L how to place stamp date found old new facts name placing bytes lent user whose copyable read placed goes dated same asks owns made = record {
  facts = facts;
  name = name;
  copyable = copyable;
  body = read.0;
  held = read.1;
  bytes = bytes;
  all = read.2;
  made = as_asked (λ p t s b. IsCopyMade p t name s (owner_carried how.owners old.user facts.owner) facts b old new) how to place stamp date found facts placing bytes lent placed goes dated same
      (subst (λ o. IsCopyMade placing place name date o facts lent old new) (owns ∙ ap (λ u. owner_carried how.owners u facts.owner) asks) made);
}

-- it may not be copied
pub may_not_over : (why : Why) (I : List (List ℕ)) (L : VolumeLayout) (how : CopyFrom) (to : Target) (stamp : List ℕ) (found : Found) (old : Filed) → IsUncopyable how.reader to found why
    → IsNotCopiedOver I L how to stamp found old old why
may_not_over why I L how to stamp found old reason = uncopyable why reason refl

-- its bytes are not read
pub unread_over : (why : Why) (I : List (List ℕ)) (L : VolumeLayout) (how : CopyFrom) (to : Target) (stamp : List ℕ) (found : Found) (old : Filed) (facts : Facts) (name : RadName)
    → IsCopyable how.reader to found facts name → IsUnread I L facts.file.number why → IsNotCopiedOver I L how to stamp found old old why
unread_over why I L how to stamp found old facts name copyable reason = unread why facts name copyable reason refl

-- its copy is not made
pub not_copied_over : (why : Why) (I : List (List ℕ)) (L : VolumeLayout) (how : CopyFrom) (to place : Target) (stamp date : List ℕ) (found : Found) (old new : Filed) (facts : Facts) (name : RadName) (placing : Placing) (bytes lent : List ℕ)
    → IsCopyable how.reader to found facts name → ((body : Body) × HasBody I L facts.file.number body × (bytes_in Raw body ≡ Some bytes))
    → placing ≡ placing_of how facts → place ≡ target_for to found facts how.next → date ≡ stamp_for facts stamp → lent ≡ bytes
    → IsCopyUnmade placing place name date facts lent old new why → IsNotCopiedOver I L how to stamp found old new why
not_copied_over why I L how to place stamp date found old new facts name placing bytes lent copyable read placed goes dated same refused =
    unmade why facts name read.0 bytes copyable read.1 read.2
    (as_asked (λ p t s b. IsCopyUnmade p t name s facts b old new why) how to place stamp date found facts placing bytes lent placed goes dated same refused)

-- where the others are copied after one more, all that are left are
pub over_on : (I : List (List ℕ)) (L : VolumeLayout) (how : CopyFrom) (to : Target) (stamp : List ℕ) (all : List Found) (i : ℕ) (x : Found) (mid next new : Filed) → i < length all → x ≡ get_or all i x → IsCopiedOver I L how to stamp x mid next
    → AreCopiedOver I L how to stamp (drop (i + 1) all) next new → AreCopiedOver I L how to stamp (drop i all) mid new
over_on I L how to stamp all i x mid next new within is one copied = subst (λ l. AreCopiedOver I L how to stamp l mid new) (sym (left_from all i x within is)) (next, one, copied)

-- where they stop then, all that are left do
pub stops_over_on : (I : List (List ℕ)) (L : VolumeLayout) (how : CopyFrom) (to : Target) (stamp : List ℕ) (all : List Found) (i : ℕ) (x : Found) (mid next new : Filed) (failure : Failure) → i < length all → x ≡ get_or all i x
    → IsCopiedOver I L how to stamp x mid next → StopsCopyingOver I L how to stamp (drop (i + 1) all) next new failure → StopsCopyingOver I L how to stamp (drop i all) mid new failure
stops_over_on I L how to stamp all i x mid next new failure within is one stop = subst (λ l. StopsCopyingOver I L how to stamp l mid new failure) (sym (left_from all i x within is)) (inr (next, one, stop))

-- and where one is not copied
pub stops_over_here : (I : List (List ℕ)) (L : VolumeLayout) (how : CopyFrom) (to : Target) (stamp : List ℕ) (all : List Found) (i : ℕ) (x : Found) (mid new : Filed) (failure : Failure) → i < length all → x ≡ get_or all i x
    → HasPath failure (string_bytes x.path) → IsNotCopiedOver I L how to stamp x mid new failure.why → StopsCopyingOver I L how to stamp (drop i all) mid new failure
stops_over_here I L how to stamp all i x mid new failure within is said stays = subst (λ l. StopsCopyingOver I L how to stamp l mid new failure) (sym (left_from all i x within is)) (inl (said, stays))

-- what is so of the volume that is lent and of a count is so of the volume and of the files that are counted
pub of_files : (P : List (List ℕ) → VolumeLayout → ℕ → Type 0) {J I : List (List ℕ)} {M L : VolumeLayout} {n m : ℕ} → J ≡ I → M ≡ L → n ≡ m → P J M n → P I L m
of_files P {J = J} {I = I} {M = M} {L = L} {n = n} {m = m} image layout count holds = subst (λ k. P I L k) count (subst (λ l. P I l n) layout (subst (λ i. P i M n) image holds))
