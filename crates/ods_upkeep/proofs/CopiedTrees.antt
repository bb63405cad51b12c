-- Directories of another volume that are copied, one after another.
use Rattle.std.proofs.Common.{◌≡◌, ◌+◌, ◌<◌, ◌≤◌, ◌∙◌, ◌-◌, take, arith, append_assoc, append-nil, Result, Ok, Err, refl, ap, sym, subst, inl, inr, ℕ, Bool, true, false, cond, List, [], ◌∷◌, ◌++◌, length, get_or, drop, Option, Some, None}
use Rattle.std.specs.Prelude.{◌≢◌, ◌⊎◌, MatchBool, MatchResult}
use Rattle.std.proofs.lemmas.List.{drop_all, take_all, length-drop}
use Rattle.ods_base.specs.Name.{RadName, directory_type}
use Rattle.ods_base.specs.declared.file_id.FileId.{FileId}
use Rattle.ods_base.specs.declared.file_id.Uic.{Uic}
use Rattle.ods_base.specs.declared.listed.Listed.{Listed}
use Rattle.ods_base.specs.declared.name.Pick.TheVariants.{Highest}
use Rattle.ods_space.specs.Layout.{VolumeLayout}
use Rattle.ods_request.specs.declared.answers.Answer.TheVariants.{Created}
use Rattle.ods_request.specs.declared.requests.Request.TheVariants.{Create, Enter}
use Rattle.ods_request.specs.declared.refusals.Refusal.TheVariants as refusal
use Rattle.ods_amend.specs.Access.{may_give}
use Rattle.ods_filing.specs.Filed.{Filed, IsDone, for_another}
use Rattle.ods_filing.specs.Led.{IsObeyed}
use Rattle.ods_shell.specs.Named.{IsEntryOf}
use Rattle.ods_shell.specs.Passed.{is_passed_over}
use Rattle.ods_shell.specs.declared.facts.Facts.{Facts}
use Rattle.ods_shell.specs.declared.folders.Directory.{Directory}
use Rattle.ods_shell.specs.declared.found.Found.{Found}
use Rattle.ods_upkeep.specs.CopiedTree.{AreDirectoriesCopied, AreFilesAt, IsAccessTo, IsDirectoryBelow, IsDirectoryCopied, IsDueTo, IsMadeIn, IsNamedIn, IsPlaceBelow, IsReachedBelow, IsWayTo}
use Rattle.ods_upkeep.specs.Looked.{IsUnseen}
use Rattle.ods_upkeep.specs.Made.{IsOwner, blocks_for}
use Rattle.ods_upkeep.specs.Refused.{IsNotDone, IsRefusedBy}
use Rattle.ods_upkeep.specs.UncopiedTree.{IsDirectoryUncopied, IsNoDirectoryBelow, IsNoPlaceBelow, IsNotReachedBelow, StopsCopyingTree}
use Rattle.ods_upkeep.specs.Unmade.{IsUnmade}
use Rattle.ods_upkeep.specs.declared.asked.CopyFrom.{CopyFrom}
use Rattle.ods_upkeep.specs.declared.giving.Access.{Access}
use Rattle.ods_upkeep.specs.declared.failure.Failure.{Failure}
use Rattle.ods_upkeep.specs.declared.failure.Why.{Why}
use Rattle.ods_upkeep.specs.declared.failure.Why.TheVariants.{Request}
use Rattle.ods_upkeep.proofs.Stopping.{left_from}

-- one more behind some, of which the first is there or not
behind : (passed first : Bool) (one found : Found) (rest : List Found)
    → cond passed (cond first rest (one ∷ rest)) (cond first rest (one ∷ rest) ++ found ∷ []) ≡ cond first (cond passed rest (rest ++ found ∷ [])) (one ∷ cond passed rest (rest ++ found ∷ []))
behind true true one found rest = refl
behind true false one found rest = refl
behind false true one found rest = refl
behind false false one found rest = refl

-- one entry more of a directory
pub files_more : (I : List (List ℕ)) (L : VolumeLayout) (d : Directory) (entries : List Listed) (files new : List Found) (e : Listed) (found : Found) → AreFilesAt I L d entries files → IsEntryOf I L d e found
    → new ≡ cond (is_passed_over found.facts) files (files ++ found ∷ []) → AreFilesAt I L d (entries ++ e ∷ []) new
files_more I L d [] files new e found none is now = (found, [], is, now ∙ ap (λ fs. cond (is_passed_over found.facts) fs (fs ++ found ∷ [])) none, refl)
files_more I L d (x ∷ entries) files new e found (one, rest, at, order, others) is now =
    let passed = is_passed_over found.facts in
    let next : List Found = cond passed rest (rest ++ found ∷ []) in
    (one, next, at, now ∙ ap (λ fs. cond passed fs (fs ++ found ∷ [])) order ∙ behind passed (is_passed_over one.facts) one found rest, files_more I L d entries rest next e found others is refl)

-- where the other names lead on from one more, all that are left do
pub place_on : (stamp : List ℕ) (names : List RadName) (i : ℕ) (x : RadName) (dir next place : FileId) (mid then_ new : Filed) → i < length names → x ≡ get_or names i x → IsDirectoryBelow stamp dir x mid next then_
    → IsPlaceBelow stamp next (drop (i + 1) names) then_ place new → IsPlaceBelow stamp dir (drop i names) mid place new
place_on stamp names i x dir next place mid then_ new within is one rest = subst (λ l. IsPlaceBelow stamp dir l mid place new) (sym (left_from names i x within is)) (next, (then_, one, rest))

-- where they lead to none then, all that are left do
pub no_place_on : (why : Why) (stamp : List ℕ) (names : List RadName) (i : ℕ) (x : RadName) (dir next : FileId) (mid then_ new : Filed) → i < length names → x ≡ get_or names i x → IsDirectoryBelow stamp dir x mid next then_
    → IsNoPlaceBelow stamp next (drop (i + 1) names) then_ new why → IsNoPlaceBelow stamp dir (drop i names) mid new why
no_place_on why stamp names i x dir next mid then_ new within is one rest = subst (λ l. IsNoPlaceBelow stamp dir l mid new why) (sym (left_from names i x within is)) (inr (next, (then_, one, rest)))

-- and where the first of them does
pub no_place_here : (why : Why) (stamp : List ℕ) (names : List RadName) (i : ℕ) (x : RadName) (dir : FileId) (mid new : Filed) → i < length names → x ≡ get_or names i x → IsNoDirectoryBelow stamp dir x mid new why
    → IsNoPlaceBelow stamp dir (drop i names) mid new why
no_place_here why stamp names i x dir mid new within is none = subst (λ l. IsNoPlaceBelow stamp dir l mid new why) (sym (left_from names i x within is)) (inl none)

-- these lists are one behind the other, and what holds of the second
abbrev pub Adds : List Access → List Access → (List Access → Type 0) → Type 0
Adds old new P = (more : List Access) × (new ≡ old ++ more) × P more

-- nothing is added
pub adds_none : (old : List Access) (P : List Access → Type 0) → P [] → Adds old old P
adds_none old P holds = ([], sym (append-nil old), holds)

-- The directories of a tree, some of which are copied.
module _ (I : List (List ℕ)) (L : VolumeLayout) (how : CopyFrom) (stamp path : List ℕ) (dir : FileId) (depth : ℕ) (all : List Directory) where
  -- what is to be given to the others is to be given to all, behind what is so far
  abbrev pub Along : List Directory → Filed → Filed → List Access → Type 0
  Along left first now so_far = (rest : List Access) (new : Filed) → AreDirectoriesCopied I L how stamp path dir depth left rest now new → AreDirectoriesCopied I L how stamp path dir depth all (so_far ++ rest) first new

  pub along_none : (first : Filed) (due : List Access) → Adds due due (Along all first first)
  along_none first due = adds_none due (Along all first first) (λ rest new copied. copied)

  -- the first of the others is copied
  pub along_next : (i : ℕ) (x : Directory) (first now next : Filed) (due mid later : List Access) → i < length all → x ≡ get_or all i x → Adds due mid (Along (drop i all) first now)
      → Adds mid later (λ more. IsDirectoryCopied I L how stamp path dir depth x more now next) → Adds due later (Along (drop (i + 1) all) first next)
  along_next i x first now next due mid later within is so one = (
    so.0 ++ one.0,
    one.1 ∙ ap (λ l. l ++ one.0) so.1 ∙ append_assoc due so.0 one.0,
    λ rest new copied.
        subst (λ l. AreDirectoriesCopied I L how stamp path dir depth all l first new) (sym (append_assoc so.0 one.0 rest))
        (so.2 (one.0 ++ rest) new
        (subst (λ l. AreDirectoriesCopied I L how stamp path dir depth l (one.0 ++ rest) now new) (sym (left_from all i x within is)) (one.0, (rest, (next, refl, one.2, copied))))),
  )

  -- all are copied
  pub along_all : (i : ℕ) (first now : Filed) (due later : List Access) → length all ≤ i → Adds due later (Along (drop i all) first now) → Adds due later (λ more. AreDirectoriesCopied I L how stamp path dir depth all more first now)
  along_all i first now due later past so = (
    so.0,
    so.1,
    subst (λ l. AreDirectoriesCopied I L how stamp path dir depth all l first now) (append-nil so.0)
        (so.2 [] now (subst (λ l. AreDirectoriesCopied I L how stamp path dir depth l [] now now) (sym (drop_all i all past)) (refl, refl))),
  )

  -- where they stop behind one more, all that are left do
  pub tree_stops_on : (i : ℕ) (x : Directory) (due : List Access) (mid next new : Filed) (failure : Failure) → i < length all → x ≡ get_or all i x → IsDirectoryCopied I L how stamp path dir depth x due mid next
      → StopsCopyingTree I L how stamp path dir depth (drop (i + 1) all) next new failure → StopsCopyingTree I L how stamp path dir depth (drop i all) mid new failure
  tree_stops_on i x due mid next new failure within is one stop = subst (λ l. StopsCopyingTree I L how stamp path dir depth l mid new failure) (sym (left_from all i x within is)) (inr (due, (next, one, stop)))

  -- and where one is not copied
  pub tree_stops_here : (failure : Failure) (i : ℕ) (x : Directory) (mid new : Filed) → i < length all → x ≡ get_or all i x → IsDirectoryUncopied I L how stamp path dir depth x mid new failure
      → StopsCopyingTree I L how stamp path dir depth (drop i all) mid new failure
  tree_stops_here failure i x mid new within is stays = subst (λ l. StopsCopyingTree I L how stamp path dir depth l mid new failure) (sym (left_from all i x within is)) (inl stays)

-- what is to be given to a directory that was made for an owner to whose files the user may give something
pub due_one : (how : CopyFrom) (user owner : Uic) (path : List ℕ) (facts : Facts) (file : FileId) (access : Access) (old new : List Access) → may_give user owner ≡ true → IsAccessTo how user path facts file access → new ≡ old ++ access ∷ []
    → Adds old new (IsDueTo how user path (Some facts) (Some owner) file)
due_one how user owner path facts file access old new may is more =
    (access ∷ [], more, subst (λ b. MatchBool b ((a : Access) × IsAccessTo how user path facts file a × (◌≡◌ {A = List Access} (access ∷ []) (a ∷ []))) (◌≡◌ {A = List Access} (access ∷ []) [])) (sym may) (access, is, refl))

-- for another owner it is nothing
pub due_none : (how : CopyFrom) (user owner : Uic) (path : List ℕ) (facts : Facts) (file : FileId) (old : List Access) → may_give user owner ≡ false → Adds old old (IsDueTo how user path (Some facts) (Some owner) file)
due_none how user owner path facts file old not =
    adds_none old (IsDueTo how user path (Some facts) (Some owner) file)
    (subst (λ b. MatchBool b ((a : Access) × IsAccessTo how user path facts file a × (◌≡◌ {A = List Access} [] (a ∷ []))) (◌≡◌ {A = List Access} [] [])) (sym not) refl)

-- a directory that was made where none was found is reached
pub reached : (stamp : List ℕ) (dir : FileId) (name : RadName) (old seen new : Filed) → IsUnseen old dir name Highest seen → (owner : Option Uic) (file : FileId) → IsNamedIn stamp dir name owner seen file new
    → IsReachedBelow stamp dir name owner old file new
reached stamp dir name old seen new unseen None file made = absurd made
reached stamp dir name old seen new unseen (Some owner) file made = (seen, unseen, made)

-- and none is where none was made
pub not_reached : (stamp : List ℕ) (dir : FileId) (name : RadName) (old seen new : Filed) → IsUnseen old dir name Highest seen → (why : Why)
    → IsUnmade None 0 stamp dir name seen new why ⊎ ((why ≡ Request refusal.NotADirectory) × (name.ext ≢ directory_type) × (new ≡ seen)) → IsNotReachedBelow stamp dir name old new why
not_reached stamp dir name old seen new unseen why (inl unmade) = inl (inr (seen, unseen, unmade))
not_reached stamp dir name old seen new unseen why (inr other) = inr (other.0, other.1, subst (IsUnseen old dir name Highest) (sym other.2) unseen)

-- names lead to a directory in which the last one is reached
pub way_on : (run date : List ℕ) (dir : FileId) (names before : List RadName) (last : RadName) (owner : Option Uic) (old : Filed) (up : FileId) (mid : Filed) (place : FileId) (new : Filed) → names ≡ before ++ last ∷ []
    → IsPlaceBelow run dir before old up mid → IsReachedBelow date up last owner mid place new → IsWayTo run date dir names owner old place new
way_on run date dir [] before last owner old up mid place new are placed reached = absurd (none before are)
  where
    none : (xs : List RadName) → [] ≡ xs ++ last ∷ [] → ⊥
    none [] e = absurd (cc)
    none (x ∷ xs) e = absurd (cc)
way_on run date dir (name ∷ names) before last owner old up mid place new are placed reached = (before, (last, are, (up, (mid, placed, reached))))

-- a directory that its owner makes, and the user enters
pub made_in : (stamp : List ℕ) (old first mid second new : Filed) (dir : FileId) (name : RadName) (file : FileId) (owner user : Uic) → IsOwner None user dir name owner → user ≡ old.user → first ≡ for_another old owner
    → IsDone first (Create name 1 (blocks_for 0) stamp) (Created file) mid → second ≡ for_another mid user → IsObeyed second (Enter dir name (Some 1) file) new → IsMadeIn stamp dir name old file new
made_in stamp old first mid second new dir name file owner user owns is begun created turned entered = (
  owner,
  (
    subst (λ u. IsOwner None u dir name owner) is owns,
    (
      mid,
      subst (λ f. IsDone f (Create name 1 (blocks_for 0) stamp) (Created file) mid) begun created,
      subst (λ u. IsObeyed (for_another mid u) (Enter dir name (Some 1) file) new) is (subst (λ f. IsObeyed f (Enter dir name (Some 1) file) new) turned entered),
    ),
  ),
)

-- its owner's request is refused
pub uncreated_in : (why : Why) (stamp : List ℕ) (old first mid second : Filed) (dir : FileId) (name : RadName) (owner user : Uic) → IsOwner None user dir name owner → user ≡ old.user → first ≡ for_another old owner → mid ≡ first
    → IsRefusedBy first (Create name 1 (blocks_for 0) stamp) why → second ≡ for_another mid user → IsUnmade None 0 stamp dir name old second why
uncreated_in why stamp old first mid second dir name owner user owns is begun same refused turned = (
  owner,
  subst (λ u. IsOwner None u dir name owner) is owns,
  inl (turned ∙ (λ i. for_another (same i) (is i)) ∙ (λ i. for_another (begun i) old.user), subst (λ f. IsRefusedBy f (Create name 1 (blocks_for 0) stamp) why) begun refused),
)

-- the user's request is
pub unentered_in : (why : Why) (stamp : List ℕ) (old first mid second new : Filed) (dir : FileId) (name : RadName) (file : FileId) (owner user : Uic) → IsOwner None user dir name owner → user ≡ old.user → first ≡ for_another old owner
    → IsDone first (Create name 1 (blocks_for 0) stamp) (Created file) mid → second ≡ for_another mid user → new ≡ second → IsNotDone second (Enter dir name (Some 1) file) why → IsUnmade None 0 stamp dir name old new why
unentered_in why stamp old first mid second new dir name file owner user owns is begun created turned same refused =
    let back : second ≡ for_another mid old.user = turned ∙ ap (for_another mid) is in (
      owner,
      subst (λ u. IsOwner None u dir name owner) is owns,
      inr (
        file,
        (
          mid,
          subst (λ f. IsDone f (Create name 1 (blocks_for 0) stamp) (Created file) mid) begun created,
          same ∙ back,
          subst (λ f. IsNotDone f (Enter dir name (Some 1) file) why) back refused,
        ),
      ),
    )

-- what follows from both promises of a call
pub told_more : {A E : Type 0} {P R : A → Type 0} {Q S : E → Type 0} (result : Result A E) → ((x : A) → P x → R x) → ((e : E) → Q e → S e) → MatchResult result P Q → MatchResult result R S
told_more (Ok x) more less told = more x told
told_more (Err e) more less told = less e told

-- nothing stands behind more than all
pub none_behind : {X : Type 0} (xs : List X) (n : ℕ) → length xs < n → [] ≡ drop n xs
none_behind xs n many = sym (drop_all n xs (omega (arith, many)))

-- and all that stands behind so many is that
pub all_behind : {X : Type 0} (xs : List X) (n : ℕ) → n ≤ length xs → take (length xs - n) (drop n xs) ≡ drop n xs
all_behind xs n few = take_all (length xs - n) (drop n xs) (omega (arith, length-drop n xs))

-- a list of none
pub no_items : {X : Type 0} (xs : List X) → length xs < 1 → xs ≡ []
no_items [] few = refl
no_items (x ∷ xs) few = absurd (omega (arith, few))
