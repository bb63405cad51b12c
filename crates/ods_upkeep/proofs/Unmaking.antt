-- Why mkdir makes no directory, and what it leaves then.
use Rattle.std.proofs.Common.{◌≡◌, ◌≢◌, ◌<◌, ◌↔◌, ◌∙◌, ap, codes, false, true, IsTrue, refl, subst, inl, inr, ℕ, List, [], ◌∷◌, ◌++◌, Option, Some, None, arith}
use Rattle.std.specs.Borrow.{Bor}
use Rattle.std.specs.List.{All, Contains}
use Rattle.std.proofs.lemmas.List.Elements.{All-head}
use Rattle.ods_base.specs.Name.{RadName}
use Rattle.ods_base.specs.declared.file_id.FileId.{FileId}
use Rattle.ods_base.specs.declared.file_id.Uic.{Uic}
use Rattle.ods_space.specs.Layout.{VolumeLayout}
use Rattle.ods_request.specs.declared.answers.Answer.TheVariants.{Created}
use Rattle.ods_request.specs.declared.requests.Request.TheVariants.{Create, Enter}
use Rattle.ods_paths.specs.Paths.{Folder}
use Rattle.ods_paths.specs.Patterns.{capitals}
use Rattle.ods_paths.specs.declared.versions.Versions.TheVariants.{Every}
use Rattle.ods_filing.specs.Filed.{Filed, for_another, IsDone}
use Rattle.ods_shell.specs.declared.folders.Directory.{Directory}
use Rattle.ods_shell.specs.declared.found.Found.{Found}
use Rattle.ods_shell.specs.declared.path_fault.PathFault.{PathFault}
use Rattle.ods_shell.specs.declared.path_fault.PathFault.TheVariants as fault
use Rattle.ods_shell.specs.Named.{AreNamed, AreNotNamed}
use Rattle.ods_shell.specs.Ways.{AreMet}
use Rattle.ods_upkeep.specs.declared.failure.Failure.{Failure}
use Rattle.ods_upkeep.specs.declared.failure.Why.{Why}
use Rattle.ods_upkeep.specs.Made.{AreMade, IsNewPlace, IsOwner, blocks_for, directories_named}
use Rattle.ods_upkeep.specs.Refused.{HasPath, IsNotDone, IsRefusedBy, for_fault, no_memory}
use Rattle.ods_upkeep.specs.Unmade.{AreNotMade, IsMasters, IsNotMade, IsThere}

-- no directories are met that are closed, where none is closed
pub none_met : (met : List Directory) → AreMet [] [] met → met ≡ []
none_met met (more, same, closed) = same ∙ none more closed
  where
    none : (ds : List Directory) → All (λ (d : Directory). Contains [] d.number) ds → ds ≡ []
    none [] all = refl
    none (d ∷ ds) all = let has = All-head (λ (e : Directory). Contains [] e.number) d ds all in (let below : has.0 < 0 = has.1 in absurd (omega (arith, below)))

-- something was found
pub there : (I : List (List ℕ)) (L : VolumeLayout) (up : Folder) (name : List ℕ) (found : List Found) → found ≢ [] → AreNamed I L [] up (directories_named name Every) None found → IsThere I L up name
there I L up name [] some are = absurd (some refl)
there I L up name (one ∷ more) some are = (one, (more, are))

-- the name is not that of the master directory in itself
pub not_masters : (dir : FileId) (name read : List ℕ) → read ≡ name → IsTrue false ↔ ((dir.number ≡ 4) × (capitals read ≡ codes "000000")) → ¬ IsMasters dir (capitals name)
not_masters dir name read is other = λ both. (let clash : false ≡ true = other.1 (both.0, ap capitals is ∙ both.1) in absurd (cc))

-- but for nothing to be found, want of memory is the one reason
pub other_fault : (I : List (List ℕ)) (L : VolumeLayout) (up : Folder) (name : List ℕ) (why : PathFault) → AreNotNamed I L up (directories_named name Every) None why → why ≢ fault.Nothing → for_fault why ≡ no_memory
other_fault I L up name fault.NoMemory none other = refl
other_fault I L up name fault.NoVersion none other = absurd (cc)
other_fault I L up name fault.Nothing none other = absurd (other refl)
other_fault I L up name (fault.Bad bad) none other = absurd none
other_fault I L up name fault.NoName none other = absurd none
other_fault I L up name fault.IsId none other = absurd none
other_fault I L up name fault.NoSuchFile none other = absurd none

-- the new file is refused
pub not_created : (said : Option Uic) (names : ℕ) (stamp path : List ℕ) (old first mid new : Filed) (dir : FileId) (name : RadName) (owner user : Uic) (why : Why)
    → IsNewPlace old.image old.layout path dir name → IsOwner said user dir name owner → user ≡ old.user → first ≡ for_another old owner → mid ≡ first
    → IsRefusedBy first (Create name 1 (blocks_for names) stamp) why → new ≡ for_another mid user → IsNotMade said names stamp path old new why
not_created said names stamp path old first mid new dir name owner user why place owns is begun same refused turned =
    let stays : new ≡ old = turned ∙ (λ i. for_another (same i) (is i)) ∙ (λ i. for_another (begun i) old.user) in
    inr (dir, (name, place, (owner, subst (λ u. IsOwner said u dir name owner) is owns, inl (stays, subst (λ f. IsRefusedBy f (Create name 1 (blocks_for names) stamp) why) begun refused))))

-- the entry is not made
pub not_entered : (said : Option Uic) (names : ℕ) (stamp path : List ℕ) (old first mid second new : Filed) (dir : FileId) (name : RadName) (file : FileId) (owner user : Uic)
    → IsNewPlace old.image old.layout path dir name → IsOwner said user dir name owner → user ≡ old.user → first ≡ for_another old owner
    → IsDone first (Create name 1 (blocks_for names) stamp) (Created file) mid → second ≡ for_another mid user → new ≡ second
    → (why : Why) → IsNotDone second (Enter dir name (Some 1) file) why → IsNotMade said names stamp path old new why
not_entered said names stamp path old first mid second new dir name file owner user place owns is begun created turned same why none =
    let here : second ≡ for_another mid old.user = turned ∙ (λ i. for_another mid (is i)) in
    inr (
      dir,
      (
        name,
        place,
        (
          owner,
          subst (λ u. IsOwner said u dir name owner) is owns,
          inr (
            file,
            (
              mid,
              subst (λ f. IsDone f (Create name 1 (blocks_for names) stamp) (Created file) mid) begun created,
              same ∙ here,
              subst (λ f. IsNotDone f (Enter dir name (Some 1) file) why) here none,
            ),
          ),
        ),
      ),
    )

-- the directories of the first paths were made, and that of the next one is not
pub stops_at : (said : Option Uic) (names : ℕ) (stamp : List ℕ) (paths : List (Bor (List ℕ))) (path : Bor (List ℕ)) (rest : List (Bor (List ℕ))) (old mid new : Filed) (failure : Failure)
    → AreMade said names stamp paths old mid → IsNotMade said names stamp path.now mid new failure.why → HasPath failure path.now → AreNotMade said names stamp (paths ++ path ∷ rest) old new failure
stops_at said names stamp [] path rest old mid new failure same none has = inl (subst (λ f. IsNotMade said names stamp path.now f new failure.why) same none, has)
stops_at said names stamp (p ∷ paths) path rest old mid new failure made none has =
    inr (made.0, made.1, stops_at said names stamp paths path rest made.0 mid new failure made.2 none has)
