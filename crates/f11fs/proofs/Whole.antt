-- What is so where nothing is told as left: of each step, and of one behind another.
use Rattle.std.proofs.Common.{◌≡◌, ◌∙◌, ◌⊎◌, inl, inr, ◌<◌, ◌++◌, ◌∷◌, [], ℕ, suc, ◌+◌, ◌-◌, List, Bool, true, false, Result, Ok, Err, IfOk, length, refl, sym, ap, subst, get_or, drop, take, arith}
use Rattle.std.specs.Prelude.{◌==◌, if◌then◌else◌, MatchBool, OnOk}
use Rattle.std.specs.Borrow.{Bor}
use Rattle.ods_base.specs.declared.file_id.Uic.{Uic}
use Rattle.ods_filing.specs.Filed.{Filed}
use Rattle.std.specs.List.{Contains}
use Rattle.std.proofs.Math.Seq.{drop-cons, take-suc}
use Rattle.std.proofs.lemmas.Bool.{eqb-true}
use Rattle.std.proofs.lemmas.List.{take_all}
use Rattle.std.proofs.lemmas.List.Elements.{Contains-append_left, Contains-push, Contains-push_cases}
use Rattle.ods_mount.specs.declared.fault.MountFault.TheVariants.{DuplicateName}
use Rattle.ods_check.specs.Faults.{TellsAll}
use Rattle.ods_check.specs.Lines.{fault_of}
use Rattle.ods_check.specs.declared.fault_line.FaultLine.{FaultLine}
use Rattle.ods_check.specs.declared.fault_line.FaultLine.TheVariants.{Plain}
use Rattle.ods_base.specs.declared.file_id.FileId.{FileId}
use Rattle.ods_space.specs.Files.{IsLayoutOf}
use Rattle.ods_space.specs.Layout.{VolumeLayout}
use Rattle.ods_repair.specs.Doubled.{HasRenumbered}
use Rattle.ods_repair.specs.Wholly.{AreRenumberedIn}
use Rattle.ods_repair.proofs.Wholly.{directory_of}
use Rattle.f11fs.specs.Mended.{EntersAll, EntersLost, EntersNone, EntersNot, HasDirectory, IsWhollyRenumbered, LeavesEntered, LeavesLost, Wholly, is_left_by}

-- nothing is told, so it is as before
pub same_told : (a b : Bool) (P : Type 0) → b ≡ a → P → Wholly a b P
same_told a b P same p now = (sym same ∙ now, p)

-- something is told as left
pub told_left : (a b : Bool) (P : Type 0) → b ≡ true → Wholly a b P
told_left a b P left now =
    let clash : true ≡ false = sym left ∙ now in absurd (cc clash)

-- one step behind another
pub behind : (a b c : Bool) (P Q R : Type 0) → Wholly a b P → Wholly b c Q → (P → Q → R) → Wholly a c R
behind a b c P Q R first second both now =
    let q = second now in
    let p = first q.0 in (p.0, both p.1 q.1)

-- a directory that one more line tells of
pub one_told : (line : FaultLine) (d : ℕ) (old new : List ℕ) → line ≡ Plain (DuplicateName d) → new ≡ old ++ d ∷ [] → (e : ℕ) → line ≡ Plain (DuplicateName e) → Contains new e
one_told line d old new is more e here =
    let same : d ≡ e = ap (λ l. directory_of (fault_of l)) (sym is ∙ here) in
    subst (λ l. Contains l e) (sym more) (subst (Contains (old ++ d ∷ [])) same (Contains-push old d))

-- the directories so far, with those of one line more
pub all_told : (lines : List FaultLine) (i : ℕ) (x : FaultLine) (old new : List ℕ) → i < length lines
    → ((d : ℕ) → Contains (take i lines) (Plain (DuplicateName d)) → Contains old d)
    → (new ≡ old) ⊎ ((d : ℕ) × (get_or lines i x ≡ Plain (DuplicateName d)) × (new ≡ old ++ d ∷ []))
    → ((d : ℕ) → get_or lines i x ≡ Plain (DuplicateName d) → Contains new d)
    → (d : ℕ) → Contains (take (i + 1) lines) (Plain (DuplicateName d)) → Contains new d
all_told lines i x old new low before adds one d has =
    let next : i + 1 ≡ suc i = omega arith in
    let front : take (i + 1) lines ≡ take i lines ++ get_or lines i x ∷ [] = ap (λ n. take n lines) next ∙ take-suc lines i x low in
    elim (Contains-push_cases (take i lines) (get_or lines i x) (Plain (DuplicateName d)) (subst (λ l. Contains l (Plain (DuplicateName d))) front has)) [
      | inl earlier ↦ stays adds (before d earlier)
      | inr here ↦ one d here
    ]
  where
    stays : (new ≡ old) ⊎ ((d : ℕ) × (get_or lines i x ≡ Plain (DuplicateName d)) × (new ≡ old ++ d ∷ [])) → Contains old d → Contains new d
    stays (inl same) c = subst (λ l. Contains l d) (sym same) c
    stays (inr (e, is, more)) c = subst (λ l. Contains l d) (sym more) (Contains-append_left old (e ∷ []) d c)

-- the first of the rest is renumbered, and then the rest of it
pub renumbered_on : (L : VolumeLayout) (ds : List ℕ) (i : ℕ) (K mid : List (List ℕ)) (goal : List (List ℕ) → Type 0) → i < length ds
    → ((J : List (List ℕ)) → AreRenumberedIn L (drop i ds) K J → goal J) → HasRenumbered K L (get_or ds i 0) mid
    → (J : List (List ℕ)) → AreRenumberedIn L (drop (i + 1) ds) mid J → goal J
renumbered_on L ds i K mid goal lt before one J rest =
    let place : i + 1 ≡ suc i = omega arith in
    before J (subst (λ l. AreRenumberedIn L l K J) (sym (drop-cons ds i 0 lt)) (mid, one, subst (λ k. AreRenumberedIn L (drop k ds) mid J) place rest))

-- a volume that is brought back is the old one
pub again : (old new : Filed) (I : List (List ℕ)) (L : VolumeLayout) (user : Uic) → new ≡ record { image = I; layout = L; user = user } → I ≡ old.image → L ≡ old.layout → user ≡ old.user → new ≡ old
again old new I L user is image layout same =
    subst (λ i. new ≡ record { image = i; layout = old.layout; user = old.user }) image
    (subst (λ l. new ≡ record { image = I; layout = l; user = old.user }) layout
    (subst (λ u. new ≡ record { image = I; layout = L; user = u }) same is))

-- three steps, one behind another; the last may fail, and leaves something besides
pub all_done : {A E : Type 0} (r : Result A E) (a b c d : Bool) (P Q S T R : Type 0) → Wholly a b P → Wholly b c Q → OnOk r S → OnOk r (Wholly c d T) → (P → Q → S → T → R) → OnOk r (Wholly a d R)
all_done (Err e) a b c d P Q S T R first second left third all = tt
all_done (Ok x) a b c d P Q S T R first second left third all = λ now.
    let t = third now in
    let q = second t.0 in
    let p = first q.0 in (p.0, all p.1 q.1 left t.1)

-- `lost` leaves what entering lost files leaves
pub lost_left : {A E : Type 0} (r : Result A E) (b : Bool) (stamp : List ℕ) (into : Bor (List ℕ)) (old new : Filed) → b ≡ true → OnOk r (LeavesEntered stamp into old new) → OnOk r (LeavesLost b stamp into old new)
lost_left (Err e) b stamp into old new wanted is = tt
lost_left (Ok x) true stamp into old new wanted is = inr is
lost_left (Ok x) false stamp into old new wanted is = absurd (cc wanted)

-- lost files are entered in the directory that is there or made, or not
pub entered : {E : Type 0} (r : Result Bool E) (stamp : List ℕ) (into : Bor (List ℕ)) (old mid new : Filed) (dir : FileId) → HasDirectory stamp into old mid dir
    → IfOk r (λ all. MatchBool all (EntersAll mid dir new) (EntersNot mid dir)) → IfOk r (λ all. MatchBool all (EntersLost stamp into old new) (EntersNone stamp into old))
entered (Err e) stamp into old mid new dir there is = tt
entered (Ok true) stamp into old mid new dir there is = (mid, dir, there, is)
entered (Ok false) stamp into old mid new dir there is = inr (mid, dir, there, is)

-- where no file is told as lost there is none
pub none_lost : (before : Bool) (ids : List FileId) → is_left_by before ids ≡ false → (before ≡ false) × (ids ≡ [])
none_lost before [] now = (now, refl)
none_lost before (id ∷ ids) now = absurd (cc now)

-- where nothing is told as left there are no more faults, and nothing was told before
pub none_more : (more : ℕ) (m n : Bool) → n ≡ (if more == 0 then m else true) → n ≡ false → (more ≡ 0) × (m ≡ false)
none_more more m n is now = by (more == 0) refl is
  where
    by : (z : Bool) → (more == 0) ≡ z → n ≡ (if z then m else true) → (more ≡ 0) × (m ≡ false)
    by true none here = (eqb-true more 0 none, sym here ∙ now)
    by false some here =
        let clash : true ≡ false = sym here ∙ now in absurd (cc clash)

-- no ID is in a list without one
pub none_there : (ids : List FileId) (id : FileId) → ids ≡ [] → ¬ Contains ids id
none_there ids id none has =
    let low = (subst (λ l. Contains l id) none has).1 in absurd (omega (arith, low))

-- of all directories that had two names which are one, where the lines are all that there are
pub double_whole : {E : Type 0} (b : Bool) (I : List (List ℕ)) (L : VolumeLayout) (most more : ℕ) (others : List ℕ) (faults kept : List FaultLine) (ds : List ℕ) (before told asked now : Bool)
    (r : Result (List (List ℕ)) E) → b ≡ true → IsLayoutOf I L → TellsAll I L others faults → kept ≡ take most faults → more ≡ length faults - most
    → Wholly before told ((d : ℕ) → Contains kept (Plain (DuplicateName d)) → Contains ds d) → asked ≡ (if more == 0 then told else true)
    → IfOk r (λ J. Wholly asked now (AreRenumberedIn L ds I J)) → IfOk r (λ J. Wholly before now (IsWhollyRenumbered b I J))
double_whole false I L most more others faults kept ds before told asked now r wanted layout tells front rest first middle last = absurd (cc wanted)
double_whole true I L most more others faults kept ds before told asked now (Err f) wanted layout tells front rest first middle last = tt
double_whole true I L most more others faults kept ds before told asked now (Ok J) wanted layout tells front rest first middle last = λ is.
    let third = last is in
    let second = none_more more told asked middle third.0 in
    let one = first second.1 in
    let none : length faults - most ≡ 0 = sym rest ∙ second.0 in
    let all : kept ≡ faults = front ∙ take_all most faults (omega (arith, none)) in
    (one.0, (L, ds, layout, λ d f. one.1 d (subst (λ l. Contains l (Plain (DuplicateName d))) (sym all) ((tells.files d).whole.twins f)), third.1))
