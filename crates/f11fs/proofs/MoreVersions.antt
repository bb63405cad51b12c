-- Directories that get other versions one after another, and the lines that tell of them.
use Rattle.std.proofs.Common.{◌≡◌, ◌∙◌, ◌⊎◌, inl, inr, ◌++◌, ◌∷◌, [], ℕ, suc, ◌+◌, List, ◌<◌, length, refl, sym, subst, get_or, drop, take, arith, Bool, true, false, Result, Ok, Err, Option, Some, IfOk, IfSome}
use Rattle.std.specs.List.{All, Contains}
use Rattle.std.specs.Prelude.{None, slice_get}
use Rattle.std.proofs.Math.Seq.{drop-cons}
use Rattle.std.proofs.lemmas.Option.{none-some, slice_get_cases}
use Rattle.std.proofs.lemmas.List.Elements.{All-contains, All-push, All-take, Contains-get_or}
use Rattle.ods_mount.specs.declared.fault.MountFault.TheVariants.{DuplicateName}
use Rattle.ods_mount.specs.Faults.{FaultIsTrue, IsTrueOf}
use Rattle.ods_mount.proofs.Layouts.{same_layout}
use Rattle.ods_check.specs.Lines.{fault_of}
use Rattle.ods_check.specs.declared.fault_line.FaultLine.{FaultLine}
use Rattle.ods_check.specs.declared.fault_line.FaultLine.TheVariants.{Plain}
use Rattle.ods_space.specs.Files.{IsLayoutOf}
use Rattle.ods_space.specs.Layout.{VolumeLayout}
use Rattle.ods_base.specs.declared.file_id.FileId.{FileId}
use Rattle.ods_repair.specs.Doubled.{HasRenumbered}
use Rattle.ods_shell.specs.declared.found.Found.{Found as Named}
use Rattle.f11fs.specs.Mended.{IsDirectoryFound, IsOneDirectory, LeavesDirectories, LeavesDirectory, LeavesDouble}

-- the layout is still that of the volume
pub layout_after : (I J : List (List ℕ)) (L : VolumeLayout) (d : ℕ) → HasRenumbered I L d J → IsLayoutOf J L
layout_after I J L d h = h.read.layout

-- one line more, and the directory that it tells of, if it tells of one
pub doubled_on : (lines : List FaultLine) (line : FaultLine) (old new : List ℕ) → All (λ d. Contains lines (Plain (DuplicateName d))) old → Contains lines line
    → (new ≡ old) ⊎ ((d : ℕ) × (line ≡ Plain (DuplicateName d)) × (new ≡ old ++ d ∷ [])) → All (λ d. Contains lines (Plain (DuplicateName d))) new
doubled_on lines line old new before has (inl same) = subst (λ ds. All (λ d. Contains lines (Plain (DuplicateName d))) ds) (sym same) before
doubled_on lines line old new before has (inr more) =
    subst (λ ds. All (λ d. Contains lines (Plain (DuplicateName d))) ds) (sym more.2)
    (All-push (λ d. Contains lines (Plain (DuplicateName d))) old more.0 before (subst (Contains lines) more.1 has))

-- a list without a first element has none
pub contains_none : (ids : List FileId) (id : FileId) → None ≡ slice_get ids 0 → ¬ Contains ids id
contains_none ids id none has = elim ((slice_get_cases ids 0).1) [
  | inl there ↦ none-some there.0 (none ∙ there.2)
  | inr past ↦ let low = has.1 in let end = past.0 in absurd (omega arith)
]

-- the first of the rest is renumbered, and then the rest of it
pub directories_on : (L : VolumeLayout) (ds : List ℕ) (i : ℕ) (K mid : List (List ℕ)) (goal : List (List ℕ) → Type 0) → i < length ds
    → ((J : List (List ℕ)) → LeavesDirectories L (drop i ds) K J → goal J) → LeavesDirectory L (get_or ds i 0) K mid
    → (J : List (List ℕ)) → LeavesDirectories L (drop (i + 1) ds) mid J → goal J
directories_on L ds i K mid goal lt before one J rest =
    let place : i + 1 ≡ suc i = omega arith in
    before J (subst (λ l. LeavesDirectories L l K J) (sym (drop-cons ds i 0 lt)) (mid, one, subst (λ k. LeavesDirectories L (drop k ds) mid J) place rest))

-- the first line of a list, and each that is told, is true of the image
pub directories_true : (I : List (List ℕ)) (L : VolumeLayout) (faults : List FaultLine) (n : ℕ) (ds : List ℕ) → IsLayoutOf I L → All (λ line. FaultIsTrue I (fault_of line)) faults
    → All (λ d. Contains (take n faults) (Plain (DuplicateName d))) ds → All (λ d. IsTrueOf I L (DuplicateName d)) ds
directories_true I L faults n ds layout each told = λ i d lt.
    let line = Plain (DuplicateName (get_or ds i d)) in
    truly (get_or ds i d) (All-contains (λ l. FaultIsTrue I (fault_of l)) (take n faults) line (All-take (λ l. FaultIsTrue I (fault_of l)) n faults each) (told i d lt))
  where
    truly : (d : ℕ) → FaultIsTrue I (DuplicateName d) → IsTrueOf I L (DuplicateName d)
    truly d (inl home) = absurd home
    truly d (inr (M, seen, f)) = subst (λ N. IsTrueOf I N (DuplicateName d)) (same_layout I L M layout seen) f

-- what is left of those directories is what `double` leaves, where it is asked for
pub double_left : {E : Type 0} (b : Bool) (I : List (List ℕ)) (L : VolumeLayout) (ds : List ℕ) (r : Result (List (List ℕ)) E) → b ≡ true → IsLayoutOf I L
    → All (λ d. IsTrueOf I L (DuplicateName d)) ds → IfOk r (LeavesDirectories L ds I) → IfOk r (LeavesDouble b I)
double_left true I L ds (Ok K) asked layout each left = (L, ds, layout, each, left)
double_left true I L ds (Err f) asked layout each left = tt
double_left false I L ds r asked layout each left = absurd (cc)

one_alone : (all : List Named) (d : Named) → length all ≡ 1 → all ≡ get_or all 0 d ∷ []
one_alone [] d e = absurd (omega arith)
one_alone (x ∷ []) d e = refl
one_alone (x ∷ y ∷ ys) d e = absurd (omega arith)

-- one thing is found, and it is a directory
pub one_directory : (all : List Named) (d : Named) (r : Option FileId) → length all ≡ 1 → IfSome r (IsDirectoryFound (get_or all 0 d)) → IfSome r (IsOneDirectory all)
one_directory all d None one is = tt
one_directory all d (Some dir) one is = (get_or all 0 d, one_alone all d one, is)
