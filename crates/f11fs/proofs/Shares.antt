-- Files that get runs of their own one after another, and the lines that tell of them.
use Rattle.std.proofs.Common.{◌≡◌, ◌≢◌, ◌∙◌, ◌⊎◌, inl, inr, ◌++◌, ◌∷◌, [], ℕ, suc, ◌+◌, ◌-◌, ◌<◌, ◌≤◌, List, length, refl, ap, sym, subst, get_or, drop, take, arith, Bool, true, false, Result, Ok, Err, IfOk}
use Rattle.std.specs.List.{All, Contains}
use Rattle.std.specs.Prelude.{Some, slice_get}
use Rattle.std.proofs.Math.Seq.{drop-cons, take-suc}
use Rattle.std.proofs.lemmas.Bool.{cases_eq}
use Rattle.std.proofs.lemmas.List.{take_all}
use Rattle.std.proofs.lemmas.List.Elements.{All-contains, All-push, Contains-append_left, Contains-get_or, Contains-push_cases}
use Rattle.std.proofs.lemmas.Option.{same_Some, slice_get-get_or, slice_get_within}
use Rattle.ods_check.specs.Faults.{TellsAll}
use Rattle.ods_check.specs.Lines.{LineIsTrue}
use Rattle.ods_check.specs.declared.fault_line.FaultLine.{FaultLine}
use Rattle.ods_check.specs.declared.fault_line.FaultLine.TheVariants.{Index, Shared}
use Rattle.ods_check.specs.declared.fault_line.IndexFault.{IndexFault}
use Rattle.ods_mount.specs.declared.fault.MountFault.TheVariants.{BadIndex, DoublyUsed}
use Rattle.ods_mount.specs.Faults.{HasBadIndex, IsTrueOf}
use Rattle.ods_mount.proofs.Layouts.{layout_is_one}
use Rattle.ods_space.specs.Files.{IsLayoutOf}
use Rattle.ods_space.specs.Layout.{VolumeLayout}
use Rattle.ods_repair.specs.Unshared.{HasOwnRuns}
use Rattle.ods_repair.specs.Wholly.{AreUnsharedIn, IsAllUnshared, IsUnshared}
use Rattle.f11fs.specs.Mended.{IsToldAsShared, IsWhollyUnshared, LeavesFile, LeavesFiles, LeavesShared, TellsLater, Wholly}

-- the files so far, with that of one line more
pub shared_on : (lines : List FaultLine) (line : FaultLine) (old new : List ℕ) → All (IsToldAsShared lines) old → Contains lines line
    → (new ≡ old) ⊎ ((n : ℕ) × TellsLater line n × (new ≡ old ++ n ∷ [])) → All (IsToldAsShared lines) new
shared_on lines line old new before has (inl same) = subst (All (IsToldAsShared lines)) (sym same) before
shared_on lines line old new before has (inr (n, (m, b, count, is), more)) =
    subst (All (IsToldAsShared lines)) (sym more) (All-push (IsToldAsShared lines) old n before (m, b, count, subst (Contains lines) is has))

-- each line from this place on has its later file among these
abbrev pub AreSharingFrom : List FaultLine → ℕ → List ℕ → Type 0
AreSharingFrom lines from files = (j n : ℕ) (line : FaultLine) → from ≤ j → slice_get lines j ≡ Some line → TellsLater line n → Contains files n

-- behind the last line there is none
pub none_behind : (lines : List FaultLine) (files : List ℕ) → AreSharingFrom lines (length lines - 0) files
none_behind lines files j n line from at tells = let within = slice_get_within lines j line at in absurd (omega (arith, from, within))

pub one_before : (lines : List FaultLine) (k : ℕ) (line : FaultLine) (old new : List ℕ) → slice_get lines k ≡ Some line → AreSharingFrom lines (k + 1) old
    → (new ≡ old) ⊎ ((n : ℕ) × TellsLater line n × (new ≡ old ++ n ∷ [])) → ((n : ℕ) → TellsLater line n → Contains new n) → AreSharingFrom lines k new
one_before lines k line old new at before adds one j n other from there tells = elim (cases_eq j k) [
  | inl same ↦ one n (subst (λ l. TellsLater l n) (same_Some other line (sym there ∙ ap (slice_get lines) same ∙ at)) tells)
  | inr later ↦ stays adds (before j n other (omega (arith, from, later)) there tells)
]
  where
    stays : (new ≡ old) ⊎ ((e : ℕ) × TellsLater line e × (new ≡ old ++ e ∷ [])) → Contains old n → Contains new n
    stays (inl same) c = subst (λ l. Contains l n) (sym same) c
    stays (inr (e, is, more)) c = subst (λ l. Contains l n) (sym more) (Contains-append_left old (e ∷ []) n c)

-- the later file of line k from the end is added, and so those of all lines from it on are there
pub sharing_on : (lines : List FaultLine) (k : ℕ) (x : FaultLine) (old new : List ℕ) → k < length lines → AreSharingFrom lines (length lines - k) old
    → (new ≡ old) ⊎ ((n : ℕ) × TellsLater (get_or lines (length lines - 1 - k) x) n × (new ≡ old ++ n ∷ []))
    → ((n : ℕ) → TellsLater (get_or lines (length lines - 1 - k) x) n → Contains new n) → AreSharingFrom lines (length lines - (k + 1)) new
sharing_on lines k x old new low before adds one =
    let at : length lines - 1 - k < length lines = omega (arith, low) in
    let next : length lines - k ≡ length lines - 1 - k + 1 = omega (arith, low) in
    let here : length lines - 1 - k ≡ length lines - (k + 1) = omega arith in
    subst (λ i. AreSharingFrom lines i new) here
    (one_before lines (length lines - 1 - k) (get_or lines (length lines - 1 - k) x) old new (slice_get-get_or lines (length lines - 1 - k) x at) (subst (λ i. AreSharingFrom lines i old) next before) adds one)

-- so each later file that a line tells of is there
pub sharing_all : (lines : List FaultLine) (from : ℕ) (files : List ℕ) → from ≡ 0 → AreSharingFrom lines from files → (n : ℕ) → IsToldAsShared lines n → Contains files n
sharing_all lines from files first all n told =
    let line = Shared told.0 n told.1 told.2 in
    let has = told.3 in
    all has.0 n line (omega (arith, first)) (slice_get-get_or lines has.0 line has.1 ∙ ap Some has.2) (told.0, told.1, told.2, refl)

-- no line so far says that the index is bad, and this one does not
pub none_on : (lines : List FaultLine) (i : ℕ) (x : FaultLine) → i < length lines → ((why : IndexFault) → ¬ Contains (take i lines) (Index why)) → ((why : IndexFault) → get_or lines i x ≢ Index why)
    → (why : IndexFault) → ¬ Contains (take (i + 1) lines) (Index why)
none_on lines i x low before one why has =
    let next : i + 1 ≡ suc i = omega arith in
    let front : take (i + 1) lines ≡ take i lines ++ get_or lines i x ∷ [] = ap (λ n. take n lines) next ∙ take-suc lines i x low in
    elim (Contains-push_cases (take i lines) (get_or lines i x) (Index why) (subst (λ l. Contains l (Index why)) front has)) [
      | inl earlier ↦ before why earlier
      | inr here ↦ one why here
    ]

-- the first of the rest gets runs of its own, and then the rest of it
pub files_on : (L : VolumeLayout) (ns : List ℕ) (i : ℕ) (K mid : List (List ℕ)) (goal : List (List ℕ) → Type 0) → i < length ns
    → ((J : List (List ℕ)) → LeavesFiles L (drop i ns) K J → goal J) → LeavesFile L (get_or ns i 0) K mid
    → (J : List (List ℕ)) → LeavesFiles L (drop (i + 1) ns) mid J → goal J
files_on L ns i K mid goal lt before one J rest =
    let place : i + 1 ≡ suc i = omega arith in
    before J (subst (λ l. LeavesFiles L l K J) (sym (drop-cons ns i 0 lt)) (mid, one, subst (λ k. LeavesFiles L (drop k ns) mid J) place rest))

pub unshared_on : (L : VolumeLayout) (ns : List ℕ) (i : ℕ) (K mid : List (List ℕ)) (goal : List (List ℕ) → Type 0) → i < length ns
    → ((J : List (List ℕ)) → AreUnsharedIn L (drop i ns) K J → goal J) → IsUnshared K L (get_or ns i 0) mid
    → (J : List (List ℕ)) → AreUnsharedIn L (drop (i + 1) ns) mid J → goal J
unshared_on L ns i K mid goal lt before one J rest =
    let place : i + 1 ≡ suc i = omega arith in
    before J (subst (λ l. AreUnsharedIn L l K J) (sym (drop-cons ns i 0 lt)) (mid, one, subst (λ k. AreUnsharedIn L (drop k ns) mid J) place rest))

-- what is told of the files that share blocks is true of the image
pub shares_true : (I : List (List ℕ)) (L : VolumeLayout) (faults : List FaultLine) (ns : List ℕ) → IsLayoutOf I L → All (LineIsTrue I) faults → All (IsToldAsShared faults) ns → All (λ n. (m : ℕ) × (b : ℕ) × IsTrueOf I L (DoublyUsed m n b)) ns
shares_true I L faults ns layout each told = λ i d lt.
    let one = told i d lt in
    let line = All-contains (LineIsTrue I) faults (Shared one.0 (get_or ns i d) one.1 one.2) each one.3 in
    (one.0, one.1, subst (λ M. IsTrueOf I M (DoublyUsed one.0 (get_or ns i d) one.1)) (layout_is_one I line.0 L line.1 layout) line.2.shared)

-- where no line says that the index is bad, it is not
pub good_index : (I : List (List ℕ)) (L : VolumeLayout) (others : List ℕ) (faults : List FaultLine) → TellsAll I L others faults → ((why : IndexFault) → ¬ Contains faults (Index why)) → ¬ HasBadIndex I L
good_index I L others faults tells none bad = let told = tells.bad_index bad in none told.0 told.1

-- what is left of those files is what `share` leaves, where it is asked for
pub share_left : {E : Type 0} (b : Bool) (I : List (List ℕ)) (L : VolumeLayout) (ns : List ℕ) (r : Result (List (List ℕ)) E) → b ≡ true → IsLayoutOf I L
    → All (λ n. (m : ℕ) × (c : ℕ) × IsTrueOf I L (DoublyUsed m n c)) ns → IfOk r (LeavesFiles L ns I) → IfOk r (LeavesShared b I)
share_left true I L ns (Ok K) asked layout each left = (L, ns, layout, each, left)
share_left true I L ns (Err f) asked layout each left = tt
share_left false I L ns r asked layout each left = absurd (cc)

-- of all files that share blocks, where the lines are all that there are
pub share_whole : {E : Type 0} (b : Bool) (I : List (List ℕ)) (L : VolumeLayout) (others : List ℕ) (faults : List FaultLine) (ns : List ℕ) (before told now : Bool) (r : Result (List (List ℕ)) E)
    → b ≡ true → IsLayoutOf I L → TellsAll I L others faults → others ≡ [] → Wholly before told ((n : ℕ) → IsToldAsShared faults n → Contains ns n)
    → IfOk r (λ J. Wholly told now (AreUnsharedIn L ns I J)) → IfOk r (λ J. Wholly before now (IsWhollyUnshared b I J))
share_whole false I L others faults ns before told now r wanted layout tells none first last = absurd (cc wanted)
share_whole true I L others faults ns before told now (Err f) wanted layout tells none first last = tt
share_whole true I L others faults ns before told now (Ok J) wanted layout tells none first last = λ is.
    let second = last is in
    let one = first second.0 in
    (one.0, (L, ns, layout, known one.1, second.1))
  where
    known : ((n : ℕ) → IsToldAsShared faults n → Contains ns n) → (m n c : ℕ) → m ≤ n → IsTrueOf I L (DoublyUsed m n c) → Contains ns n
    known all m n c low f = elim (tells.shared m n low) [
      | inl pair ↦ let line = pair c f in all n (m, line.0, line.1, line.2)
      | inr there ↦ absurd (let lt = (subst (λ l. Contains l n) none there).1 in omega (arith, lt))
    ]

-- where no file has to move, the image is what `share` leaves
pub none_left : (b : Bool) (I : List (List ℕ)) (L : VolumeLayout) → b ≡ true → IsLayoutOf I L → LeavesShared b I I
none_left true I L asked layout = (L, [], layout, λ i d lt. absurd (omega (arith, lt)), refl)
none_left false I L asked layout = absurd (cc asked)

-- and none shared a block, where the lines are all that there are
pub none_whole : (b : Bool) (I : List (List ℕ)) (L : VolumeLayout) (others : List ℕ) (faults : List FaultLine) (ns : List ℕ) (before told : Bool) → b ≡ true → IsLayoutOf I L
    → TellsAll I L others faults → others ≡ [] → length ns ≡ 0 → Wholly before told ((n : ℕ) → IsToldAsShared faults n → Contains ns n) → Wholly before told (IsWhollyUnshared b I I)
none_whole b I L others faults ns before told wanted layout tells none empty first =
    share_whole {E = Unit {0}} b I L others faults ns before told told (Ok I) wanted layout tells none first (λ now. (now, subst (λ l. AreUnsharedIn L l I I) (sym (nothing ns empty)) refl))
  where
    nothing : (l : List ℕ) → length l ≡ 0 → l ≡ []
    nothing [] is = refl
    nothing (n ∷ l) is = absurd (omega (arith, is))
