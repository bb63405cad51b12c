-- What is true of lines.
use Rattle.std.proofs.Common.{ℕ, List, inl, inr}
use Rattle.std.specs.List.{All, Contains}
use Rattle.ods_space.specs.Layout.{VolumeLayout}
use Rattle.ods_space.specs.Files.{IsLayoutOf}
use Rattle.ods_mount.specs.declared.fault.MountFault.TheVariants.{BadIndex, DoublyUsed}
use Rattle.ods_mount.specs.Faults.{HasBadIndex, FaultIsTrue}
use Rattle.ods_mount.proofs.Unlaid.{true_by_layout}
use Rattle.ods_check.specs.declared.fault_line.IndexFault.{IndexFault}
use Rattle.ods_check.specs.declared.fault_line.IndexFault.TheVariants.{TooShort, Misplaced, OtherHome, FreePlace, HeldPlace}
use Rattle.ods_check.specs.declared.fault_line.FaultLine.{FaultLine}
use Rattle.ods_check.specs.declared.fault_line.FaultLine.TheVariants.{Plain, Shared, Index}
use Rattle.ods_check.specs.Lists.{Adds}
use Rattle.ods_check.specs.Lines.{fault_of, IsIndexFault, IsLineOf, LineIsTrue}
use Rattle.ods_check.specs.Faults.{TellsIndex, TellsFile}
use Rattle.ods_check.proofs.Adding.{told_still}

module _ (I : List (List ℕ)) (L : VolumeLayout) where
  -- where there is a reason the index is bad
  pub index_true : (why : IndexFault) → IsIndexFault I L why → HasBadIndex I L
  index_true TooShort short = inl short
  index_true (Misplaced v) (i, e, elsewhere, first) = inr (inl (i, elsewhere.0, elsewhere.1))
  index_true (OtherHome lbn) (at, one, two) = inr (inr (inl (lbn, at, one, two)))
  index_true (FreePlace k) (place, free) = inr (inr (inr (place.0, k, place.1, place.2, place.3, inl free)))
  index_true (HeldPlace k n) (place, vbn, held, three, five, not_first) = inr (inr (inr (place.0, k, place.1, place.2, place.3, inr (n, vbn, held, three, five, not_first))))

  -- a line of a volume with this layout is true of the image
  pub line_by_layout : IsLayoutOf I L → (line : FaultLine) → IsLineOf I L line → LineIsTrue I line
  line_by_layout layout (Plain fault) t = true_by_layout I L fault layout t
  line_by_layout layout (Shared m n lbn count) t = (L, layout, t)
  line_by_layout layout (Index why) t = (L, layout, t)

  -- what is told of the index stays told
  pub told_index_still : (P : FaultLine → Type 0) (old new : List FaultLine × ℕ) → Adds P old new → TellsIndex I L old.0 → TellsIndex I L new.0
  told_index_still P old new a t =
      let still : (x : FaultLine) → Contains old.0 x → Contains new.0 x = λ x. told_still P old new x a in
      record {
        short = λ h. still _ (t.short h);
        misplaced = λ i h. let was = t.misplaced i h in (was.0, still _ was.1);
        first = λ v h. still _ (t.first v h);
        home = λ lbn h. still _ (t.home lbn h);
        free = λ k h. still _ (t.free k h);
      }

  -- each reason why the index is bad is told, by the index or by a file
  module _ (faults : List FaultLine) (t : TellsIndex I L faults) (files : (n : ℕ) → TellsFile I L faults n) where
    pub each_reason : (why : IndexFault) → IsIndexFault I L why → Contains faults (Index why)
    each_reason TooShort h = t.short h
    each_reason (Misplaced v) h = t.first v h
    each_reason (OtherHome lbn) h = t.home lbn h
    each_reason (FreePlace k) h = t.free k h
    each_reason (HeldPlace k n) h = (files n).whole.places k h

    pub some_reason : HasBadIndex I L → (why : IndexFault) × Contains faults (Index why)
    some_reason (inl short) = (TooShort, t.short short)
    some_reason (inr (inl (i, small, other))) = let told = t.misplaced i (small, other) in (Misplaced told.0, told.1)
    some_reason (inr (inr (inl (lbn, at, one, two)))) = (OtherHome lbn, t.home lbn (at, one, two))
    some_reason (inr (inr (inr (lbn, k, at, place, low, inl free)))) = (FreePlace k, t.free k ((lbn, at, place, low), free))
    some_reason (inr (inr (inr (lbn, k, at, place, low, inr (n, vbn, held, three, five, not_first))))) =
        (HeldPlace k n, (files n).whole.places k ((lbn, at, place, low), vbn, held, three, five, not_first))

-- the fault of a true line is true
pub line_fault : (I : List (List ℕ)) (line : FaultLine) → LineIsTrue I line → FaultIsTrue I (fault_of line)
line_fault I (Plain fault) t = t
line_fault I (Shared m n lbn count) (L, layout, t) = true_by_layout I L (DoublyUsed m n lbn) layout t.shared
line_fault I (Index why) (L, layout, t) = true_by_layout I L BadIndex layout (index_true I L why t)

pub all_faults_true : (I : List (List ℕ)) (lines : List FaultLine) → All (LineIsTrue I) lines → All (λ line. FaultIsTrue I (fault_of line)) lines
all_faults_true I lines each k d low = line_fault I _ (each k d low)
