-- Deleted files that are got one after another.
use Rattle.std.proofs.Common.{◌≡◌, ◌⊎◌, inl, inr, ℕ, Bool, true, false, sym, ◌∙◌, ap, List, get_or, Option}
use Rattle.std.specs.Prelude.{IfOk, Result, Ok, Err}
use Rattle.std.specs.Borrow.{Bor}
use Rattle.ods_base.specs.declared.file_id.FileId.{FileId}
use Rattle.ods_base.specs.declared.file_id.Uic.{Uic}
use Rattle.ods_shell.specs.Shown.{ContentsAre}
use Rattle.ods_shell.specs.declared.form.Contents.{Contents}
use Rattle.ods_shell.specs.declared.form.Remark.{Remark}
use Rattle.ods_shell.specs.declared.status.Status.{Status}
use Rattle.ods_shell.specs.declared.status.Status.TheVariants as status
use Rattle.ods_space.specs.Layout.{VolumeLayout}
use Rattle.fs_reads.specs.Ends.{may_name}
use Rattle.fs_reads.specs.Targets.{AreTaken, IsWritten, StayTaken}
use Rattle.fs_reads.specs.Undeleted.{AreIdsGot, EndsBy, IsIdGot}

-- each such status may come of names, and done is what is got
pub by_may : (Got : Type 0) (s : Status) → EndsBy Got s → may_name s ≡ true
by_may Got s ends = elim ends [ inl (done, got) ↦ ap may_name done | inr other ↦ elim other [ inl refused ↦ ap may_name refused | inr host ↦ ap may_name host ] ]

pub by_done : (Got : Type 0) (s : Status) → EndsBy Got s → s ≡ status.Done → Got
by_done Got s ends e = elim ends [ inl (done, got) ↦ got | inr other ↦ elim other [ inl refused ↦ absurd (cc (sym e ∙ refused)) | inr host ↦ absurd (cc (sym e ∙ host)) ] ]

-- what is got of one is got of another
pub same_by : {E : Type 0} {One Other : Type 0} (r : Result Status E) → (One → Other) → IfOk r (EndsBy One) → IfOk r (EndsBy Other)
same_by (Ok s) so h = elim h [ inl (done, got) ↦ inl (done, so got) | inr other ↦ inr other ]
same_by (Err why) so h = tt

-- what one file of the host takes, some file takes
pub taken_by : {E : Type 0} (tells : Bool) (took : List ℕ → List ℕ → Type 0) (path : List ℕ) (contents : Contents) (r : Result Status E)
    → IfOk r (λ s. s ≡ status.Done → tells ≡ false → (bytes : List ℕ) → ContentsAre contents bytes → took path bytes) → IfOk r (λ s. s ≡ status.Done → AreTaken tells took contents)
taken_by tells took path contents (Ok s) takes = λ done asked bytes are. (path, takes done asked bytes are)
taken_by tells took path contents (Err why) takes = tt

-- What was written before stays written.
module _ (I : List (List ℕ)) (L : VolumeLayout) (user : Option Uic) (tells : Bool) (Gives : FileId → List ℕ → Option Remark → Type 0) (old new : List ℕ → List ℕ → Type 0) (stay : StayTaken old new) where
  pub id_still : (path : List ℕ) → IsIdGot I L user (IsWritten tells old Gives) path → IsIdGot I L user (IsWritten tells new Gives) path
  id_still path (f, is, says, (facts, e, may, (bytes, said, (gives, written)))) =
      (f, is, says, (facts, e, may, (bytes, said, (gives, λ asked. ((written asked).0, stay (written asked).0 bytes (written asked).1)))))

  pub ids_still : (paths : List (Bor (List ℕ))) → AreIdsGot I L user (IsWritten tells old Gives) paths → AreIdsGot I L user (IsWritten tells new Gives) paths
  ids_still paths got = λ k d small. id_still (get_or paths k d).now (got k d small)
