-- Files that a path names, behind others.
use Rattle.std.proofs.Common.{◌≡◌, inl, subst, ℕ, List, ◌++◌, Option, Result, Ok, Err}
use Rattle.std.specs.Prelude.{IfOk, OnOk}
use Rattle.ods_base.specs.declared.file_id.Uic.{Uic}
use Rattle.ods_shell.specs.Ways.{CountAsClosed}
use Rattle.ods_shell.specs.declared.alone.Alone.TheVariants as alone
use Rattle.ods_shell.specs.declared.folders.Directory.{Directory as Met}
use Rattle.ods_shell.specs.declared.found.Found.{Found}
use Rattle.ods_shell.specs.declared.status.Status.{Status}
use Rattle.ods_space.specs.Layout.{VolumeLayout}
use Rattle.fs_reads.specs.Denied.{IsClosedStatus}
use Rattle.fs_reads.specs.Named.{AddsNamed, AreOfPath}

-- the files that a path names are added, and the closed directories that were met are said
pub added : {E : Type 0} (I : List (List ℕ)) (L : VolumeLayout) (user : Option Uic) (closed path : List ℕ) (met said : List Met) (found old new : List Found) (result : Result Status E)
    → said ≡ met → OnOk result (new ≡ old ++ found) → IfOk result (IsClosedStatus user said)
    → ((shut : List ℕ) → CountAsClosed closed met shut → AreOfPath I L alone.Files shut path found) → IfOk result (AddsNamed I L user closed path old new)
added I L user closed path met said found old new (Ok s) same all status named = inl (met, (found, all, named), subst (λ m. IsClosedStatus user m s) same status)
added I L user closed path met said found old new (Err e) same all status named = tt
