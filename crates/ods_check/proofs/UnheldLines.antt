-- The lines of runs of blocks that no file holds.
use Rattle.std.proofs.Common.{◌≡◌, ◌≢◌, ℕ, ◌==◌, Bool, true, false, if◌then◌else◌, List, refl, sym, subst, arith}
use Rattle.std.proofs.lemmas.Bool.{eqb-true, eqb-false}
use Rattle.ods_space.specs.Layout.{VolumeLayout}
use Rattle.ods_check.specs.declared.finding.Finding.{Finding}
use Rattle.ods_check.specs.declared.finding.Finding.TheVariants.{HeldByNone, RunHeldByNone}
use Rattle.ods_check.specs.Lists.{Adds}
use Rattle.ods_check.specs.Runs.{AddsRuns}
use Rattle.ods_check.specs.Findings.{IsHeldByNone, IsUnheldRun, IsFound, TellsUnheld, unheld_line}
use Rattle.ods_check.proofs.Adding.{told_still}
use Rattle.ods_check.proofs.Running.{run_told}

found_by : (I : List (List ℕ)) (L : VolumeLayout) (first last : ℕ) (b : Bool) → (first == last) ≡ b → IsUnheldRun I L first last → IsFound I L (if b then HeldByNone first else RunHeldByNone first last)
found_by I L first last true e run = let same = eqb-true first last e in subst (IsUnheldRun I L first) (sym same) run
found_by I L first last false e run =
    let apart : first ≢ last = eqb-false first last e in
    let forwards = run.forwards in
    ((omega (arith, apart)), run)

-- what the line of a run says is so
pub unheld_found : (I : List (List ℕ)) (L : VolumeLayout) (first last : ℕ) → IsUnheldRun I L first last → IsFound I L (unheld_line first last)
unheld_found I L first last run = found_by I L first last (first == last) refl run

-- each block that no file holds is told in the line of a run, and stays told
pub unheld_told : (I : List (List ℕ)) (L : VolumeLayout) (old mid new : List Finding × ℕ) → AddsRuns (IsHeldByNone I L) unheld_line old mid → Adds (IsFound I L) mid new → (b : ℕ) → IsHeldByNone I L b → TellsUnheld new.0 b
unheld_told I L old mid new a more b h =
    let at = a.all b h in
    (at.0.0, at.0.1, at.2, at.3, told_still (IsFound I L) mid new (unheld_line at.0.0 at.0.1) more (run_told (IsHeldByNone I L) unheld_line old mid a at.0 at.1))
