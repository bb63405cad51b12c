-- Each directory so far is told as one with a name that is there twice; and where nothing is told as left, each that is told so far is among these.
use Rattle.std.proofs.Common.{ℕ, take}
use Rattle.std.specs.List.{All, Contains}
use Rattle.ods_mount.specs.declared.fault.MountFault.TheVariants.{DuplicateName}
use Rattle.ods_check.specs.declared.fault_line.FaultLine.TheVariants.{Plain}
use Rattle.f11fs.specs.Mended.{Wholly}
use Rattle.f11fs.proofs.mending.doubled_among.Given as goal

abbrev pub invariant-loop-line : goal.invariant-loop-line
invariant-loop-line l = All (λ d. Contains l.lines (Plain (DuplicateName d))) l.doubled.items
    × Wholly l.initial.report.is_left l.report.is_left ((d : ℕ) → Contains (take l.line-index l.lines) (Plain (DuplicateName d)) → Contains l.doubled.items d)
