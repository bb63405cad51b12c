-- What the rest leaves is what all leave, also where nothing is told as left.
use Rattle.std.proofs.Common.{drop, ℕ, List}
use Rattle.ods_mount.specs.Faults.{HasBadIndex}
use Rattle.ods_space.specs.Files.{IsLayoutOf}
use Rattle.ods_repair.specs.Wholly.{AreUnsharedIn}
use Rattle.f11fs.specs.Mended.{LeavesFiles, Wholly}
use Rattle.f11fs.proofs.mending_shares.unshare_each.Given as goal

abbrev pub invariant-loop-file : goal.invariant-loop-file
invariant-loop-file l = IsLayoutOf l.image l.layout × (¬ HasBadIndex l.image l.layout)
    × ((J : List (List ℕ)) → LeavesFiles l.layout (drop l.file-index l.files) l.image J → LeavesFiles l.layout l.files l.initial.image J)
    × Wholly l.initial.report.is_left l.report.is_left ((J : List (List ℕ)) → AreUnsharedIn l.layout (drop l.file-index l.files) l.image J → AreUnsharedIn l.layout l.files l.initial.image J)
