-- What the rest leaves is what all leave, also where nothing is told as left.
use Rattle.std.proofs.Common.{drop, ℕ, List}
use Rattle.ods_space.specs.Files.{IsLayoutOf}
use Rattle.ods_repair.specs.Wholly.{AreRenumberedIn}
use Rattle.f11fs.specs.Mended.{LeavesDirectories, Wholly}
use Rattle.f11fs.proofs.mending.renumber_each.Given as goal

abbrev pub invariant-loop-directory : goal.invariant-loop-directory
invariant-loop-directory l = IsLayoutOf l.image l.layout
    × ((J : List (List ℕ)) → LeavesDirectories l.layout (drop l.directory-index l.directories) l.image J
    → LeavesDirectories l.layout l.directories l.initial.image J)
    × Wholly l.initial.report.is_left l.report.is_left ((J : List (List ℕ)) → AreRenumberedIn l.layout (drop l.directory-index l.directories) l.image J
    → AreRenumberedIn l.layout l.directories l.initial.image J)
