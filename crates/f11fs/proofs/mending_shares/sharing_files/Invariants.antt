-- Each file so far is told; and where nothing is told as left, each line from this place on has its later file among these.
use Rattle.std.proofs.Common.{◌-◌, length}
use Rattle.std.specs.List.{All}
use Rattle.f11fs.specs.Mended.{IsToldAsShared, Wholly}
use Rattle.f11fs.proofs.Shares.{AreSharingFrom}
use Rattle.f11fs.proofs.mending_shares.sharing_files.Given as goal

abbrev pub invariant-loop-k : goal.invariant-loop-k
invariant-loop-k l = All (IsToldAsShared l.lines) l.files.items × Wholly l.initial.report.is_left l.report.is_left (AreSharingFrom l.lines (length l.lines - l.k) l.files.items)
