-- Each file so far is told.
use Rattle.std.specs.List.{All}
use Rattle.f11fs.specs.Mended.{IsToldAsShared}
use Rattle.f11fs.proofs.mending_shares.index_sharers.Given as goal

abbrev pub invariant-loop-k : goal.invariant-loop-k
invariant-loop-k l = All (IsToldAsShared l.lines) l.files.items
