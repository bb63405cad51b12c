-- Those below this block that are free are there.
use Rattle.std.proofs.Common.{◌≡◌}
use Rattle.ods_amend.specs.Runs.{free_below}
use Rattle.ods_amend.proofs.runs.free_below.Given as goal

abbrev pub invariant-loop-at : goal.invariant-loop-at
invariant-loop-at l = l.blocks.items ≡ free_below l.fn.disk.image.now l.fn.disk.layout.now l.at
