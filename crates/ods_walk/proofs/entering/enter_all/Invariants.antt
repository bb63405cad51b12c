use Rattle.std.proofs.Common.{◌+◌, ◌-◌, length}
use Rattle.std.specs.List.{count_by}
use Rattle.std.specs.Prelude.{not}
use Rattle.ods_walk.specs.Entering.{IsEntering}
use Rattle.ods_walk.proofs.entering.enter_all.Given as goal

abbrev pub invariant-places : goal.invariant-places
invariant-places l = IsEntering l.fn.disk.image.now l.fn.disk.layout.now l.is_entered.items l.directories.items l.place

abbrev pub decreases-places : goal.decreases-places
decreases-places l = count_by not l.is_entered.items + length l.directories.items - l.place
