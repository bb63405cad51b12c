use Rattle.std.proofs.Common.{◌-◌, length}
use Rattle.ods_shell.proofs.BelowAdded.{IsPartly}
use Rattle.ods_shell.proofs.below.add_entered.Given as goal

abbrev pub invariant-places : goal.invariant-places
invariant-places l = IsPartly l.start l.walk.directories l.place l.is_added l.initial.found.items l.found.items

abbrev pub decreases-places : goal.decreases-places
decreases-places l = length l.walk.directories - l.place
