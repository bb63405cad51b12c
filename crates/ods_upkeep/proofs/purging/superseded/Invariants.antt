-- Those that were looked at stand behind those that are left.
use Rattle.std.proofs.Common.{◌≡◌, ◌++◌, List, length}
use Rattle.std.specs.Prelude.{reverse}
use Rattle.ods_shell.specs.declared.found.Found.{Found}
use Rattle.ods_upkeep.specs.NameCounts.{AreCounted}
use Rattle.ods_upkeep.specs.Purged.{superseded}
use Rattle.ods_upkeep.proofs.purging.superseded.Given as goal

abbrev pub invariant-loop-found : goal.invariant-loop-found
invariant-loop-found l =
    (seen : List Found) × (l.initial.all.items ≡ l.all.items ++ seen) × AreCounted l.counts.entries seen × (l.going.items ≡ reverse (superseded l.keep seen))

abbrev pub decreases-loop-found : goal.decreases-loop-found
decreases-loop-found l = length l.all.items
