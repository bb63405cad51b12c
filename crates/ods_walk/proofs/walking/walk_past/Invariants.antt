use Rattle.std.specs.List.{count_by}
use Rattle.std.specs.Prelude.{not}
use Rattle.ods_walk.proofs.Going.{IsUnderWay}
use Rattle.ods_walk.proofs.walking.walk_past.Given as goal

abbrev pub invariant-directories : goal.invariant-directories
invariant-directories l = IsUnderWay l.fn.disk.image.now l.fn.disk.layout.now l.start l.closed l.directories.items l.lines.items l.is_entered.items l.pile.items

abbrev pub decreases-directories : goal.decreases-directories
decreases-directories l = count_by not l.is_entered.items
