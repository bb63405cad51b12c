use Rattle.std.proofs.Common.{◌≡◌, List, ◌++◌, length}
use Rattle.ods_walk.specs.declared.tables.Line.{Line as Placed}
use Rattle.ods_walk.specs.Steps.{from_top, ArePassed}
use Rattle.ods_walk.proofs.walking.next_directory.Given as goal

abbrev pub invariant-lines : goal.invariant-lines
invariant-lines l =
    (passed : List Placed) × ArePassed l.fn.disk.image.now l.fn.disk.layout.now l.is_entered passed
    × (from_top l.initial.pile.items ≡ passed ++ from_top l.pile.items)
    × (l.lines.items ≡ l.initial.lines.items ++ passed)

abbrev pub decreases-lines : goal.decreases-lines
decreases-lines l = length l.pile.items
