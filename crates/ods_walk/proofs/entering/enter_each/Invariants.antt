use Rattle.ods_walk.specs.Entering.{IsBounded}
use Rattle.ods_walk.specs.Paths.{number_at}
use Rattle.ods_walk.proofs.TableGrows.{IsReading}
use Rattle.ods_walk.proofs.entering.enter_each.Given as goal

abbrev pub invariant-loop-entry : goal.invariant-loop-entry
invariant-loop-entry l =
    IsReading l.disk.image.now l.disk.layout.now (number_at l.initial.directories.items l.place) l.place l.entries l.entry-index l.is_entered l.directories.items
    × IsBounded l.initial.is_entered l.initial.directories.items l.is_entered l.directories.items
