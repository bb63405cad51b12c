use Rattle.std.proofs.Common.{◌≡◌, ℕ, List, length}
use Rattle.ods_paths.specs.Views.{steps}
use Rattle.ods_shell.specs.declared.folders.Directory.{Directory}
use Rattle.ods_shell.specs.Ways.{AreLedTo, AreMet, AreStarts, CountAsClosed}
use Rattle.ods_shell.proofs.ways.find_starts.Given as goal

abbrev pub invariant-loop-step : goal.invariant-loop-step
invariant-loop-step l =
    ((shut : List ℕ) → CountAsClosed l.initial.closed.numbers.now l.closed.met.items shut → (last : List Directory)
    → AreLedTo l.disk.image.now l.disk.layout.now shut (steps l.rest) l.found.items last → AreStarts l.disk.image.now l.disk.layout.now shut (steps l.steps) last)
    × (l.closed.numbers ≡ l.initial.closed.numbers) × AreMet l.initial.closed.numbers.now l.initial.closed.met.items l.closed.met.items

abbrev pub decreases-loop-step : goal.decreases-loop-step
decreases-loop-step l = length (steps l.rest)
