use Rattle.std.proofs.Common.{◌≡◌, ℕ, List, take}
use Rattle.ods_paths.specs.Views.{step as said_step}
use Rattle.ods_shell.specs.Ways.{AreMet, AreSteps, CountAsClosed}
use Rattle.ods_shell.proofs.ways.follow_step.Given as goal

abbrev pub invariant-loop-directory : goal.invariant-loop-directory
invariant-loop-directory l =
    ((shut : List ℕ) → CountAsClosed l.initial.closed.numbers.now l.closed.met.items shut → AreSteps l.disk.image.now l.disk.layout.now shut (said_step l.step) (take l.directory-index l.from) l.found.items)
    × (l.closed.numbers ≡ l.initial.closed.numbers) × AreMet l.initial.closed.numbers.now l.initial.closed.met.items l.closed.met.items
