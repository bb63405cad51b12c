use Rattle.std.proofs.Common.{◌≡◌, ℕ, List}
use Rattle.ods_shell.specs.Ways.{AreMet, AreOpen, CountAsClosed}
use Rattle.ods_shell.proofs.folders.open_ones.Given as goal

abbrev pub invariant-loop-start : goal.invariant-loop-start
invariant-loop-start l = record {
  same : l.closed.numbers ≡ l.initial.closed.numbers;
  met : AreMet l.initial.closed.numbers.now l.initial.closed.met.items l.closed.met.items;
  some : (shut : List ℕ) → CountAsClosed l.initial.closed.numbers.now l.closed.met.items shut → AreOpen shut l.yielded l.found.items;
}
