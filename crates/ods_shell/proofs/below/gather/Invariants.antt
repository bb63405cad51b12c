use Rattle.std.proofs.Common.{◌≡◌, ℕ, List, map, take}
use Rattle.ods_walk.specs.Steps.{AreEntered}
use Rattle.ods_shell.specs.Ways.{AreAllBelow, AreMet, CountAsClosed}
use Rattle.ods_shell.proofs.below.gather.Given as goal

abbrev pub invariant-loop-start : goal.invariant-loop-start
invariant-loop-start l = record {
  same : l.closed.numbers ≡ l.initial.closed.numbers;
  met : AreMet l.initial.closed.numbers.now l.initial.closed.met.items l.closed.met.items;
  flags : AreEntered l.is_added (map (λ d. d.number) l.found.items);
  below : (shut : List ℕ) → CountAsClosed l.initial.closed.numbers.now l.closed.met.items shut → AreAllBelow l.disk.image.now l.disk.layout.now shut (take l.start-index l.starts) l.found.items;
}
