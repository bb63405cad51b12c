use Rattle.std.proofs.Common.{◌≡◌, [], take}
use Rattle.std.specs.List.{All, Contains}
use Rattle.ods_walk.specs.Walk.{NamesDirectory}
use Rattle.ods_shell.specs.Ways.{AreMet}
use Rattle.ods_shell.proofs.below.note_closed.Given as goal

abbrev pub invariant-loop-line : goal.invariant-loop-line
invariant-loop-line l = record {
  same : l.closed.numbers ≡ l.initial.closed.numbers;
  met : AreMet l.initial.closed.numbers.now l.initial.closed.met.items l.closed.met.items;
  none : l.closed.met.items ≡ [] → All (λ x. NamesDirectory l.disk.image.now l.disk.layout.now x.entry → ¬ Contains l.initial.closed.numbers.now x.entry.file.number) (take l.line-index l.line-items);
}
