-- Those of the pairs so far are added, and nothing else differs.
use Rattle.std.proofs.Common.{◌≡◌, ◌++◌, map, take}
use Rattle.fs_words.specs.Rules.{others}
use Rattle.fs_words.proofs.arguments.with_conflicts.Given as goal

abbrev pub invariant-loop-pair : goal.invariant-loop-pair
invariant-loop-pair l = record {
  same : l.arg ≡ record l.initial.arg { conflicts = l.arg.conflicts };
  apart : map (λ s. s.now) l.arg.conflicts.items ≡ map (λ s. s.now) l.initial.arg.conflicts.items ++ others l.id (take l.pair-index l.conflicts);
}
