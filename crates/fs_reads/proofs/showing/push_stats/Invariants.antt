use Rattle.std.proofs.Common.{string_bytes}
use Rattle.fs_reads.specs.Shown.{Extends}
use Rattle.fs_reads.proofs.showing.push_stats.Given as goal

abbrev pub invariant-loop-path : goal.invariant-loop-path
invariant-loop-path l = Extends (string_bytes l.initial.text) (string_bytes l.text)

abbrev pub invariant-loop-found : goal.invariant-loop-found
invariant-loop-found l = Extends (string_bytes l.initial.text) (string_bytes l.text)
