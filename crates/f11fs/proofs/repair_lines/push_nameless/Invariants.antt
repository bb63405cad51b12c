-- The lines so far stand behind what the text had.
use Rattle.std.proofs.Common.{string_bytes}
use Rattle.fs_reads.specs.Shown.{Extends}
use Rattle.f11fs.proofs.repair_lines.push_nameless.Given as goal

abbrev pub invariant-loop-file : goal.invariant-loop-file
invariant-loop-file l = Extends (string_bytes l.initial.text) (string_bytes l.text)
