-- The lines so far stand behind what the text had, and each turn comes nearer to the end.
use Rattle.std.proofs.Common.{string_bytes, ◌-◌}
use Rattle.std.specs.Prelude.{length}
use Rattle.fs_reads.specs.Shown.{Extends}
use Rattle.f11fs.proofs.repair_lines.push_used.Given as goal

abbrev pub invariant-runs : goal.invariant-runs
invariant-runs l = Extends (string_bytes l.initial.text) (string_bytes l.text)

abbrev pub decreases-runs : goal.decreases-runs
decreases-runs l = length l.blocks - l.at
