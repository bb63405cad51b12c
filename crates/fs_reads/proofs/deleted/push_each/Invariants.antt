-- The texts of the paths so far.
use Rattle.std.proofs.Common.{string_bytes}
use Rattle.fs_reads.specs.Shown.{Extends}
use Rattle.fs_reads.proofs.DeletedShown.{AreShownTo}
use Rattle.fs_reads.proofs.deleted.push_each.Given as goal

abbrev pub invariant-loop-path : goal.invariant-loop-path
invariant-loop-path l =
    AreShownTo l.disk.image.now l.disk.layout.now l.json l.image l.long l.paths l.path-index (string_bytes l.initial.text) (string_bytes l.text)
    × Extends (string_bytes l.initial.text) (string_bytes l.text)
