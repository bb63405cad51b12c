use Rattle.std.proofs.Common.{◌≤◌}
use Rattle.ods_repair.proofs.Apart.{AreApartBelow}
use Rattle.ods_repair.proofs.spare.check_apart.Given as goal

abbrev pub invariant-loop-i : goal.invariant-loop-i
invariant-loop-i l = record {
  some : l.fn.first ≤ l.i;
  apart : AreApartBelow l.fn.disk.image.now l.fn.disk.layout.now l.fn.file l.blocks l.fn.first l.i;
}
