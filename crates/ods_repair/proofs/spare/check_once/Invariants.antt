use Rattle.std.proofs.Common.{◌*◌, ◌≤◌, length}
use Rattle.ods_repair.proofs.Apart.{AreSeenOnce}
use Rattle.ods_repair.proofs.spare.check_once.Given as goal

abbrev pub invariant-loop-i : goal.invariant-loop-i
invariant-loop-i l = record {
  seen : AreSeenOnce l.blocks l.i l.seen;
  room : length l.fn.disk.image.now ≤ 64 * length l.seen;
}
