use Rattle.std.proofs.Common.{◌*◌, ◌≤◌, length}
use Rattle.ods_repair.specs.Settled.{IsCopyTo}
use Rattle.ods_repair.proofs.unsharing.roomy_copy.Given as goal

abbrev pub invariant-loop-number : goal.invariant-loop-number
invariant-loop-number l = record {
  copied : IsCopyTo l.set l.copy l.number;
  room : l.fn.end ≤ 64 * length l.copy;
}
