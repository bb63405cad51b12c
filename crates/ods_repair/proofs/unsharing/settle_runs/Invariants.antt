use Rattle.std.proofs.Common.{◌*◌, ◌≤◌}
use Rattle.ods_repair.specs.Settled.{AreSettled}
use Rattle.ods_repair.proofs.unsharing.settle_runs.Given as goal

abbrev pub invariant-loop-at : goal.invariant-loop-at
invariant-loop-at l = record {
  settled : AreSettled l.initial.image l.layout l.file l.at l.told l.mapped l.seen l.image;
  few : l.mapped ≤ 256 * l.at;
}
