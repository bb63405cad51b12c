use Rattle.std.proofs.Common.{◌≡◌, length}
use Rattle.ods_repair.specs.Settled.{HasRunToo}
use Rattle.ods_repair.proofs.unsharing.insert_run.Given as goal

abbrev pub invariant-loop-k : goal.invariant-loop-k
invariant-loop-k l = record {
  with : HasRunToo l.set l.initial.set (record { lbn = l.run.lbn; count = l.k });
  room : length l.set ≡ length l.initial.set;
}
