use Rattle.std.proofs.Common.{◌≡◌, ◌≤◌, length}
use Rattle.ods_repair.proofs.Meeting.{AreMet}
use Rattle.ods_repair.proofs.unsharing.count_met.Given as goal

abbrev pub invariant-loop-i : goal.invariant-loop-i
invariant-loop-i l = record {
  met : AreMet l.blocks l.first l.i l.initial.seen l.seen l.met;
  room : length l.seen ≡ length l.initial.seen;
  from : l.first ≤ l.i;
}
