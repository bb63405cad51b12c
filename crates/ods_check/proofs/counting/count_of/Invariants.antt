use Rattle.std.proofs.Common.{◌≡◌, length}
use Rattle.ods_check.proofs.Counted.{IsCounting}
use Rattle.ods_check.proofs.counting.count_of.Given as goal

abbrev pub invariant-loop-i : goal.invariant-loop-i
invariant-loop-i l = record {
  counting : IsCounting l.numbers l.set l.stamp l.i l.counted l.count;
  size : length l.counted ≡ length l.initial.counted;
}
