use Rattle.std.proofs.Common.{◌≡◌, length}
use Rattle.ods_check.proofs.Noting.{IsWithFirst}
use Rattle.ods_check.proofs.Repeating.{IsWithThere}
use Rattle.ods_check.proofs.repeats.insert_twice.Given as goal

abbrev pub invariant-loop-i : goal.invariant-loop-i
invariant-loop-i l = record {
  first : IsWithFirst l.initial.once l.numbers l.i l.once;
  there : IsWithThere l.initial.twice l.initial.once l.numbers l.i l.twice;
  room : length l.once ≡ length l.initial.once;
  same : length l.twice ≡ length l.initial.twice;
}
