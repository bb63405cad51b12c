use Rattle.std.proofs.Common.{◌≡◌, length}
use Rattle.ods_check.proofs.Noting.{IsWithFirst}
use Rattle.ods_check.proofs.unheld.insert_all.Given as goal

abbrev pub invariant-loop-i : goal.invariant-loop-i
invariant-loop-i l = record {
  first : IsWithFirst l.initial.set l.numbers l.i l.set;
  room : length l.set ≡ length l.initial.set;
}
