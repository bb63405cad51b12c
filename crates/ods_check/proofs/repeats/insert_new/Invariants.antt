use Rattle.std.proofs.Common.{◌≡◌, true, length}
use Rattle.ods_mount.specs.Tables.{IsNoted}
use Rattle.ods_check.proofs.Noting.{IsWithFirst}
use Rattle.ods_check.proofs.repeats.insert_new.Given as goal

abbrev pub invariant-loop-i : goal.invariant-loop-i
invariant-loop-i l = record {
  first : IsWithFirst l.initial.set l.numbers l.i l.set;
  room : length l.set ≡ length l.initial.set;
  noted : l.is_new ≡ true → IsNoted l.initial.set l.set l.numbers l.i;
}
