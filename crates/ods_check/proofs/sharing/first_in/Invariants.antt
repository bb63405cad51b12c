use Rattle.std.proofs.Common.{◌≡◌, false}
use Rattle.ods_mount.specs.Tables.{has}
use Rattle.ods_mount.proofs.Each.{EachBefore}
use Rattle.ods_check.proofs.sharing.first_in.Given as goal

abbrev pub invariant-loop-i : goal.invariant-loop-i
invariant-loop-i l = EachBefore (λ j x. has l.set x ≡ false) l.numbers l.i
