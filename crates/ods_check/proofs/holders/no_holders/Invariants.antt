use Rattle.std.proofs.Common.{◌≡◌, length}
use Rattle.ods_check.proofs.holders.no_holders.Given as goal

abbrev pub invariant-loop-i : goal.invariant-loop-i
invariant-loop-i l = length l.lists.items ≡ l._i
