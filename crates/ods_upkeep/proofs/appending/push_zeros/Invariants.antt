use Rattle.std.proofs.Common.{◌≡◌, ◌++◌, replicate}
use Rattle.ods_upkeep.proofs.appending.push_zeros.Given as goal

abbrev pub invariant-loop-done : goal.invariant-loop-done
invariant-loop-done l = l.bytes.items ≡ l.fn.bytes.items ++ replicate l.done 0
