use Rattle.std.proofs.Common.{◌≡◌, ◌++◌, map, take}
use Rattle.ods_remains.specs.Keys.{lbn_in}
use Rattle.ods_remains.proofs.keys.push_lbns.Given as goal

abbrev pub invariant-loop-key : goal.invariant-loop-key
invariant-loop-key l = l.lbns.items ≡ l.initial.lbns.items ++ map lbn_in (take l.key-index l.keys)
