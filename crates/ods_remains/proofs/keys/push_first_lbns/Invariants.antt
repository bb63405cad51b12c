use Rattle.std.proofs.Common.{◌≡◌, ◌++◌, map, take}
use Rattle.std.specs.List.{filter}
use Rattle.ods_remains.specs.Keys.{lbn_in, is_first_key}
use Rattle.ods_remains.proofs.keys.push_first_lbns.Given as goal

abbrev pub invariant-loop-key : goal.invariant-loop-key
invariant-loop-key l = l.firsts.items ≡ l.initial.firsts.items ++ map lbn_in (filter is_first_key (take l.key-index l.keys))
