use Rattle.std.proofs.Common.{◌≡◌, ◌≤◌, length}
use Rattle.ods_directory.specs.Entry.{entry_in}
use Rattle.ods_directory.proofs.Used.{used_from}
use Rattle.ods_directory.proofs.count.used_in.Given as goal

abbrev pub invariant-loop-k : goal.invariant-loop-k
invariant-loop-k l = (l.used ≡ length (used_from (entry_in l.block) 0 l.k)) × (l.used ≤ l.k)
