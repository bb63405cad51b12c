use Rattle.std.proofs.Common.{◌≡◌, ◌++◌, map}
use Rattle.ods_directory.specs.Entry.{entry_in}
use Rattle.ods_directory.proofs.Used.{used_from}
use Rattle.ods_directory.proofs.lines.push_rows.Given as goal

abbrev pub invariant-loop-k : goal.invariant-loop-k
invariant-loop-k g l = l.rows.items ≡ l.initial.rows.items ++ map g.R.Row.row_of (used_from (entry_in l.block) 0 l.k)
