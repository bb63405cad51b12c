use Rattle.std.proofs.Common.{◌≡◌, ◌*◌, ◌/◌, min, map}
use Rattle.ods_directory.specs.Entry.{entry_at}
use Rattle.ods_directory.proofs.Used.{used_from}
use Rattle.ods_directory.proofs.lines.read_rows.Given as goal

abbrev pub invariant-loop-i : goal.invariant-loop-i
invariant-loop-i g l = l.rows.items ≡ map g.R.Row.row_of (used_from (entry_at (g.B.DirBlocks.blocks l.blocks)) 0 (min (32 * l.i) (l.mark / 16)))
