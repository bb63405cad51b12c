-- The end mark of a directory.
use Rattle.std.proofs.Common.{ℕ, List, ◌+◌, ◌-◌, ◌*◌, ◌≤◌, Bool, true, false, cond, min, arith}
use Rattle.std.specs.Prelude.{◌==◌}
use Rattle.ods_directory.specs.Mark.{mark_in, end_block, end_byte}

-- it is cut to the blocks
pub mark_inside : (attributes : List ℕ) (count : ℕ) → mark_in attributes count ≤ 512 * count
mark_inside attributes count = by_end (end_block attributes == 0)
  where
    by_end : (z : Bool) → cond z 0 (min ((end_block attributes - 1) * 512 + end_byte attributes) (512 * count)) ≤ 512 * count
    by_end true = omega arith
    by_end false = omega arith
