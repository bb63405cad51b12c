use Rattle.std.proofs.Common.{◌≡◌, ℕ, ◌+◌, ◌-◌, ◌<◌, ◌≤◌, length}
use Rattle.std.specs.Prelude.{slice_index}
use Rattle.ods_space.proofs.bitmap_blocks.run_of.Given as goal

-- as many as were counted stand one behind the other
abbrev pub invariant-loop-run : goal.invariant-loop-run
invariant-loop-run l = (l.run ≤ length l.blocks - 1) × ((j : ℕ) → j < l.run → slice_index l.blocks (j + 1) ≡ slice_index l.blocks 1 + j)

abbrev pub decreases-loop-run : goal.decreases-loop-run
decreases-loop-run l = l.size - l.run
