use Rattle.std.proofs.Common.{◌≡◌, ℕ, ◌/◌, ◌<◌, ◌≤◌, false}
use Rattle.ods_directory.specs.Entry.{entry_at, is_used}
use Rattle.ods_directory.proofs.hidden.has_hidden.Given as goal

abbrev pub invariant-loop-k : goal.invariant-loop-k
invariant-loop-k g l = (j : ℕ) → l.mark / 16 ≤ j → j < l.k → is_used (entry_at (g.B.DirBlocks.blocks l.blocks) j) ≡ false
