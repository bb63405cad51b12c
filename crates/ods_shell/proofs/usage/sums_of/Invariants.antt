-- The blocks of each directory, by the files so far.
use Rattle.std.proofs.Common.{◌≡◌, ℕ, ◌<◌, length, take}
use Rattle.std.specs.Prelude.{slice_index}
use Rattle.ods_shell.specs.Usage.{blocks_at}
use Rattle.ods_shell.proofs.usage.sums_of.Given as goal

abbrev pub invariant-loop-used : goal.invariant-loop-used
invariant-loop-used l = (length l.sums.items ≡ l.many) × ((place : ℕ) → place < l.many → slice_index l.sums.items place ≡ blocks_at (take l.used-index l.uses) place)
