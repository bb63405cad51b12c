use Rattle.std.proofs.Common.{◌≡◌, ◌≢◌, ◌<◌, false, ℕ}
use Rattle.std.specs.Prelude.{slice_index}
use Rattle.ods_directory.proofs.tags.has_tag.Given as goal

abbrev pub invariant-loop-k : goal.invariant-loop-k
invariant-loop-k l = l.found ≡ false → (i : ℕ) → i < l.k → slice_index l.tags i ≢ l.tag
