use Rattle.std.proofs.Common.{◌≡◌, ◌<◌, ℕ, length}
use Rattle.std.specs.Prelude.{slice_index}
use Rattle.ods_directory.specs.Entry.{entry_in}
use Rattle.ods_directory.specs.Tags.{tag_of}
use Rattle.ods_directory.proofs.tags.block_tags.Given as goal

abbrev pub invariant-loop-k : goal.invariant-loop-k
invariant-loop-k l = record { long : length l.tags ≡ 32; done : (i : ℕ) → i < l.k → slice_index l.tags i ≡ tag_of (entry_in l.block i) }
