use Rattle.std.proofs.Common.{◌≡◌, ◌≢◌, ◌<◌, ℕ, [], length}
use Rattle.std.specs.Prelude.{slice_index, slice_index_or}
use Rattle.ods_volume.proofs.noted.set_tags.Given as goal

abbrev pub invariant-loop-i : goal.invariant-loop-i
invariant-loop-i l = record {
  long : length l.tags.items ≡ length l.blocks;
  own : (k : ℕ) → k < l.i → slice_index l.blocks k ≡ l.lbn → slice_index_or l.tags.items k [] ≡ l.new;
  others : (k : ℕ) → k < length l.blocks → slice_index l.blocks k ≢ l.lbn → slice_index_or l.tags.items k [] ≡ slice_index_or l.initial.tags.items k [];
}
