use Rattle.std.proofs.Common.{◌≡◌, ◌<◌, ℕ, Some, slice_get, length}
use Rattle.std.specs.List.{Contains}
use Rattle.ods_check.specs.Holders.{noted}
use Rattle.ods_check.proofs.holders.note_holder.Given as goal

abbrev pub invariant-loop-i : goal.invariant-loop-i
invariant-loop-i l = record {
  added : (j b : ℕ) → j < l.i → slice_get l.lbns j ≡ Some b → Contains (noted l.lists b) l.number;
  kept : (b m : ℕ) → Contains (noted l.initial.lists b) m → Contains (noted l.lists b) m;
  size : length l.lists ≡ length l.initial.lists;
}
