use Rattle.std.proofs.Common.{◌≡◌, ◌<◌, ℕ, Some, true, slice_get, length}
use Rattle.std.specs.List.{Contains}
use Rattle.ods_mount.specs.Tables.{has}
use Rattle.ods_check.specs.Holders.{noted}
use Rattle.ods_check.proofs.holders.insert_holders.Given as goal

abbrev pub invariant-loop-i : goal.invariant-loop-i
invariant-loop-i l = record {
  held : (j b m : ℕ) → j < l.i → slice_get l.lbns j ≡ Some b → Contains (noted l.lists b) m → has l.files m ≡ true;
  room : length l.files ≡ length l.initial.files;
}
