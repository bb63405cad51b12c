use Rattle.std.proofs.Common.{◌≡◌, ◌<◌, ℕ, Some, true, slice_get, length}
use Rattle.ods_mount.specs.Tables.{has}
use Rattle.ods_check.proofs.holders.insert_list.Given as goal

abbrev pub invariant-loop-k : goal.invariant-loop-k
invariant-loop-k l = record {
  listed : (j m : ℕ) → j < l.k → slice_get l.list j ≡ Some m → has l.files m ≡ true;
  kept : (m : ℕ) → has l.initial.files m ≡ true → has l.files m ≡ true;
  room : length l.files ≡ length l.initial.files;
}
