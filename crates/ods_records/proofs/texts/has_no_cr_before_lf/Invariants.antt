use Rattle.std.proofs.Common.{◌≡◌, ◌≢◌, ℕ, ◌+◌, ◌<◌, slice_index}
use Rattle.ods_records.proofs.texts.has_no_cr_before_lf.Given as goal

abbrev pub invariant-loop-at : goal.invariant-loop-at
invariant-loop-at l = (i : ℕ) → i + 1 < l.at → slice_index l.text i ≡ 13 → slice_index l.text (i + 1) ≢ 10
