use Rattle.std.proofs.Common.{◌≡◌, ◌++◌, drop}
use Rattle.ods_records.specs.Sized.{without_cr}
use Rattle.ods_records.proofs.sized.stream_to_text.Given as goal

abbrev pub invariant-loop-at : goal.invariant-loop-at
invariant-loop-at l = l.text.items ++ without_cr (drop l.at l.bytes) ≡ without_cr l.bytes
