use Rattle.std.proofs.Common.{ℕ, ◌≤◌}
use Rattle.std.specs.Prelude.{IsTrue}
use Rattle.ods_header.specs.Header.{IsHeader, IsFormat1}
use Rattle.ods_space.specs.Layout.{header_at, is_in_use}
use Rattle.ods_mount.proofs.formats.check_formats.Given as goal

abbrev pub invariant-loop-k : goal.invariant-loop-k
invariant-loop-k l = (n : ℕ) → n ≤ l.k → IsTrue (is_in_use l.fn.disk.image.now l.fn.disk.layout.now.home n) → IsHeader (header_at l.fn.disk.image.now l.fn.disk.layout.now n) n → IsFormat1 (header_at l.fn.disk.image.now l.fn.disk.layout.now n)
