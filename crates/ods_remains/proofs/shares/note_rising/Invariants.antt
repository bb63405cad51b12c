use Rattle.std.proofs.Common.{◌≡◌, ◌≤◌, length}
use Rattle.ods_remains.specs.Shared.{IsTable}
use Rattle.ods_remains.proofs.shares.note_rising.Given as goal

abbrev pub invariant-loop-before : goal.invariant-loop-before
invariant-loop-before l = (length l.table ≡ length l.initial.table) × IsTable l.fn.disk.image.now l.fn.disk.layout.now (λ n. n ≤ l.before) (λ m n. m ≤ n) l.table l.seen
