use Rattle.std.proofs.Common.{◌≡◌, ◌-◌, ◌<◌, ◌≤◌, length}
use Rattle.ods_space.specs.Layout.{last_number}
use Rattle.ods_remains.specs.Shared.{IsTable}
use Rattle.ods_remains.proofs.shares.note_falling.Given as goal

abbrev pub invariant-loop-done : goal.invariant-loop-done
invariant-loop-done l = (length l.table ≡ length l.initial.table) × IsTable l.fn.disk.image.now l.fn.disk.layout.now (λ n. last_number l.fn.disk.layout.now - l.done < n) (λ m n. n ≤ m) l.table l.seen
