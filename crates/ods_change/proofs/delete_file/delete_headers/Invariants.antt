use Rattle.std.proofs.Common.{[], length}
use Rattle.ods_space.specs.Draft.{applied}
use Rattle.ods_alloc.specs.Marks.{Deletes}
use Rattle.ods_change.proofs.HeldByFiles.{AreNoted, AreRead}
use Rattle.ods_change.proofs.delete_file.delete_headers.Given as goal

abbrev pub invariant-loop-at : goal.invariant-loop-at
invariant-loop-at l =
    AreNoted l.initial.lbns.items l.initial.headers l.headers l.lbns.items l.numbers.items
    × AreRead l.fn.disk.image.now l.fn.disk.layout.now l.headers
    × Deletes (applied l.fn.disk.image.now []) l.fn.disk.layout.now l.numbers.items (applied l.fn.disk.image.now l.draft)

abbrev pub decreases-loop-at : goal.decreases-loop-at
decreases-loop-at l = length l.headers
