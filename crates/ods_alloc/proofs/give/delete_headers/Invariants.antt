use Rattle.std.proofs.Common.{take}
use Rattle.ods_space.specs.Draft.{applied}
use Rattle.ods_alloc.specs.Marks.{Deletes}
use Rattle.ods_alloc.proofs.give.delete_headers.Given as goal

abbrev pub invariant-loop-number : goal.invariant-loop-number
invariant-loop-number l = Deletes (applied l.fn.disk.image.now l.old) l.fn.disk.layout.now (take l.number-index l.numbers) (applied l.fn.disk.image.now l.draft)
