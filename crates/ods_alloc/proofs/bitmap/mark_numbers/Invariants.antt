use Rattle.std.proofs.Common.{take}
use Rattle.ods_space.specs.Draft.{applied}
use Rattle.ods_alloc.specs.Marks.{MarksNumbers}
use Rattle.ods_alloc.proofs.bitmap.mark_numbers.Given as goal

abbrev pub invariant-loop-number : goal.invariant-loop-number
invariant-loop-number l = MarksNumbers (applied l.fn.disk.image.now l.initial.draft) l.fn.disk.layout.now (take l.number-index l.numbers) l.used (applied l.fn.disk.image.now l.draft)
