use Rattle.std.proofs.Common.{◌+◌}
use Rattle.ods_space.specs.Draft.{applied}
use Rattle.ods_alloc.specs.Extension.{MakesHeaders}
use Rattle.ods_alloc.proofs.chain.write_extensions.Given as goal

abbrev pub invariant-loop-i : goal.invariant-loop-i
invariant-loop-i l = MakesHeaders (applied l.fn.disk.image.now l.initial.draft) l.fn.disk.layout.now l.first (l.segment + 1) l.numbers l.runs l.i (applied l.fn.disk.image.now l.draft)
