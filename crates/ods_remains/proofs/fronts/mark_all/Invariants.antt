use Rattle.std.proofs.Common.{take}
use Rattle.ods_remains.specs.Shared.{AreMarked}
use Rattle.ods_remains.proofs.fronts.mark_all.Given as goal

abbrev pub invariant-loop-header : goal.invariant-loop-header
invariant-loop-header l = AreMarked (take l.header-index l.headers) l.initial.seen l.seen
