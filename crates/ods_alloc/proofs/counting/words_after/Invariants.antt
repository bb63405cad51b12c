use Rattle.ods_alloc.specs.Counts.{IsCountedTo}
use Rattle.ods_alloc.proofs.counting.words_after.Given as goal

abbrev pub invariant-loop-j : goal.invariant-loop-j
invariant-loop-j l = IsCountedTo l.few l.old l.new l.j l.count
