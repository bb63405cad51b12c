-- The closest of those so far.
use Rattle.std.proofs.Common.{take}
use Rattle.fs_words.specs.Hints.{IsClosest}
use Rattle.fs_words.proofs.verbs.closest.Given as goal

abbrev pub invariant-loop-verb : goal.invariant-loop-verb
invariant-loop-verb l = IsClosest l.word (take l.verb-index l.verbs) l.found
