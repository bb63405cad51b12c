use Rattle.std.proofs.Common.{take}
use Rattle.std.specs.Prelude.{All}
use Rattle.fs_words.specs.Found.{ServesWhereSaid}
use Rattle.fs_words.proofs.words.refuse_among.Given as goal

abbrev pub invariant-loop-choice : goal.invariant-loop-choice
invariant-loop-choice l = All (ServesWhereSaid l.said l.verb) (take l.choice-index l.choices)
