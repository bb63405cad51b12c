use Rattle.std.proofs.Common.{◌≡◌, true, take}
use Rattle.std.specs.List.{list_all}
use Rattle.fs_words.specs.RepairWords.{names_repair}
use Rattle.fs_words.proofs.repairs.first_unknown.Given as goal

-- the words so far name repairs
abbrev pub invariant-loop-word : goal.invariant-loop-word
invariant-loop-word l = list_all (λ word. names_repair word.now) (take l.word-index l.words) ≡ true
