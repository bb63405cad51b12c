use Rattle.std.proofs.Common.{◌≡◌, find, length}
use Rattle.std.specs.Str.{bytes_eq}
use Rattle.fs_words.specs.Names.{verb_text}
use Rattle.fs_words.proofs.verbs.first_named.Given as goal

abbrev pub invariant-loop-verb : goal.invariant-loop-verb
invariant-loop-verb l = find (λ v. bytes_eq (verb_text v) l.word) l.verbs ≡ find (λ v. bytes_eq (verb_text v) l.word) l.initial.verbs

abbrev pub decreases-loop-verb : goal.decreases-loop-verb
decreases-loop-verb l = length l.verbs
