-- The words in what is left come behind those that are read.
use Rattle.std.proofs.Common.{◌≡◌, ◌++◌, ℕ, List, [], map}
use Rattle.std.specs.String.{string_bytes}
use Rattle.fs_words.specs.declared.line.Stand.TheVariants.{Between}
use Rattle.fs_words.specs.Lines.{with_front, words_from}
use Rattle.fs_words.proofs.line.line_words.Given as goal

abbrev pub invariant-loop-letter : goal.invariant-loop-letter
invariant-loop-letter l = (rest : List ℕ) → words_from Between [] (l.yielded ++ rest) ≡ with_front (map (λ s. string_bytes s) l.words.items) (words_from l.stand (string_bytes l.word) rest)
