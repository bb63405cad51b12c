use Rattle.std.proofs.Common.{rules}
use Rattle.std.specs.String.{string_bytes}
use Rattle.fs_words.proofs.LineEnds.{ended_word}
use Rattle.fs_words.proofs.line.read_letter.Goals as goal

pub returns-in_ok-add-in-Within : goal.returns-in_ok-add-in-Within
returns-in_ok-add-in-Within c = λ rest.
    rw c.in-Within.is (ended_word (λ s. string_bytes s) c.args.letter rest c.args.words.now.items c.add.new.words.items c.replace-done.result (string_bytes c.args.word.now) (string_bytes c.replace-done.new.dest) (search rules) (search rules) (search rules) (search rules))
