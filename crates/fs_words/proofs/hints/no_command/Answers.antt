use Rattle.fs_words.specs.Values.{value_of}
use Rattle.fs_words.proofs.Unknown.{unknown_so}
use Rattle.fs_words.proofs.hints.no_command.Goals as goal

pub returns : goal.returns
returns c = unknown_so c.unknown.result c.args.word.now (value_of c.in_ok-near.near) c.in_ok-near.ensures c.unknown.ensures
