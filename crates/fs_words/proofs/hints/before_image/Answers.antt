use Rattle.std.proofs.Common.{rules}
use Rattle.fs_words.proofs.Unknown.{misplaced_so, placed_so}
use Rattle.fs_words.proofs.hints.before_image.Goals as goal

pub returns-in-Some : goal.returns-in-Some
returns-in-Some c = misplaced_so c.misplaced.result c.args.image.now c.args.word.now (search rules) c.misplaced.ensures

pub returns-in-None : goal.returns-in-None
returns-in-None c = placed_so c.no_command.result c.args.image.now c.args.word.now (search rules) c.no_command.ensures
