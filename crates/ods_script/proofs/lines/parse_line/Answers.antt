use Rattle.ods_script.specs.Commands.{Behind}
use Rattle.ods_script.proofs.VerbWords.{no_words, words_of}
use Rattle.ods_script.proofs.lines.parse_line.Goals as goal

pub returns-in-Some : goal.returns-in-Some
returns-in-Some c = words_of Behind c.args.line.now c.in-Some.args.now c.in-Some.verb c.read_behind.result c.in-Some.ensures c.read_behind.ensures

pub returns-in-None : goal.returns-in-None
returns-in-None c = no_words Behind c.args.line.now c.in-None.ensures
