use Rattle.f11fs.proofs.Marked.{cut, uncut}
use Rattle.f11fs.proofs.command_files.without_mark.Goals as goal

pub returns-in-Some : goal.returns-in-Some
returns-in-Some c = cut c.args.text.now c.in-Some.rest.now c.in-Some.ensures.cases

pub returns-in-None : goal.returns-in-None
returns-in-None c = uncut c.args.text.now c.in-None.ensures.cases
