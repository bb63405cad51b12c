use Rattle.f11fs.proofs.Slashed.{behind_slash, no_slash}
use Rattle.f11fs.proofs.putting.last_part.Goals as goal

pub returns-in-Some : goal.returns-in-Some
returns-in-Some c = behind_slash c.args.path.now _ c.in-Some.name.now c.in-Some.ensures.cases

pub returns-in-None : goal.returns-in-None
returns-in-None c = no_slash c.args.path.now c.in-None.ensures.cases
