use Rattle.ods_upkeep.proofs.Meaning.{some_steps}
use Rattle.ods_upkeep.proofs.directories.has_steps.Goals as goal

pub returns-in-Some : goal.returns-in-Some
returns-in-Some c = some_steps _ _ _ c.in-Some.ensures
