use Rattle.ods_shell.proofs.Reached.{facts_of_sound}
use Rattle.ods_shell.proofs.laws.facts_of_sound.Goals as goal

pub returns : goal.returns
returns c = facts_of_sound
