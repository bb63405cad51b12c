use Rattle.ods_shell.proofs.Reached.{sound_chains_are_got}
use Rattle.ods_shell.proofs.laws.sound_chains_are_got.Goals as goal

pub returns : goal.returns
returns c = sound_chains_are_got
