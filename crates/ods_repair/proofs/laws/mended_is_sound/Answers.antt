use Rattle.ods_repair.proofs.Wholly.{mended_is_sound}
use Rattle.ods_repair.proofs.laws.mended_is_sound.Goals as goal

pub returns : goal.returns
returns c = mended_is_sound
