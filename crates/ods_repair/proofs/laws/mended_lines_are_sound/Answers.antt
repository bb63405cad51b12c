use Rattle.ods_repair.proofs.Wholly.{mended_lines_are_sound}
use Rattle.ods_repair.proofs.laws.mended_lines_are_sound.Goals as goal

pub returns : goal.returns
returns c = mended_lines_are_sound
