use Rattle.ods_init.proofs.SoundNew.{new_is_sound}
use Rattle.ods_init.proofs.laws.new_volume_is_sound.Goals as goal

pub returns : goal.returns
returns c = new_is_sound
