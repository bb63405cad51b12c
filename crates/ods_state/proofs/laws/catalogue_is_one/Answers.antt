use Rattle.ods_mount.proofs.Layouts.{layout_is_one}
use Rattle.ods_state.proofs.One.{catalogue_is_one, replay_is_one}
use Rattle.ods_state.proofs.laws.catalogue_is_one.Goals as goal

pub returns : goal.returns
returns c = record { layout = layout_is_one; catalogue = catalogue_is_one; replay = replay_is_one }
