use Rattle.std.proofs.Common.{subst}
use Rattle.ods_mount.specs.Faults.{IsSound}
use Rattle.ods_mount.proofs.Soundness.{IsSound-by}
use Rattle.ods_state.specs.Version.{State}
use Rattle.ods_volume.proofs.volume.Volume.image.Goals as goal

pub returns-clause-no_fault : goal.returns-clause-no_fault
returns-clause-no_fault c =
    subst (λ (v : State). IsSound v.image) c.self.view_is (IsSound-by c.self.inside.sound.image c.self.inside.sound.layout c.self.invariant.lawful.version.sound)
