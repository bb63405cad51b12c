use Rattle.std.proofs.Common.{◌≡◌, length, subst}
use Rattle.ods_space.specs.Free.{free_blocks}
use Rattle.ods_space.specs.Layout.{Disk}
use Rattle.ods_volume.proofs.sound.Sound.free_count.Goals as goal

pub returns : goal.returns
returns c =
    subst (λ (d : Disk). c.total.result ≡ length (free_blocks d.image d.layout)) c.self.view_is
    (c.total.ensures c.self.inside.mounted.image c.self.inside.mounted.layout c.self.invariant.sound.layout c.self.invariant.counted)
