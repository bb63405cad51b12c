use Rattle.std.proofs.Common.{subst}
use Rattle.ods_mount.specs.Sound.{IsSoundBy}
use Rattle.ods_space.specs.Layout.{Disk}
use Rattle.ods_upkeep.proofs.Making.{is_info}
use Rattle.ods_upkeep.proofs.rooms.shown_of.Goals as goal

pub unreachable-requires : goal.unreachable-requires
unreachable-requires c =
    let sound = subst (λ (d : Disk). IsSoundBy d.image d.layout) (λ i. record { image = c.disk.ensures.image i; layout = c.disk.ensures.layout i }) c.disk.ensures.sound in
    let shown = is_info c.args.filing.now c.request.new.self sound c.args.file c.in-Ok.answer c.in-Ok.ensures.accepted in
    c.in_default.not-Info shown.0 shown.1
