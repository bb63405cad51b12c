use Rattle.std.proofs.Common.{subst}
use Rattle.ods_mount.specs.Sound.{IsSoundBy}
use Rattle.ods_space.specs.Layout.{Disk}
use Rattle.ods_upkeep.proofs.Looks.{is_found}
use Rattle.ods_upkeep.proofs.looking.look_up.Goals as goal

pub unreachable-requires : goal.unreachable-requires
unreachable-requires c =
    let sound = subst (λ (d : Disk). IsSoundBy d.image d.layout) (λ i. record { image = c.disk.ensures.image i; layout = c.disk.ensures.layout i }) c.disk.ensures.sound in
    let found = is_found c.args.filing.now c.request.new.self sound c.args.dir c.args.name c.args.pick c.in-Ok.answer c.in-Ok.ensures.accepted in
    c.in_default.not-Found found.0 found.1.0 found.1.1
