use Rattle.std.proofs.Common.{◌≡◌, refl}
use Rattle.ods_amend.proofs.GivenAccess.{lent_refuses, lent_sound, volume_gives}
use Rattle.ods_amend.proofs.access.set_access.Goals as goal

pub apply-requires : goal.apply-requires
apply-requires c =
    let lent : record { image = c.disk.result.image.now; layout = c.disk.result.layout.now } ≡ c.args.volume.now = λ i. record { image = c.disk.ensures.image i; layout = c.disk.ensures.layout i } in
    record { sound = lent_sound c.in-Ok.draft lent c.in-Ok.ensures.set.sound }

pub returns-in-Ok : goal.returns-in-Ok
returns-in-Ok c =
    let lent : record { image = c.disk.result.image.now; layout = c.disk.result.layout.now } ≡ c.args.volume.now = λ i. record { image = c.disk.ensures.image i; layout = c.disk.ensures.layout i } in
    volume_gives c.in-Ok.draft lent c.in-Ok.ensures c.apply.ensures.changed

pub returns-in-Err : goal.returns-in-Err
returns-in-Err c =
    let lent : record { image = c.disk.result.image.now; layout = c.disk.result.layout.now } ≡ c.args.volume.now = λ i. record { image = c.disk.ensures.image i; layout = c.disk.ensures.layout i } in
    (lent_refuses c.args.who c.args.file c.in-Err.refusal lent c.in-Err.ensures, refl)
