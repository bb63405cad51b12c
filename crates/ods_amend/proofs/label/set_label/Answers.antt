use Rattle.std.proofs.Common.{◌≡◌}
use Rattle.ods_amend.proofs.GivenAccess.{lent_sound}
use Rattle.ods_amend.proofs.LabelSound.{volume_labelled}
use Rattle.ods_amend.proofs.label.set_label.Goals as goal

pub apply-requires : goal.apply-requires
apply-requires c =
    let lent : record { image = c.disk.result.image.now; layout = c.disk.result.layout.now } ≡ c.args.volume.now = λ i. record { image = c.disk.ensures.image i; layout = c.disk.ensures.layout i } in
    record { sound = lent_sound c.in-Ok.draft lent c.in-Ok.ensures.sound }

pub returns-in-Ok-clause-ok : goal.returns-in-Ok-clause-ok
returns-in-Ok-clause-ok c =
    let lent : record { image = c.disk.result.image.now; layout = c.disk.result.layout.now } ≡ c.args.volume.now = λ i. record { image = c.disk.ensures.image i; layout = c.disk.ensures.layout i } in
    volume_labelled c.in-Ok.draft lent c.in-Ok.ensures c.apply.ensures.changed
