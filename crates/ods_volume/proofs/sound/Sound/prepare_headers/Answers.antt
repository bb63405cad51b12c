use Rattle.std.proofs.Common.{◌≡◌, ◌∙◌, subst, None}
use Rattle.ods_space.specs.Layout.{Disk}
use Rattle.ods_change.specs.IndexGrown.{IsWhyNoHeaders}
use Rattle.ods_volume.specs.declared.ends.Falls.TheVariants.{Everything}
use Rattle.ods_volume.specs.Changing.{IsChangeOfHeaders, Parts}
use Rattle.ods_volume.proofs.Amended.{none_stays}
use Rattle.ods_volume.proofs.sound.Sound.prepare_headers.Goals as goal

pub returns-in-Err : goal.returns-in-Err
returns-in-Err c =
    let lent : record { image = c.disk-disk.result.image.now; layout = c.disk-disk.result.layout.now } ≡ c.self.inside.mounted = λ i. record { image = c.disk-disk.ensures.image i; layout = c.disk-disk.ensures.layout i } in
    subst (λ (d : Disk). IsWhyNoHeaders d.image d.layout c.args.count c.in-Err.refusal) (lent ∙ c.self.view_is) c.in-Err.ensures

pub returns : goal.returns
returns c =
    let lent : record { image = c.disk-disk.result.image.now; layout = c.disk-disk.result.layout.now } ≡ c.self.inside.mounted = λ i. record { image = c.disk-disk.ensures.image i; layout = c.disk-disk.ensures.layout i } in
    let made : Parts = record { changes = c.in-Ok.drafted.draft; places = c.in-Ok.drafted.places.items; counts = c.in-Ok-after.counts; end = None; falls = Everything } in
    subst (λ (d : Disk). IsChangeOfHeaders d c.args.count made) (lent ∙ c.self.view_is) (record {
      grown = c.in-Ok.ensures;
      lawful = record { sound = c.in-Ok.ensures.sound; counted = c.in-Ok-after.ensures; ended = tt; kept = λ end stay known. absurd (none_stays stay); struck = λ f blocks index bitmap some held. tt };
    })
