use Rattle.std.proofs.Common.{◌≡◌, ◌∙◌, ap, subst, None, refl, inr}
use Rattle.ods_space.specs.Layout.{Disk}
use Rattle.ods_request.specs.declared.refusals.Refusal.TheVariants as refusal
use Rattle.ods_amend.specs.Access.{protection_at}
use Rattle.ods_volume.specs.Amended.{IsChangeOfProtection, IsWhyNotProtected}
use Rattle.ods_volume.specs.declared.ends.Falls.TheVariants.{Everything}
use Rattle.ods_volume.specs.Changing.{Parts}
use Rattle.ods_volume.proofs.Amended.{protection_changed}
use Rattle.ods_volume.proofs.sound.Sound.prepare_protection.Goals as goal

pub returns-in-Err : goal.returns-in-Err
returns-in-Err c =
    let lent : record { image = c.disk-disk.result.image.now; layout = c.disk-disk.result.layout.now } ≡ c.self.inside.mounted = λ i. record { image = c.disk-disk.ensures.image i; layout = c.disk-disk.ensures.layout i } in
    subst (λ (d : Disk). IsWhyNotProtected d c.args.file c.in-Err.refusal) (lent ∙ c.self.view_is) c.in-Err.ensures

pub returns : goal.returns
returns c =
    let lent : record { image = c.disk-disk.result.image.now; layout = c.disk-disk.result.layout.now } ≡ c.self.inside.mounted = λ i. record { image = c.disk-disk.ensures.image i; layout = c.disk-disk.ensures.layout i } in
    let made : Parts = record { changes = c.in-Ok.drafted.0; places = c.new-places.result.items; counts = c.in-Ok-after.counts; end = None; falls = Everything } in (
      subst (λ (d : Disk). IsChangeOfProtection d c.args.file c.args.protection made) (lent ∙ c.self.view_is) (protection_changed c.new-places.result.items c.in-Ok.ensures.0 c.in-Ok-after.ensures c.new-places.ensures.items),
      c.in-Ok.ensures.1 ∙ ap (λ (d : Disk). protection_at d c.args.file) (lent ∙ c.self.view_is),
    )
