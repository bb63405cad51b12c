use Rattle.std.proofs.Common.{◌≡◌, ◌∙◌, subst, None}
use Rattle.ods_space.specs.Layout.{Disk}
use Rattle.ods_volume.specs.Amended.{IsChangeOfLabel}
use Rattle.ods_volume.specs.declared.ends.Falls.TheVariants.{Everything}
use Rattle.ods_volume.specs.Changing.{Parts}
use Rattle.ods_volume.proofs.Amended.{label_changed}
use Rattle.ods_volume.proofs.sound.Sound.prepare_label.Goals as goal

pub returns : goal.returns
returns c =
    let lent : record { image = c.disk-disk.result.image.now; layout = c.disk-disk.result.layout.now } ≡ c.self.inside.mounted = λ i. record { image = c.disk-disk.ensures.image i; layout = c.disk-disk.ensures.layout i } in
    let made : Parts = record { changes = c.in_ok-draft.draft; places = c.new-places.result.items; counts = c.in_ok-counts.counts; end = None; falls = Everything } in
    subst (λ (d : Disk). IsChangeOfLabel d c.args.label.now made) (lent ∙ c.self.view_is) (label_changed c.new-places.result.items c.in_ok-draft.ensures c.in_ok-counts.ensures c.new-places.ensures.items)
