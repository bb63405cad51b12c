use Rattle.std.proofs.Common.{◌≡◌, ◌∙◌, subst, None}
use Rattle.std.proofs.lemmas.Result.{err_from_is_err_and}
use Rattle.ods_space.specs.Layout.{Disk}
use Rattle.ods_request.specs.declared.refusals.Refusal.TheVariants as refusal
use Rattle.ods_volume.specs.Amended.{IsChangeOfAccess, IsWhyNotGiven}
use Rattle.ods_volume.specs.declared.ends.Falls.TheVariants.{Everything}
use Rattle.ods_volume.specs.Changing.{Parts}
use Rattle.ods_volume.proofs.Amended.{access_changed, no_memory_left}
use Rattle.ods_volume.proofs.sound.Sound.prepare_access.Goals as goal

pub returns-in_err-draft : goal.returns-in_err-draft
returns-in_err-draft c =
    let lent : record { image = c.disk-disk.result.image.now; layout = c.disk-disk.result.layout.now } ≡ c.self.inside.mounted = λ i. record { image = c.disk-disk.ensures.image i; layout = c.disk-disk.ensures.layout i } in
    let p = err_from_is_err_and c.from_residual.result c.from_residual.ensures.1 in
    rw (p.1, p.2) (subst (λ (d : Disk). IsWhyNotGiven d c.args.who c.args.file c.in_err-draft.field-0.0) (lent ∙ c.self.view_is) c.in_err-draft.ensures)

pub returns-in_default : goal.returns-in_default
returns-in_default c =
    let lent : record { image = c.disk-disk.result.image.now; layout = c.disk-disk.result.layout.now } ≡ c.self.inside.mounted = λ i. record { image = c.disk-disk.ensures.image i; layout = c.disk-disk.ensures.layout i } in
    subst (λ (d : Disk). IsWhyNotGiven d c.args.who c.args.file refusal.NoMemory) (lent ∙ c.self.view_is) (no_memory_left c.in_ok-draft.ensures)

pub returns : goal.returns
returns c =
    let lent : record { image = c.disk-disk.result.image.now; layout = c.disk-disk.result.layout.now } ≡ c.self.inside.mounted = λ i. record { image = c.disk-disk.ensures.image i; layout = c.disk-disk.ensures.layout i } in
    let made : Parts = record { changes = c.in_ok-draft.draft; places = c.new-places.result.items; counts = c.in-Ok.counts; end = None; falls = Everything } in
    subst (λ (d : Disk). IsChangeOfAccess d c.args.who c.args.file c.args.owner c.args.protection c.args.flags made) (lent ∙ c.self.view_is) (access_changed c.new-places.result.items c.in_ok-draft.ensures c.in-Ok.ensures c.new-places.ensures.items)
