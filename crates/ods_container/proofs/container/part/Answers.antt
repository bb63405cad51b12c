use Rattle.std.proofs.Common.{◌≡◌, length, sym, ap, ◌∙◌}
use Rattle.ods_container.specs.Container.{volume_bytes}
use Rattle.ods_container.proofs.Containers.{volume_count, holds_as}
use Rattle.ods_container.proofs.container.part.Goals as goal

pub beside-requires : goal.beside-requires
beside-requires c =
    let made = c.in-Ok.ensures.image in
    let count = volume_count c.in-Ok.image c.args.bytes.items c.args.count made.0 made.1 in
    let same : c.deref.result.now ≡ c.args.bytes.items = c.deref.ensures.value ∙ c.in-Ok.ensures.stays in
    made.1 ∙ ap (λ s. volume_bytes c.args.bytes.items s) (sym count) ∙ ap (λ b. volume_bytes b (length c.in-Ok.image)) (sym same)

pub returns-in-Ok-beside : goal.returns-in-Ok-beside
returns-in-Ok-beside c =
    let made = c.in-Ok.ensures.image in
    let count = volume_count c.in-Ok.image c.args.bytes.items c.args.count made.0 made.1 in
    let same : c.deref.result.now ≡ c.args.bytes.items = c.deref.ensures.value ∙ c.in-Ok.ensures.stays in
    holds_as c.deref.result.now c.args.bytes.items (length c.in-Ok.image) c.args.count c.in-Ok-beside.contained.image c.in-Ok-beside.contained.behind.items c.in-Ok-beside.contained.length
    same count c.in-Ok-beside.ensures
