use Rattle.std.proofs.Common.{◌≡◌, ◌∙◌, sym, subst}
use Rattle.ods_mount.specs.Sound.{IsSoundBy}
use Rattle.ods_space.specs.Draft.{applied}
use Rattle.ods_space.specs.Layout.{with_places}
use Rattle.ods_volume.specs.Changing.{Parts, changed}
use Rattle.ods_volume.proofs.Changed.{lawful_as, noted_then}
use Rattle.ods_volume.proofs.NamesThen.{passed_on}
use Rattle.ods_volume.proofs.sound.Sound.apply.Goals as goal

pub apply-requires : goal.apply-requires
apply-requires c =
    let p : Parts = record { changes = c.change.inside.draft; places = c.change.inside.places.items; counts = c.change.inside.counts; end = c.change.inside.end; falls = c.change.inside.falls } in
    let lawful = lawful_as c.self.inside.mounted c.args.self.now p c.args.change c.self.view_is c.change.view_is c.requires in
    record { sound = subst (λ ps. IsSoundBy (applied c.self.inside.mounted.image c.change.inside.draft) (with_places c.self.inside.mounted.layout ps)) (sym c.deref.ensures.value) lawful.sound }

now : (c : goal.After-drop-change-inside) → c.apply.new.self ≡ changed c.self.inside.mounted (record { changes = c.change.inside.draft; places = c.change.inside.places.items; counts = c.change.inside.counts; end = c.change.inside.end; falls = c.change.inside.falls })
now c = c.apply.ensures.changed ∙ (λ i. record { image = applied c.self.inside.mounted.image c.change.inside.draft; layout = with_places c.self.inside.mounted.layout (c.deref.ensures.value i) })

pub names_after-names-requires : goal.names_after-names-requires
names_after-names-requires c =
    let p : Parts = record { changes = c.change.inside.draft; places = c.change.inside.places.items; counts = c.change.inside.counts; end = c.change.inside.end; falls = c.change.inside.falls } in
    let lawful = lawful_as c.self.inside.mounted c.args.self.now p c.args.change c.self.view_is c.change.view_is c.requires in
    let before = c.self.inside.mounted in
    passed_on before.image c.disk.result.image.now before.layout c.disk.result.layout.now c.change.inside.draft c.change.inside.places.items c.change.inside.falls c.retagged-names.result c.apply.new.self
    c.disk.ensures.image c.disk.ensures.layout lawful.struck c.retagged-names.ensures
    (c.apply.ensures.changed ∙ (λ i. record { image = applied before.image c.change.inside.draft; layout = with_places before.layout (c.deref.ensures.value i) }))

pub invariant_of-self : goal.invariant_of-self
invariant_of-self c =
    let p : Parts = record { changes = c.change.inside.draft; places = c.change.inside.places.items; counts = c.change.inside.counts; end = c.change.inside.end; falls = c.change.inside.falls } in
    let lawful = lawful_as c.self.inside.mounted c.args.self.now p c.args.change c.self.view_is c.change.view_is c.requires in
    noted_then c.self.inside.mounted p c.self.inside.counts c.self.inside.ends.ends c.self.inside.names c.self.invariant lawful c.apply.new.self c.put_counts.new.kept c.follow.new.self.ends c.names_after-names.result.0
    (now c) c.put_counts.ensures c.follow.ensures c.names_after-names.ensures

pub returns : goal.returns
returns c = now c ∙ (λ i. changed (c.self.view_is i) (c.change.view_is i))
