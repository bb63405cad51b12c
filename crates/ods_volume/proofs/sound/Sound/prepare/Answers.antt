use Rattle.std.proofs.Common.{◌≡◌, ◌∙◌, ap, sym, subst, true}
use Rattle.ods_space.specs.Layout.{Disk}
use Rattle.ods_state.specs.Served.{IsRefusalOf}
use Rattle.ods_request.specs.declared.refusals.Refusal.TheVariants as refusal
use Rattle.ods_space.specs.Draft.{applied}
use Rattle.ods_space.specs.Layout.{with_places}
use Rattle.ods_state.specs.declared.known_end.KnownEnd.{KnownEnd}
use Rattle.ods_state.specs.Ends.{IsEndKnown}
use Rattle.ods_volume.specs.Ends.{AreKnownIn, stays}
use Rattle.ods_volume.proofs.EndsFollow.{kept_by_step}
use Rattle.ods_volume.specs.Changing.{IsChangeFor, Parts}
use Rattle.ods_volume.specs.Struck.{Strikes}
use Rattle.ods_state.specs.Noted.{MayBeKnown}
use Rattle.ods_volume.proofs.NamesThen.{by_reference}
use Rattle.ods_volume.proofs.Stepped.{short_of_memory}
use Rattle.ods_volume.proofs.Struck.{strikes_by}
use Rattle.ods_volume.proofs.sound.Sound.prepare.Goals as goal

pub carry_out-requires-clause-known : goal.carry_out-requires-clause-known
carry_out-requires-clause-known c =
    let lent : record { image = c.disk-disk.result.image.now; layout = c.disk-disk.result.layout.now } ≡ c.self.inside.mounted = λ i. record { image = c.disk-disk.ensures.image i; layout = c.disk-disk.ensures.layout i } in
    subst (λ (d : Disk). AreKnownIn d.image d.layout c.self.inside.ends.ends) (sym lent) c.self.invariant.ended

pub carry_out-requires-clause-names : goal.carry_out-requires-clause-names
carry_out-requires-clause-names c =
    let lent : record { image = c.disk-disk.result.image.now; layout = c.disk-disk.result.layout.now } ≡ c.self.inside.mounted = λ i. record { image = c.disk-disk.ensures.image i; layout = c.disk-disk.ensures.layout i } in
    by_reference c.disk-disk.result.image.now c.disk-disk.result.layout.now c.as_ref.result c.self.inside.names c.as_ref.ensures.value (subst (λ (d : Disk). MayBeKnown d.image d.layout c.self.inside.names) (sym lent) c.self.invariant.named)

pub returns-in-Err : goal.returns-in-Err
returns-in-Err c =
    let lent : record { image = c.disk-disk.result.image.now; layout = c.disk-disk.result.layout.now } ≡ c.self.inside.mounted = λ i. record { image = c.disk-disk.ensures.image i; layout = c.disk-disk.ensures.layout i } in
    subst (λ (d : Disk). IsRefusalOf d.image d.layout c.args.who c.args.request.now c.in-Err.refusal) (lent ∙ c.self.view_is) c.in-Err.ensures.step

pub returns-in_default : goal.returns-in_default
returns-in_default c =
    let lent : record { image = c.disk-disk.result.image.now; layout = c.disk-disk.result.layout.now } ≡ c.self.inside.mounted = λ i. record { image = c.disk-disk.ensures.image i; layout = c.disk-disk.ensures.layout i } in
    subst (λ (d : Disk). IsRefusalOf d.image d.layout c.args.who c.args.request.now refusal.NoMemory) (lent ∙ c.self.view_is)
    (short_of_memory c.disk-disk.result.image.now c.disk-disk.result.layout.now c.args.who c.args.request.now c.carry_out.new.answer _ _ c.in-Ok.ensures.step c.in_default.ensures.err)

pub returns : goal.returns
returns c =
    let lent : record { image = c.disk-disk.result.image.now; layout = c.disk-disk.result.layout.now } ≡ c.self.inside.mounted = λ i. record { image = c.disk-disk.ensures.image i; layout = c.disk-disk.ensures.layout i } in
    let made : Parts = record { changes = c.in-Ok.carried.0.draft; places = c.in-Ok.carried.0.places.items; counts = c.in-Ok-counts_after.counts; end = c.in-Ok.carried.1; falls = c.falls_for.result } in
    let kept_here : (end : KnownEnd) → stays c.falls_for.result end.file ≡ true → IsEndKnown c.disk-disk.result.image.now c.disk-disk.result.layout.now end
    → IsEndKnown (applied c.disk-disk.result.image.now c.in-Ok.carried.0.draft) (with_places c.disk-disk.result.layout.now c.in-Ok.carried.0.places.items) end =
    λ end stay known.
    kept_by_step c.disk-disk.result.image.now (applied c.disk-disk.result.image.now c.in-Ok.carried.0.draft) c.disk-disk.result.layout.now (with_places c.disk-disk.result.layout.now c.in-Ok.carried.0.places.items)
    c.len.ensures.image c.disk-disk.ensures.sound c.args.who c.args.request.now c.carry_out.new.answer c.in-Ok.ensures.step end (sym (ap (λ f. stays f end.file) c.falls_for.ensures) ∙ stay) known in
    let struck_here : Strikes c.disk-disk.result.image.now c.disk-disk.result.layout.now (applied c.disk-disk.result.image.now c.in-Ok.carried.0.draft) (with_places c.disk-disk.result.layout.now c.in-Ok.carried.0.places.items) c.falls_for.result =
    subst (Strikes c.disk-disk.result.image.now c.disk-disk.result.layout.now (applied c.disk-disk.result.image.now c.in-Ok.carried.0.draft) (with_places c.disk-disk.result.layout.now c.in-Ok.carried.0.places.items)) (sym c.falls_for.ensures)
    (strikes_by c.disk-disk.result.image.now (applied c.disk-disk.result.image.now c.in-Ok.carried.0.draft) c.disk-disk.result.layout.now (with_places c.disk-disk.result.layout.now c.in-Ok.carried.0.places.items)
    c.disk-disk.ensures.sound c.args.request.now c.carry_out.new.answer c.in-Ok.ensures.step.moves c.in-Ok.ensures.step.elsewhere) in
    subst (λ (d : Disk). IsChangeFor d c.args.who c.args.request.now c.carry_out.new.answer made) (lent ∙ c.self.view_is) (record {
      step = c.in-Ok.ensures.step;
      lawful = record { sound = c.in-Ok.ensures.step.sound; counted = c.in-Ok-counts_after.ensures.ok; ended = c.in-Ok.ensures.end; kept = kept_here; struck = struck_here };
      falls = c.falls_for.ensures;
    })
