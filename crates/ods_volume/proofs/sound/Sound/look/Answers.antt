use Rattle.std.proofs.Common.{◌≡◌, ◌∙◌, ap, sym, subst, true, None}
use Rattle.ods_space.specs.Layout.{Disk, with_places}
use Rattle.ods_space.specs.Draft.{applied}
use Rattle.ods_alloc.specs.Counts.{counts_of}
use Rattle.ods_request.specs.Queries.{request_of}
use Rattle.ods_state.specs.Change.{disk}
use Rattle.ods_state.specs.Served.{IsRefusalOf}
use Rattle.ods_state.specs.declared.known_end.KnownEnd.{KnownEnd}
use Rattle.ods_state.specs.Ends.{IsEndKnown}
use Rattle.ods_volume.specs.declared.ends.Falls.TheVariants.{Nothing}
use Rattle.ods_volume.specs.Ends.{stays}
use Rattle.ods_volume.specs.Changing.{IsChangeFor, Parts}
use Rattle.ods_volume.specs.Struck.{Strikes}
use Rattle.ods_volume.proofs.Counted.{query_changes_none}
use Rattle.ods_volume.proofs.EndsFollow.{kept_by_step}
use Rattle.ods_state.specs.Noted.{MayBeKnown}
use Rattle.ods_volume.proofs.Looks.{nothing_falls}
use Rattle.ods_volume.proofs.NamesThen.{by_reference}
use Rattle.ods_volume.proofs.Struck.{strikes_by}
use Rattle.ods_volume.proofs.sound.Sound.look.Goals as goal

pub look_only-requires-clause-names : goal.look_only-requires-clause-names
look_only-requires-clause-names c =
    let lent : record { image = c.disk-disk.result.image.now; layout = c.disk-disk.result.layout.now } ≡ c.self.inside.mounted = λ i. record { image = c.disk-disk.ensures.image i; layout = c.disk-disk.ensures.layout i } in
    by_reference c.disk-disk.result.image.now c.disk-disk.result.layout.now c.as_ref-names.result c.self.inside.names c.as_ref-names.ensures.value (subst (λ (d : Disk). MayBeKnown d.image d.layout c.self.inside.names) (sym lent) c.self.invariant.named)

pub returns-in-Err : goal.returns-in-Err
returns-in-Err c =
    let lent : record { image = c.disk-disk.result.image.now; layout = c.disk-disk.result.layout.now } ≡ c.self.inside.mounted = λ i. record { image = c.disk-disk.ensures.image i; layout = c.disk-disk.ensures.layout i } in
    subst (λ (d : Disk). IsRefusalOf d.image d.layout c.args.who (request_of c.args.query) c.in-Err.refusal) (lent ∙ c.self.view_is) c.in-Err.ensures

pub returns : goal.returns
returns c =
    let I = c.disk-disk.result.image.now in
    let L = c.disk-disk.result.layout.now in
    let r = request_of c.args.query in
    let a = c.look_only.new.answer in
    let J = applied I c.in-Ok.drafted.draft in
    let M = with_places L c.in-Ok.drafted.places.items in
    let step = c.in-Ok.ensures in
    let lent : record { image = I; layout = L } ≡ c.self.inside.mounted = λ i. record { image = c.disk-disk.ensures.image i; layout = c.disk-disk.ensures.layout i } in
    let made : Parts = record { changes = c.in-Ok.drafted.draft; places = c.in-Ok.drafted.places.items; counts = None; end = None; falls = Nothing } in
    let kept_here : (end : KnownEnd) → stays Nothing end.file ≡ true → IsEndKnown I L end → IsEndKnown J M end =
    λ end stay known. kept_by_step I J L M c.len.ensures.image c.disk-disk.ensures.sound c.args.who r a step end (sym (ap (λ f. stays f end.file) (nothing_falls c.args.query a)) ∙ stay) known in
    let struck_here : Strikes I L J M Nothing = subst (Strikes I L J M) (sym (nothing_falls c.args.query a)) (strikes_by I J L M c.disk-disk.ensures.sound r a step.moves step.elsewhere) in
    subst (λ (d : Disk). IsChangeFor d c.args.who r a made) (lent ∙ c.self.view_is) (record {
      step = step;
      lawful = record { sound = step.sound; counted = λ i. counts_of (query_changes_none (disk I L) (disk J M) c.args.query step.elsewhere i) L; ended = tt; kept = kept_here; struck = struck_here };
      falls = nothing_falls c.args.query a;
    })
