use Rattle.std.proofs.Common.{◌≡◌}
use Rattle.ods_request.specs.declared.answers.Answer.TheVariants.{Entered}
use Rattle.ods_request.specs.declared.requests.Request.TheVariants.{Enter}
use Rattle.ods_space.specs.Draft.{applied}
use Rattle.ods_space.specs.Layout.{with_places}
use Rattle.ods_state.specs.Served.{IsRefusalOf, IsStepOf}
use Rattle.ods_state.proofs.Served.{refused_by_fault}
use Rattle.ods_change.proofs.OwnEntries.{own_is, own_words}
use Rattle.ods_change.proofs.StillLayout.{step_still}
use Rattle.ods_change.proofs.enter_name.enter.Goals as goal

pub returns-in-Err : goal.returns-in-Err
returns-in-Err c = refused_by_fault c.args.disk.now.image.now c.args.disk.now.layout.now c.args.who (Enter c.args.dir c.args.name c.args.version c.args.file) c.in-Err.refusal c.in-Err.ensures

pub returns-in-Ok-enter_behind : goal.returns-in-Ok-enter_behind
returns-in-Ok-enter_behind c =
    let e = c.in-Ok.ensures in
    let d = c.in-Ok-enter_behind.drafted in
    own_is e (λ I L dir. IsStepOf I L c.args.who (Enter dir c.args.name c.args.version c.args.file) (Entered c.in-Ok.entry.version) (applied I d.draft) (with_places L d.places.items))
    (c.in-Ok-enter_behind.ensures c.args.who c.args.name c.args.version c.args.file (own_words e))

pub returns-in-Err-enter_behind : goal.returns-in-Err-enter_behind
returns-in-Err-enter_behind c =
    let e = c.in-Ok.ensures in
    own_is e (λ I L dir. IsRefusalOf I L c.args.who (Enter dir c.args.name c.args.version c.args.file) c.in-Err-enter_behind.refusal)
    (c.in-Err-enter_behind.ensures c.args.who c.args.name c.args.version c.args.file (own_words e))

-- the layout stays
pub returns-in-Ok-enter_within : goal.returns-in-Ok-enter_within
returns-in-Ok-enter_within c =
    let e = c.in-Ok.ensures in
    let d = c.still.result in
    own_is e (λ I L dir. IsStepOf I L c.args.who (Enter dir c.args.name c.args.version c.args.file) (Entered c.in-Ok.entry.version) (applied I d.draft) (with_places L d.places.items))
    (step_still d c.still.ensures.draft c.still.ensures.places (c.in-Ok-enter_within.ensures c.args.who c.args.name c.args.version c.args.file (own_words e)))

pub returns-in-Err-enter_within : goal.returns-in-Err-enter_within
returns-in-Err-enter_within c =
    let e = c.in-Ok.ensures in
    own_is e (λ I L dir. IsRefusalOf I L c.args.who (Enter dir c.args.name c.args.version c.args.file) c.in-Err-enter_within.refusal)
    (c.in-Err-enter_within.ensures c.args.who c.args.name c.args.version c.args.file (own_words e))
