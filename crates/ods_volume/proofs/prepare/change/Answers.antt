use Rattle.std.proofs.Common.{sym, subst}
use Rattle.ods_space.specs.Draft.{applied}
use Rattle.ods_state.specs.Ends.{IsKnownIn}
use Rattle.ods_state.proofs.GrownMoves.{no_places}
use Rattle.ods_state.specs.Outcome.{CanBeAsked}
use Rattle.ods_change.proofs.StillLayout.{step_still}
use Rattle.ods_volume.proofs.EndsFollow.{known_of}
use Rattle.ods_volume.proofs.Arms.{no_other, refused_as, step_as}
use Rattle.ods_volume.proofs.prepare.change.Goals as goal

pub unreachable-requires : goal.unreachable-requires
unreachable-requires c =
    no_other c.args.request.now c.requires.changes c.in_default.not-Create c.in_default.not-Extend c.in_default.not-Truncate c.in_default.not-Delete c.in_default.not-Enter
    c.in_default.not-Write c.in_default.not-SetUser c.in_default.not-Remove

pub returns-in-Ok-write-clause-step : goal.returns-in-Ok-write-clause-step
returns-in-Ok-write-clause-step c = step_as c.in-Write.is (step_still c.still-in-Ok-write.result c.still-in-Ok-write.ensures.draft c.still-in-Ok-write.ensures.places c.in-Ok-write.ensures.step)

-- what is noted of the file is true
pub extend-requires-clause-known : goal.extend-requires-clause-known
extend-requires-clause-known c = known_of c.args.disk.now.image.now c.args.disk.now.layout.now c.args.known.now.ends _ c.of-noted.result c.requires.known c.of-noted.ensures.some

pub truncate-requires-clause-known : goal.truncate-requires-clause-known
truncate-requires-clause-known c = known_of c.args.disk.now.image.now c.args.disk.now.layout.now c.args.known.now.ends _ c.of-counted.result c.requires.known c.of-counted.ensures.some

pub returns-in-Err-write-clause-step : goal.returns-in-Err-write-clause-step
returns-in-Err-write-clause-step c = refused_as c.args.who c.in-Err-write.refusal c.in-Write.is c.in-Err-write.ensures.step

pub returns-in-Ok-set_user-clause-step : goal.returns-in-Ok-set_user-clause-step
returns-in-Ok-set_user-clause-step c = step_as c.in-SetUser.is (step_still c.still-in-Ok-set_user.result c.still-in-Ok-set_user.ensures.draft c.still-in-Ok-set_user.ensures.places c.in-Ok-set_user.ensures)

pub returns-in-Err-set_user-clause-step : goal.returns-in-Err-set_user-clause-step
returns-in-Err-set_user-clause-step c = refused_as c.args.who c.in-Err-set_user.refusal c.in-SetUser.is c.in-Err-set_user.ensures

pub returns-in-Ok-remove-clause-step : goal.returns-in-Ok-remove-clause-step
returns-in-Ok-remove-clause-step c = step_as c.in-Remove.is (step_still c.still-drafted.result c.still-drafted.ensures.draft c.still-drafted.ensures.places c.in-Ok-remove.ensures)

pub returns-in-Err-remove-clause-step : goal.returns-in-Err-remove-clause-step
returns-in-Err-remove-clause-step c = refused_as c.args.who c.in-Err-remove.refusal c.in-Remove.is c.in-Err-remove.ensures

pub returns-in-Ok-clause-step : goal.returns-in-Ok-clause-step
returns-in-Ok-clause-step c = step_as c.in-Create.is c.in-Ok.ensures

pub returns-in-Err-clause-step : goal.returns-in-Err-clause-step
returns-in-Err-clause-step c = refused_as c.args.who c.in-Err.refusal c.in-Create.is c.in-Err.ensures

pub returns-in-Ok-extend-clause-step : goal.returns-in-Ok-extend-clause-step
returns-in-Ok-extend-clause-step c = step_as c.in-Extend.is c.in-Ok-extend.ensures.step

pub returns-in-Err-extend-clause-step : goal.returns-in-Err-extend-clause-step
returns-in-Err-extend-clause-step c = refused_as c.args.who c.in-Err-extend.refusal c.in-Extend.is c.in-Err-extend.ensures.step

pub returns-in-Ok-truncate-clause-step : goal.returns-in-Ok-truncate-clause-step
returns-in-Ok-truncate-clause-step c = step_as c.in-Truncate.is (step_still c.still.result c.still.ensures.draft c.still.ensures.places c.in-Ok-truncate.ensures.step)

-- what a Truncate says of its file is true then
pub returns-in-Ok-truncate-clause-end : goal.returns-in-Ok-truncate-clause-end
returns-in-Ok-truncate-clause-end c =
    let I = c.args.disk.now.image.now in
    let L = c.args.disk.now.layout.now in
    let end = c.in-Ok-truncate.end in
    subst (λ M. IsKnownIn (applied I c.still.result.draft) M end) (sym (no_places L c.still.result.places.items c.still.ensures.places))
    (subst (λ d. IsKnownIn (applied I d) L end) (sym c.still.ensures.draft) c.in-Ok-truncate.ensures.end)

pub returns-in-Err-truncate-clause-step : goal.returns-in-Err-truncate-clause-step
returns-in-Err-truncate-clause-step c = refused_as c.args.who c.in-Err-truncate.refusal c.in-Truncate.is c.in-Err-truncate.ensures.step

pub returns-in-Ok-delete-clause-step : goal.returns-in-Ok-delete-clause-step
returns-in-Ok-delete-clause-step c = step_as c.in-Delete.is (step_still c.still-in-Ok-delete.result c.still-in-Ok-delete.ensures.draft c.still-in-Ok-delete.ensures.places c.in-Ok-delete.ensures)

pub returns-in-Err-delete-clause-step : goal.returns-in-Err-delete-clause-step
returns-in-Err-delete-clause-step c = refused_as c.args.who c.in-Err-delete.refusal c.in-Delete.is c.in-Err-delete.ensures

pub returns-in-Ok-enter-clause-step : goal.returns-in-Ok-enter-clause-step
returns-in-Ok-enter-clause-step c = step_as c.in-Enter.is c.in-Ok-enter.ensures

pub returns-in-Err-enter-clause-step : goal.returns-in-Err-enter-clause-step
returns-in-Err-enter-clause-step c = refused_as c.args.who c.in-Err-enter.refusal c.in-Enter.is c.in-Err-enter.ensures

pub create-requires-clause-asked : goal.create-requires-clause-asked
create-requires-clause-asked c = subst CanBeAsked c.in-Create.is c.requires.asked

pub enter-requires-clause-asked : goal.enter-requires-clause-asked
enter-requires-clause-asked c = subst CanBeAsked c.in-Enter.is c.requires.asked
