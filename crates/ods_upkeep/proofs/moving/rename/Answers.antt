use Rattle.std.proofs.Common.{subst}
use Rattle.std.specs.Prelude.{IfErr, OnOk}
use Rattle.std.proofs.lemmas.Result.{err_from_is_err_and}
use Rattle.ods_base.specs.declared.name.Pick.TheVariants.{Exact}
use Rattle.ods_request.specs.declared.requests.Request.TheVariants.{Enter, Remove}
use Rattle.ods_filing.proofs.Led.{asked, then_led, then_obeyed}
use Rattle.ods_filing.specs.Led.{IsObeyed}
use Rattle.ods_upkeep.specs.Moved.{IsFree, IsNotMoving, one_moved}
use Rattle.ods_upkeep.specs.Removed.{Does}
use Rattle.ods_upkeep.proofs.Lists.{if_done}
use Rattle.ods_upkeep.proofs.Moves.{enter_stops, free_for, name_moves, remove_stops, taken_for}
use Rattle.ods_upkeep.proofs.Stopping.{if_failed}
use Rattle.ods_upkeep.proofs.moving.rename.Goals as goal

pub returns-in_err-enter-clause-led : goal.returns-in_err-enter-clause-led
returns-in_err-enter-clause-led c =
    then_led c.version_for.ensures.led (asked (Enter c.args.target.now.directory c.unwrap_or-name.result c.in_ok-version.version c.in-Some.place.entry.file) tt c.enter.ensures.asked)

pub returns-clause-led : goal.returns-clause-led
returns-clause-led c =
    let place = c.in-Some.place in
    let entered = then_obeyed (Enter c.args.target.now.directory c.unwrap_or-name.result c.in_ok-version.version place.entry.file) tt c.version_for.ensures.led c.in_ok-enter.ensures.done in
    then_led entered (asked (Remove place.directory place.entry.name (Exact place.entry.version)) tt c.remove.ensures.asked)

pub returns-clause-done : goal.returns-clause-done
returns-clause-done c =
    let to = c.args.target.now in
    let place = c.in-Some.place in
    let entered : IsObeyed c.args.filing.now (Enter to.directory c.unwrap_or-name.result c.in_ok-version.version place.entry.file) c.enter.new.filing =
    subst (λ f. IsObeyed f (Enter to.directory c.unwrap_or-name.result c.in_ok-version.version place.entry.file) c.enter.new.filing) c.in_ok-version.ensures.same c.in_ok-enter.ensures.done in
    subst (λ p. OnOk c.remove.result (Does c.args.filing.now (one_moved to p) c.remove.new.filing)) c.in-Some.ensures
    (if_done c.remove.result (name_moves c.args.filing.now c.enter.new.filing c.remove.new.filing to place c.unwrap_or-name.result c.in_ok-version.version c.unwrap_or-name.ensures c.in_ok-version.ensures.version entered) c.remove.ensures.done)

pub returns-clause-free : goal.returns-clause-free
returns-clause-free c =
    let to = c.args.target.now in
    subst (λ p. OnOk c.remove.result (IsFree c.args.filing.now to p)) c.in-Some.ensures
    (if_done c.remove.result (λ done. free_for c.args.filing.now to c.in-Some.place c.unwrap_or-name.result c.unwrap_or-name.ensures c.in_ok-version.ensures.free) c.remove.ensures.done)

pub returns-clause-refused : goal.returns-clause-refused
returns-clause-refused c =
    let to = c.args.target.now in
    let place = c.in-Some.place in
    let name = c.unwrap_or-name.result in
    let version = c.in_ok-version.version in
    let entered : IsObeyed c.args.filing.now (Enter to.directory name version place.entry.file) c.enter.new.filing =
    subst (λ f. IsObeyed f (Enter to.directory name version place.entry.file) c.enter.new.filing) c.in_ok-version.ensures.same c.in_ok-enter.ensures.done in
    subst (λ p. IfErr c.remove.result (IsNotMoving to p c.args.filing.now c.remove.new.filing)) c.in-Some.ensures
    (if_failed c.remove.result
    (λ same why refused. remove_stops c.args.filing.now c.enter.new.filing c.remove.new.filing to place name version why c.unwrap_or-name.ensures c.in_ok-version.ensures.version c.in_ok-version.ensures.free entered same refused)
    c.remove.ensures.unchanged c.remove.ensures.refused)

pub returns-in_err-version-clause-refused : goal.returns-in_err-version-clause-refused
returns-in_err-version-clause-refused c =
    let to = c.args.target.now in
    let p = err_from_is_err_and c.from_residual.result c.from_residual.ensures.1 in
    rw (p.1, p.2)
    (subst (λ place. IsNotMoving to place c.args.filing.now c.version_for.new.filing c.in_err-version.field-0.0) c.in-Some.ensures
    (taken_for c.args.filing.now c.version_for.new.filing to c.in-Some.place c.unwrap_or-name.result c.in_err-version.field-0.0 c.unwrap_or-name.ensures c.in_err-version.ensures.refused))

pub returns-in_err-enter-clause-refused : goal.returns-in_err-enter-clause-refused
returns-in_err-enter-clause-refused c =
    let to = c.args.target.now in
    let p = err_from_is_err_and c.from_residual-in_err-enter.result c.from_residual-in_err-enter.ensures.1 in
    rw (p.1, p.2)
    (subst (λ place. IsNotMoving to place c.args.filing.now c.enter.new.filing c.in_err-enter.field-0.0) c.in-Some.ensures
    (enter_stops c.args.filing.now c.version_for.new.filing c.enter.new.filing to c.in-Some.place c.unwrap_or-name.result c.in_ok-version.version c.in_err-enter.field-0.0 c.unwrap_or-name.ensures c.in_ok-version.ensures.version
    c.in_ok-version.ensures.same c.in_err-enter.ensures.unchanged c.in_ok-version.ensures.free c.in_err-enter.ensures.refused))
