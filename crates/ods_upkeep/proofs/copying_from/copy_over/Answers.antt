use Rattle.std.proofs.lemmas.Result.{IfErr-weaker, err_from_is_err_and}
use Rattle.ods_upkeep.specs.Uncopied.{IsCopyUnmade}
use Rattle.ods_upkeep.specs.UncopiedFrom.{IsNotCopiedOver}
use Rattle.ods_upkeep.proofs.CopiesOver.{is_copied_over, may_not_over, not_copied_over, only_kept, said_anywhere, unread_over}
use Rattle.ods_upkeep.proofs.Lists.{if_done}
use Rattle.ods_upkeep.proofs.copying_from.copy_over.Goals as goal

pub returns-clause-led : goal.returns-clause-led
returns-clause-led c said =
    c.make_copy.ensures.led c.args.how.now.owners (only_kept c.args.how.now c.user.result c.in_ok-facts.facts.owner c.owner_carried-owner.result c.owner_carried-owner.ensures)
    (said_anywhere c.args.how.now c.in_ok-facts.facts c.placing_like-placing.result c.placing_like-placing.ensures said)

pub returns-clause-done : goal.returns-clause-done
returns-clause-done c =
    if_done c.make_copy.result
    (is_copied_over c.args.other.now.image.now c.args.other.now.layout.now c.args.how.now c.args.target.now c.target_for-place.result c.args.stamp c.stamp_for-date.result c.args.found.now c.args.filing.now c.make_copy.new.filing
    c.in_ok-facts.facts c.in_ok-facts.name c.placing_like-placing.result c.in_ok-bytes.bytes.items c.deref.result.now c.user.result c.owner_carried-owner.result c.in_ok-facts.ensures.ok c.in_ok-bytes.ensures.ok
    c.placing_like-placing.ensures c.target_for-place.ensures c.stamp_for-date.ensures c.deref.ensures.value c.user.ensures c.owner_carried-owner.ensures) c.make_copy.ensures.done

pub returns-clause-refused : goal.returns-clause-refused
returns-clause-refused c =
    let I = c.args.other.now.image.now in
    let L = c.args.other.now.layout.now in
    let facts = c.in_ok-facts.facts in
    let name = c.in_ok-facts.name in
    let new = c.make_copy.new.filing in
    IfErr-weaker c.make_copy.result (IsCopyUnmade c.placing_like-placing.result c.target_for-place.result name c.stamp_for-date.result facts c.deref.result.now c.args.filing.now new)
    (IsNotCopiedOver I L c.args.how.now c.args.target.now c.args.stamp c.args.found.now c.args.filing.now new)
    (λ why refused. not_copied_over why I L c.args.how.now c.args.target.now c.target_for-place.result c.args.stamp c.stamp_for-date.result c.args.found.now c.args.filing.now new facts name c.placing_like-placing.result
    c.in_ok-bytes.bytes.items c.deref.result.now c.in_ok-facts.ensures.ok c.in_ok-bytes.ensures.ok c.placing_like-placing.ensures c.target_for-place.ensures c.stamp_for-date.ensures c.deref.ensures.value refused)
    c.make_copy.ensures.refused

pub returns-in_err-facts-clause-refused : goal.returns-in_err-facts-clause-refused
returns-in_err-facts-clause-refused c =
    let p = err_from_is_err_and c.from_residual.result c.from_residual.ensures.1 in
    rw (p.1, p.2) (may_not_over _ c.args.other.now.image.now c.args.other.now.layout.now c.args.how.now c.args.target.now c.args.stamp c.args.found.now c.args.filing.now c.in_err-facts.ensures.err)

pub returns-in_err-bytes-clause-refused : goal.returns-in_err-bytes-clause-refused
returns-in_err-bytes-clause-refused c =
    let p = err_from_is_err_and c.from_residual-in_err-bytes.result c.from_residual-in_err-bytes.ensures.1 in
    rw (p.1, p.2) (unread_over _ c.args.other.now.image.now c.args.other.now.layout.now c.args.how.now c.args.target.now c.args.stamp c.args.found.now c.args.filing.now c.in_ok-facts.facts c.in_ok-facts.name
    c.in_ok-facts.ensures.ok c.in_err-bytes.ensures.err)
