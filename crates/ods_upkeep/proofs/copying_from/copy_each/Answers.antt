use Rattle.std.proofs.Common.{refl, length, inl, inr}
use Rattle.std.proofs.lemmas.Result.{IfErr-weaker, err_from_is_err_and}
use Rattle.ods_upkeep.specs.Ready.{MayHaveGrown}
use Rattle.ods_upkeep.specs.Uncopied.{IsFirstUncopyable, MayAllBeCopied}
use Rattle.ods_upkeep.specs.UncopiedFrom.{AreNotCopiedOver, StopsCopyingOver}
use Rattle.ods_upkeep.proofs.Lists.{if_done}
use Rattle.ods_upkeep.proofs.copying_from.copy_each.Goals as goal

pub returns-clause-led : goal.returns-clause-led
returns-clause-led c said = if_done c.copy_all_over.result (λ led. (length c.args.files.now, (c.make_ready.new.filing, c.make_ready.ensures, led))) (c.copy_all_over.ensures.led said)

pub returns-clause-done : goal.returns-clause-done
returns-clause-done c =
    let ready = c.make_ready.new.filing in
    let grown : MayHaveGrown (length c.args.files.now) c.args.filing.now ready = c.make_ready.ensures in
    if_done c.copy_all_over.result (λ copied. (ready, grown, copied)) c.copy_all_over.ensures.done

pub returns-clause-refused : goal.returns-clause-refused
returns-clause-refused c =
    let I = c.args.other.now.image.now in
    let L = c.args.other.now.layout.now in
    let old = c.args.filing.now in
    let ready = c.make_ready.new.filing in
    let new = c.copy_all_over.new.filing in
    let files = c.args.files.now in
    let to = c.args.target.now in
    let grown : MayHaveGrown (length files) old ready = c.make_ready.ensures in
    let may : MayAllBeCopied c.args.how.now.reader to files = c.in_ok-check_all.ensures.ok in
    IfErr-weaker c.copy_all_over.result (StopsCopyingOver I L c.args.how.now to c.args.stamp files ready new) (AreNotCopiedOver I L c.args.how.now to c.args.stamp files old new)
    (λ failure stops. inr (may, (ready, grown, stops))) c.copy_all_over.ensures.refused

pub returns-in_err-check_all-clause-refused : goal.returns-in_err-check_all-clause-refused
returns-in_err-check_all-clause-refused c =
    let failure = c.in_err-check_all.field-0.0 in
    let first : IsFirstUncopyable c.args.how.now.reader c.args.target.now c.args.files.now failure = c.in_err-check_all.ensures.err in
    let p = err_from_is_err_and c.from_residual.result c.from_residual.ensures.1 in
    rw (p.1, p.2) (inl (refl, first))
