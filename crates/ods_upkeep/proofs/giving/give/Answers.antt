use Rattle.std.proofs.Common.{◌≡◌, refl, subst, inl, inr, Some}
use Rattle.std.proofs.lemmas.Result.{err_from_is_err_and, IfErr-weaker}
use Rattle.ods_shell.specs.declared.alone.Alone.TheVariants as alone
use Rattle.ods_shell.specs.Named.{highest}
use Rattle.ods_upkeep.specs.Given.{AreNotGiven, GetAccess, StopsGiving}
use Rattle.ods_upkeep.specs.Refused.{AreNoSources}
use Rattle.ods_upkeep.specs.Sources.{AreSources}
use Rattle.ods_upkeep.proofs.Lists.{if_done}
use Rattle.ods_upkeep.proofs.Naming.{same_unsaid}
use Rattle.ods_upkeep.proofs.giving.give.Goals as goal
use Rattle.ods_upkeep.proofs.giving.give.Goals.{In_ok-all}

-- what the paths name
sources : (c : In_ok-all) → AreSources c.args.filing.now.image c.args.filing.now.layout (highest alone.Themselves) c.args.paths.now c.in_ok-all.all.items
sources c = same_unsaid (λ J M u. AreSources J M u c.args.paths.now c.in_ok-all.all.items) c.mounted.ensures.0 c.mounted.ensures.1 c.highest.ensures c.in_ok-all.ensures

pub returns-clause-done : goal.returns-clause-done
returns-clause-done c =
    let at = goal.at.returns-clause-done c in
    if_done c.give_all.result
    (λ done. (c.in_ok-all.all.items, sources at.In_ok-all, subst (λ l. GetAccess c.args.owner c.args.protection l c.args.filing.now c.give_all.new.filing) c.deref.ensures.value done))
    c.give_all.ensures.done

pub returns-clause-refused : goal.returns-clause-refused
returns-clause-refused c =
    let at = goal.at.returns-clause-refused c in
    IfErr-weaker c.give_all.result (StopsGiving c.args.owner c.args.protection c.deref.result.now c.args.filing.now c.give_all.new.filing) (AreNotGiven c.args.owner c.args.protection c.args.paths.now c.args.filing.now c.give_all.new.filing)
    (λ failure stops. inr (c.in_ok-all.all.items, sources at.In_ok-all, subst (λ l. StopsGiving c.args.owner c.args.protection l c.args.filing.now c.give_all.new.filing failure) c.deref.ensures.value stops))
    c.give_all.ensures.refused

pub returns-in_err-all-clause-refused : goal.returns-in_err-all-clause-refused
returns-in_err-all-clause-refused c =
    let failure = c.in_err-all.field-0.0 in
    let p = err_from_is_err_and c.from_residual.result c.from_residual.ensures.1 in
    rw (p.1, p.2) (inl (refl, same_unsaid (λ J M u. AreNoSources J M u c.args.paths.now failure) c.mounted.ensures.0 c.mounted.ensures.1 c.highest.ensures c.in_err-all.ensures))
