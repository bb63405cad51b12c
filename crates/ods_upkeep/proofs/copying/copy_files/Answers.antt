use Rattle.std.proofs.Common.{refl, subst, Some, length, inl, inr, arith}
use Rattle.std.proofs.lemmas.Result.{IfErr-weaker, err_from_is_err_and}
use Rattle.ods_shell.specs.declared.alone.Alone.TheVariants as alone
use Rattle.ods_shell.specs.Named.{highest}
use Rattle.ods_upkeep.specs.Copied.{AreCopied}
use Rattle.ods_upkeep.specs.Ready.{MayHaveGrown}
use Rattle.ods_upkeep.specs.Refused.{HasPath}
use Rattle.ods_upkeep.specs.Sources.{AreSources}
use Rattle.ods_upkeep.specs.Target.{IsNoTarget, IsTarget}
use Rattle.ods_upkeep.specs.Uncopied.{IsFirstUncopyable, IsNotCopiedTo, MayAllBeCopied, StopsCopying}
use Rattle.ods_upkeep.proofs.Lists.{if_done}
use Rattle.ods_upkeep.proofs.Naming.{same_disk, same_unsaid}
use Rattle.ods_upkeep.proofs.copying.copy_files.Goals as goal

pub returns-clause-led : goal.returns-clause-led
returns-clause-led c said = if_done c.copy_all.result (λ led. (c.len-2.result, (c.make_ready.new.filing, c.make_ready.ensures, led))) (c.copy_all.ensures.led said)

pub returns-clause-done : goal.returns-clause-done
returns-clause-done c =
    let I = c.args.filing.now.image in
    let L = c.args.filing.now.layout in
    let all = c.in_ok-all.all.items in
    let to = c.in_ok-target.target in
    let sources : AreSources I L (highest alone.Files) c.args.paths.now all = same_unsaid (λ J M u. AreSources J M u c.args.paths.now all) c.mounted.ensures.0 c.mounted.ensures.1 c.highest.ensures c.in_ok-all.ensures in
    let counted : IsTarget I L c.len.result c.args.to.now to = same_disk (λ J M. IsTarget J M c.len.result c.args.to.now to) c.mounted-2.ensures.0 c.mounted-2.ensures.1 c.in_ok-target.ensures in
    let target : IsTarget I L (length all) c.args.to.now to = subst (λ n. IsTarget I L n c.args.to.now to) (omega (arith, c.len.ensures, c.in_ok-all.all.ok.0)) counted in
    let ready = c.make_ready.new.filing in
    let grown : MayHaveGrown (length all) c.args.filing.now ready = subst (λ n. MayHaveGrown n c.args.filing.now ready) (omega (arith, c.len-2.ensures, c.in_ok-all.all.ok.0)) c.make_ready.ensures in
    if_done c.copy_all.result (λ copied. (all, (to, sources, target, (ready, grown, subst (λ l. AreCopied c.args.placing to c.args.stamp l ready c.copy_all.new.filing) c.deref-2.ensures.value copied)))) c.copy_all.ensures.done

pub returns-clause-refused : goal.returns-clause-refused
returns-clause-refused c =
    let I = c.args.filing.now.image in
    let L = c.args.filing.now.layout in
    let all = c.in_ok-all.all.items in
    let to = c.in_ok-target.target in
    let new = c.copy_all.new.filing in
    let sources : AreSources I L (highest alone.Files) c.args.paths.now all = same_unsaid (λ J M u. AreSources J M u c.args.paths.now all) c.mounted.ensures.0 c.mounted.ensures.1 c.highest.ensures c.in_ok-all.ensures in
    let counted : IsTarget I L c.len.result c.args.to.now to = same_disk (λ J M. IsTarget J M c.len.result c.args.to.now to) c.mounted-2.ensures.0 c.mounted-2.ensures.1 c.in_ok-target.ensures in
    let target : IsTarget I L (length all) c.args.to.now to = subst (λ n. IsTarget I L n c.args.to.now to) (omega (arith, c.len.ensures, c.in_ok-all.all.ok.0)) counted in
    let may : MayAllBeCopied (Some c.args.filing.now.user) to all = subst (λ u. MayAllBeCopied (Some u) to all) c.user.ensures (subst (MayAllBeCopied (Some c.user.result) to) c.deref.ensures.value c.in_ok-check_all.ensures.ok) in
    let ready = c.make_ready.new.filing in
    let grown : MayHaveGrown (length all) c.args.filing.now ready = subst (λ n. MayHaveGrown n c.args.filing.now ready) (omega (arith, c.len-2.ensures, c.in_ok-all.all.ok.0)) c.make_ready.ensures in
    IfErr-weaker c.copy_all.result (StopsCopying c.args.placing to c.args.stamp c.deref-2.result.now ready new) (IsNotCopiedTo c.args.placing c.args.stamp c.args.paths.now c.args.to.now c.args.filing.now new)
    (λ failure stops. inr (all, sources, inr (to, target, inr (may, (ready, grown, subst (λ l. StopsCopying c.args.placing to c.args.stamp l ready new failure) c.deref-2.ensures.value stops))))) c.copy_all.ensures.refused

pub returns-in_err-target-clause-refused : goal.returns-in_err-target-clause-refused
returns-in_err-target-clause-refused c =
    let I = c.args.filing.now.image in
    let L = c.args.filing.now.layout in
    let all = c.in_ok-all.all.items in
    let sources : AreSources I L (highest alone.Files) c.args.paths.now all = same_unsaid (λ J M u. AreSources J M u c.args.paths.now all) c.mounted.ensures.0 c.mounted.ensures.1 c.highest.ensures c.in_ok-all.ensures in
    let failure = c.in_err-target.field-0.0 in
    let counted : IsNoTarget I L c.len.result c.args.to.now failure.why = same_disk (λ J M. IsNoTarget J M c.len.result c.args.to.now failure.why) c.mounted-2.ensures.0 c.mounted-2.ensures.1 c.in_err-target.ensures.0 in
    let none : IsNoTarget I L (length all) c.args.to.now failure.why = subst (λ n. IsNoTarget I L n c.args.to.now failure.why) (omega (arith, c.len.ensures, c.in_ok-all.all.ok.0)) counted in
    let said : HasPath failure c.args.to.now = c.in_err-target.ensures.1 in
    let p = err_from_is_err_and c.from_residual-in_err-target.result c.from_residual-in_err-target.ensures.1 in
    rw (p.1, p.2) (inr (all, sources, inl (refl, none, said)))

pub returns-in_err-check_all-clause-refused : goal.returns-in_err-check_all-clause-refused
returns-in_err-check_all-clause-refused c =
    let I = c.args.filing.now.image in
    let L = c.args.filing.now.layout in
    let all = c.in_ok-all.all.items in
    let to = c.in_ok-target.target in
    let sources : AreSources I L (highest alone.Files) c.args.paths.now all = same_unsaid (λ J M u. AreSources J M u c.args.paths.now all) c.mounted.ensures.0 c.mounted.ensures.1 c.highest.ensures c.in_ok-all.ensures in
    let counted : IsTarget I L c.len.result c.args.to.now to = same_disk (λ J M. IsTarget J M c.len.result c.args.to.now to) c.mounted-2.ensures.0 c.mounted-2.ensures.1 c.in_ok-target.ensures in
    let target : IsTarget I L (length all) c.args.to.now to = subst (λ n. IsTarget I L n c.args.to.now to) (omega (arith, c.len.ensures, c.in_ok-all.all.ok.0)) counted in
    let failure = c.in_err-check_all.field-0.0 in
    let first : IsFirstUncopyable (Some c.args.filing.now.user) to all failure =
    subst (λ u. IsFirstUncopyable (Some u) to all failure) c.user.ensures (subst (λ l. IsFirstUncopyable (Some c.user.result) to l failure) c.deref.ensures.value c.in_err-check_all.ensures.err) in
    let p = err_from_is_err_and c.from_residual-in_err-check_all.result c.from_residual-in_err-check_all.ensures.1 in
    rw (p.1, p.2) (inr (all, sources, inr (to, target, inl (refl, first))))
