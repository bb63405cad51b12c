use Rattle.std.proofs.Common.{◌≡◌, refl, subst, length, inl, inr, arith}
use Rattle.std.proofs.lemmas.Result.{IfErr-weaker, err_from_is_err_and}
use Rattle.ods_upkeep.specs.CopiedFrom.{AreAllCopiedOver}
use Rattle.ods_upkeep.specs.Refused.{HasPath}
use Rattle.ods_upkeep.specs.Target.{IsNoTarget, IsTarget}
use Rattle.ods_upkeep.specs.UncopiedFrom.{AreNotCopiedOver, IsNotCopiedFrom}
use Rattle.ods_upkeep.proofs.CopiesOver.{of_files}
use Rattle.ods_upkeep.proofs.Lists.{if_done}
use Rattle.ods_upkeep.proofs.copying_from.copy_from.Goals as goal

pub returns-clause-done : goal.returns-clause-done
returns-clause-done c =
    let I = c.args.other.now.image.now in
    let L = c.args.other.now.layout.now in
    let old = c.args.filing.now in
    let files = c.in_ok-files.files.items in
    let to = c.in_ok-target.target in
    let all : c.len.result ≡ length files = omega (arith, c.len.ensures, c.in_ok-files.files.ok.0) in
    let target : IsTarget old.image old.layout (length files) c.args.to.now to = of_files (λ J M n. IsTarget J M n c.args.to.now to) c.mounted.ensures.0 c.mounted.ensures.1 all c.in_ok-target.ensures in
    if_done c.copy_each.result
    (λ copied. (files, (to, c.in_ok-files.ensures, target, subst (λ l. AreAllCopiedOver I L c.args.how to c.args.stamp l old c.copy_each.new.filing) c.deref.ensures.value copied))) c.copy_each.ensures.done

pub returns-clause-refused : goal.returns-clause-refused
returns-clause-refused c =
    let I = c.args.other.now.image.now in
    let L = c.args.other.now.layout.now in
    let old = c.args.filing.now in
    let new = c.copy_each.new.filing in
    let files = c.in_ok-files.files.items in
    let to = c.in_ok-target.target in
    let all : c.len.result ≡ length files = omega (arith, c.len.ensures, c.in_ok-files.files.ok.0) in
    let target : IsTarget old.image old.layout (length files) c.args.to.now to = of_files (λ J M n. IsTarget J M n c.args.to.now to) c.mounted.ensures.0 c.mounted.ensures.1 all c.in_ok-target.ensures in
    IfErr-weaker c.copy_each.result (AreNotCopiedOver I L c.args.how to c.args.stamp c.deref.result.now old new) (IsNotCopiedFrom I L c.args.how c.args.stamp c.args.paths.now c.args.to.now old new)
    (λ failure stops. inr (files, c.in_ok-files.ensures, inr (to, target, subst (λ l. AreNotCopiedOver I L c.args.how to c.args.stamp l old new failure) c.deref.ensures.value stops))) c.copy_each.ensures.refused

pub returns-in_err-files-clause-refused : goal.returns-in_err-files-clause-refused
returns-in_err-files-clause-refused c =
    let p = err_from_is_err_and c.from_residual.result c.from_residual.ensures.1 in
    rw (p.1, p.2) (inl (refl, c.in_err-files.ensures))

pub returns-in_err-target-clause-refused : goal.returns-in_err-target-clause-refused
returns-in_err-target-clause-refused c =
    let old = c.args.filing.now in
    let files = c.in_ok-files.files.items in
    let failure = c.in_err-target.field-0.0 in
    let all : c.len.result ≡ length files = omega (arith, c.len.ensures, c.in_ok-files.files.ok.0) in
    let none : IsNoTarget old.image old.layout (length files) c.args.to.now failure.why =
    of_files (λ J M n. IsNoTarget J M n c.args.to.now failure.why) c.mounted.ensures.0 c.mounted.ensures.1 all c.in_err-target.ensures.0 in
    let said : HasPath failure c.args.to.now = c.in_err-target.ensures.1 in
    let p = err_from_is_err_and c.from_residual-in_err-target.result c.from_residual-in_err-target.ensures.1 in
    rw (p.1, p.2) (inr (files, c.in_ok-files.ensures, inl (refl, none, said)))
