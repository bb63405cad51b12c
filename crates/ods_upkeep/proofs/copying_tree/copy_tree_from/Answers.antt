use Rattle.std.proofs.Common.{◌≡◌, ◌∙◌, ap, refl, sym, subst, inl, inr}
use Rattle.std.proofs.lemmas.Result.{IfErr-weaker, err_from_is_err_and}
use Rattle.ods_upkeep.specs.CopiedTree.{AreDirectoriesCopied, depth_of}
use Rattle.ods_upkeep.specs.Refused.{HasPath}
use Rattle.ods_upkeep.specs.Target.{IsNoTarget, IsTarget}
use Rattle.ods_upkeep.specs.UncopiedTree.{IsNoTree, IsTreeUncopied, IsUncopiedBelow}
use Rattle.ods_upkeep.proofs.Lists.{if_done}
use Rattle.ods_upkeep.proofs.Naming.{same_disk}
use Rattle.ods_upkeep.proofs.copying_tree.copy_tree_from.Goals as goal

pub returns-clause-done : goal.returns-clause-done
returns-clause-done c =
    let I = c.args.other.now.image.now in
    let L = c.args.other.now.layout.now in
    let old = c.args.filing.now in
    let new = c.copy_and_give.new.filing in
    let tree = c.in-Ok.tree.directories.items in
    let to = c.in_ok-target.target in
    let depth : c.depth_of-depth.result ≡ depth_of tree = c.depth_of-depth.ensures ∙ ap depth_of c.deref.ensures.value in
    let target : IsTarget old.image old.layout 2 c.args.to.now to = same_disk (λ J M. IsTarget J M 2 c.args.to.now to) c.mounted.ensures.0 c.mounted.ensures.1 c.in_ok-target.ensures in
    if_done c.copy_and_give.result
    (λ copied. (
      tree,
      (
        to,
        c.in-Ok.ensures,
        target,
        (
          copied.0,
          (
            copied.1.0,
            subst (λ n. AreDirectoriesCopied I L c.args.how c.args.stamp c.args.path.now to.directory n tree copied.0 old copied.1.0) depth
                (subst (λ l. AreDirectoriesCopied I L c.args.how c.args.stamp c.args.path.now to.directory c.depth_of-depth.result l copied.0 old copied.1.0) c.deref-2.ensures.value copied.1.1),
            copied.1.2,
          ),
        ),
      ),
    )) c.copy_and_give.ensures.done

pub returns-clause-refused : goal.returns-clause-refused
returns-clause-refused c =
    let I = c.args.other.now.image.now in
    let L = c.args.other.now.layout.now in
    let old = c.args.filing.now in
    let new = c.copy_and_give.new.filing in
    let tree = c.in-Ok.tree.directories.items in
    let to = c.in_ok-target.target in
    let depth : c.depth_of-depth.result ≡ depth_of tree = c.depth_of-depth.ensures ∙ ap depth_of c.deref.ensures.value in
    let target : IsTarget old.image old.layout 2 c.args.to.now to = same_disk (λ J M. IsTarget J M 2 c.args.to.now to) c.mounted.ensures.0 c.mounted.ensures.1 c.in_ok-target.ensures in
    IfErr-weaker c.copy_and_give.result (IsUncopiedBelow I L c.args.how c.args.stamp c.args.path.now to.directory c.depth_of-depth.result c.deref-2.result.now old new)
    (IsTreeUncopied I L c.args.how c.args.stamp c.args.path.now c.args.to.now old new)
    (λ failure stops. inr (
      tree,
      c.in-Ok.ensures,
      inr (
        to,
        target,
        subst (λ n. IsUncopiedBelow I L c.args.how c.args.stamp c.args.path.now to.directory n tree old new failure) depth
            (subst (λ l. IsUncopiedBelow I L c.args.how c.args.stamp c.args.path.now to.directory c.depth_of-depth.result l old new failure) c.deref-2.ensures.value stops),
      ),
    ))
    c.copy_and_give.ensures.refused

pub returns-in-Err-clause-refused : goal.returns-in-Err-clause-refused
returns-in-Err-clause-refused c =
    let I = c.args.other.now.image.now in
    let L = c.args.other.now.layout.now in
    inl (refl, subst (IsNoTree I L c.args.path.now) (sym c.of_path.ensures.why) c.in-Err.ensures, c.of_path.ensures.path)

pub returns-in_err-target-clause-refused : goal.returns-in_err-target-clause-refused
returns-in_err-target-clause-refused c =
    let old = c.args.filing.now in
    let tree = c.in-Ok.tree.directories.items in
    let failure = c.in_err-target.field-0.0 in
    let none : IsNoTarget old.image old.layout 2 c.args.to.now failure.why = same_disk (λ J M. IsNoTarget J M 2 c.args.to.now failure.why) c.mounted.ensures.0 c.mounted.ensures.1 c.in_err-target.ensures.0 in
    let said : HasPath failure c.args.to.now = c.in_err-target.ensures.1 in
    let p = err_from_is_err_and c.from_residual.result c.from_residual.ensures.1 in
    rw (p.1, p.2) (inr (tree, c.in-Ok.ensures, inl (refl, none, said)))
