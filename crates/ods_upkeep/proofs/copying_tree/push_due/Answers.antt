use Rattle.std.proofs.Common.{refl, subst, sym, Some}
use Rattle.ods_upkeep.specs.CopiedTree.{IsDueTo}
use Rattle.ods_upkeep.proofs.CopiedTrees.{Adds, due_one}
use Rattle.ods_upkeep.proofs.copying_tree.push_due.Goals as goal

pub returns : goal.returns
returns c =
    subst (λ o. Adds c.args.due.now.items c.push.new.self.items (IsDueTo c.args.how.now c.args.user c.args.path.now o c.args.owner c.args.file)) (sym c.in-Some.is)
    (subst (λ o. Adds c.args.due.now.items c.push.new.self.items (IsDueTo c.args.how.now c.args.user c.args.path.now (Some c.in-Some.facts) o c.args.file)) (sym c.in-Some-owner.is)
    (due_one c.args.how.now c.args.user c.in-Some-owner.owner c.args.path.now c.in-Some.facts c.args.file _ c.args.due.now.items c.push.new.self.items (sym c.if-not-may_give.ensures)
    (refl, c.owner_carried.ensures, refl, c.in_ok-from_str.ensures.ok) c.in_ok-push.ensures.items))
