use Rattle.std.proofs.Common.{refl, subst, inl, inr}
use Rattle.ods_paths.specs.Bad.{IsBad}
use Rattle.ods_paths.specs.Paths.{Says}
use Rattle.ods_paths.specs.Views.{said}
use Rattle.ods_upkeep.proofs.CopiedTrees.{told_more}
use Rattle.ods_upkeep.proofs.copying_tree.tree_of.Goals as goal

pub returns-in-Ok : goal.returns-in-Ok
returns-in-Ok c =
    let says : Says c.args.path.now (said c.in-Ok.says) = subst (λ text. Says text (said c.in-Ok.says)) c.as_bytes.ensures.value c.in-Ok.ensures in
    told_more c.tree_said.result (λ tree is. (said c.in-Ok.says, says, is)) (λ why none. inr (said c.in-Ok.says, says, none)) c.tree_said.ensures

pub returns-in-Err : goal.returns-in-Err
returns-in-Err c = inl (c.in-Err.bad, refl, subst (λ text. IsBad text c.in-Err.bad) c.as_bytes.ensures.value c.in-Err.ensures)
