use Rattle.std.proofs.Common.{sym, subst, refl}
use Rattle.std.specs.Prelude.{MatchResult}
use Rattle.ods_paths.specs.Paths.{Within}
use Rattle.ods_paths.specs.Views.{folder, said_files}
use Rattle.ods_request.specs.declared.refusals.Refusal.TheVariants.{NotADirectory}
use Rattle.ods_shell.specs.declared.finding.FoundLines.{FoundLines}
use Rattle.ods_upkeep.specs.CopiedTree.{IsTreeSaid}
use Rattle.ods_upkeep.specs.UncopiedTree.{IsNoTreeSaid}
use Rattle.ods_upkeep.specs.declared.failure.Why.TheVariants.{Request}
use Rattle.ods_upkeep.proofs.copying_tree.tree_within.Goals as goal

pub returns-in-None : goal.returns-in-None
returns-in-None c =
    let I = c.args.other.now.image.now in
    let L = c.args.other.now.layout.now in
    subst (λ o. MatchResult c.find_below.result (λ (tree : FoundLines). IsTreeSaid I L (Within (folder c.args.folder.now) (said_files o)) tree.directories.items) (IsNoTreeSaid I L (Within (folder c.args.folder.now) (said_files o))))
    (sym c.in-None.is) c.find_below.ensures

pub returns-in-Some : goal.returns-in-Some
returns-in-Some c =
    subst (λ o. IsNoTreeSaid c.args.other.now.image.now c.args.other.now.layout.now (Within (folder c.args.folder.now) (said_files o)) (Request NotADirectory)) (sym c.in-Some.is) refl
