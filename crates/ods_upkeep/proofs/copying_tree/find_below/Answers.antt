use Rattle.std.proofs.Common.{rules, ◌≡◌, [], List, true, refl, subst, inl, inr}
use Rattle.std.proofs.lemmas.Result.{err_from_is_err_and}
use Rattle.ods_paths.specs.Paths.{Folder}
use Rattle.ods_paths.specs.Views.{folder}
use Rattle.ods_shell.specs.Ways.{AreMeant}
use Rattle.ods_shell.specs.declared.folders.Directory.{Directory}
use Rattle.ods_upkeep.proofs.CopiedTrees.{no_items}
use Rattle.ods_upkeep.proofs.copying_tree.find_below.Goals as goal

pub returns : goal.returns
returns c = c.in_ok-tree.ensures.directories [] (inl refl)

pub returns-then-is_empty : goal.returns-then-is_empty
returns-then-is_empty c =
    let I = c.args.other.now.image.now in
    let L = c.args.other.now.layout.now in
    let below : Folder = record (folder c.args.folder.now) { below = true } in
    let none : c.in_ok-tree.tree.directories.items ≡ [] = search (rules, no_items) in
    inl (refl, subst (λ (ds : List Directory). AreMeant I L [] below ds) none (c.in_ok-tree.ensures.directories [] (inl refl)))

pub returns-in_err-tree : goal.returns-in_err-tree
returns-in_err-tree c = let p = err_from_is_err_and c.from_residual.result c.from_residual.ensures.1 in rw (p.1, p.2) (inr refl)
