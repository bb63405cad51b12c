use Rattle.std.proofs.Common.{◌≡◌, ◌++◌, ◌∷◌, [], List, arith, refl, subst}
use Rattle.fs_host.specs.declared.host_tree.Pending.{Pending}
use Rattle.fs_host.specs.Trees.{ListsFolder}
use Rattle.fs_host.proofs.ListedTrees.{way_begun, way_ends, way_on}
use Rattle.fs_host.proofs.host_tree.list_tree.Goals as goal

pub folders-init : goal.folders-init
folders-init g c =
    let first : Pending = record { path = c.new.result; own = 0 } in
    let one : c.push.new.list.items ≡ first ∷ [] = subst (λ (l : List Pending). c.push.new.list.items ≡ l ++ first ∷ []) c.new-pile.ensures.items c.in_ok-push.ensures in
    way_begun c.push.new.list.items first c.new-listed.result.items c.new-listed.ensures.items one c.new.ensures.bytes refl

pub folders-preserved : goal.folders-preserved
folders-preserved g c =
    let folder = c.in-Some.folder in
    let rest = c.pop.new.self.items in
    let now = c.list_folder.new.listed.items in
    let now_pile = c.list_folder.new.pile.items in
    way_on c.folders.listed.items now c.folders.pile.items rest now_pile folder c.folders.invariant c.in-Some.ensures.items
    (subst (λ p. ListsFolder folder.own p c.folders.listed.items now rest now_pile) c.as_str.ensures.value c.in_ok-list_folder.ensures)

pub returns-in_default-clause-tree : goal.returns-in_default-clause-tree
returns-in_default-clause-tree g c = way_ends c.folders.listed.items c.folders.pile.items c.folders.invariant (omega (arith, c.in_default.ensures.cases.0, c.folders.pile.ok.0))
