use Rattle.std.proofs.Common.{◌≡◌, ◌∙◌, ◌++◌, ◌∷◌, [], arith, length, sym, ap}
use Rattle.std.specs.Prelude.{reverse}
use Rattle.std.proofs.lemmas.List.{append_assoc, append-nil, reverse-append}
use Rattle.fs_host.proofs.ListedTrees.{none_on_top}
use Rattle.fs_host.proofs.host_tree.put_on_top.Goals as goal

pub loop-folder-preserved : goal.loop-folder-preserved
loop-folder-preserved c =
    ap (λ l. l ++ reverse c.pop.new.self.items) c.in_ok-push.ensures
    ∙ append_assoc c.loop-folder.pile.items (c.in-Some.folder ∷ []) (reverse c.pop.new.self.items)
    ∙ ap (λ l. c.loop-folder.pile.items ++ l) (sym (ap reverse c.in-Some.ensures.items ∙ reverse-append c.pop.new.self.items (c.in-Some.folder ∷ [])))
    ∙ c.loop-folder.invariant

pub returns : goal.returns
returns c =
    let none : length c.loop-folder.below.items ≡ 0 = omega (arith, c.in_default.ensures.cases.0, c.loop-folder.below.ok.0) in
    sym (ap (λ l. c.loop-folder.pile.items ++ l) (none_on_top c.loop-folder.below.items none) ∙ append-nil c.loop-folder.pile.items) ∙ c.loop-folder.invariant
