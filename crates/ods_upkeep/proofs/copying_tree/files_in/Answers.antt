use Rattle.std.proofs.Common.{◌≡◌, ◌+◌, ◌∙◌, ap, sym, subst, [], ◌∷◌, ◌++◌, take}
use Rattle.std.proofs.lemmas.List.{take_all, take_more}
use Rattle.ods_base.specs.declared.listed.Listed.{Listed}
use Rattle.ods_upkeep.specs.CopiedTree.{AreFilesAt}
use Rattle.ods_upkeep.proofs.CopiedTrees.{files_more}
use Rattle.ods_upkeep.proofs.copying_tree.files_in.Goals as goal

pub loop-entry-preserved : goal.loop-entry-preserved
loop-entry-preserved c =
    let I = c.args.other.now.image.now in
    let L = c.args.other.now.layout.now in
    let items = c.deref-entry-items.result.now in
    let k = c.loop-entry.entry-index in
    let e : Listed = c.entry-item.result in
    let added = c.in_ok-add_file.ensures in
    let more : take (k + 1) items ≡ take k items ++ e ∷ [] = take_more items k e c.loop-entry-test.true ∙ ap (λ x. take k items ++ x ∷ []) (sym c.entry-item.is) in
    subst (λ l. AreFilesAt I L c.args.directory.now l c.add_file.new.files.items) (sym more)
    (files_more I L c.args.directory.now (take k items) c.loop-entry.files.items c.add_file.new.files.items e added.0 c.loop-entry.invariant added.1 added.2)

pub returns : goal.returns
returns c =
    let items = c.deref-entry-items.result.now in
    let lines = c.in_ok-entries.entries.items in
    let whole : take c.loop-entry.entry-index items ≡ lines = take_all c.loop-entry.entry-index items c.loop-entry-test.false ∙ c.deref-entry-items.ensures.value in
    (lines, (c.in_ok-entries.ensures.there, c.in_ok-entries.ensures.none), subst (λ l. AreFilesAt c.args.other.now.image.now c.args.other.now.layout.now c.args.directory.now l c.loop-entry.files.items) whole c.loop-entry.invariant)
