use Rattle.std.proofs.Common.{◌≡◌, ◌+◌, ◌∙◌, ap, [], ◌∷◌, ◌++◌, sym, subst, take}
use Rattle.std.proofs.lemmas.List.{take_all, take_more}
use Rattle.ods_base.specs.declared.listed.Listed.{Listed}
use Rattle.ods_upkeep.specs.Versions.{AreHighestOf, version_in}
use Rattle.ods_upkeep.proofs.Noting.{highest_more, none_noted}
use Rattle.ods_upkeep.proofs.versions.Highest.of.Goals as goal

pub loop-entry-init : goal.loop-entry-init
loop-entry-init c = none_noted _ c.new.ensures.empty

pub loop-entry-preserved : goal.loop-entry-preserved
loop-entry-preserved c =
    let items = c.deref-entry-items.result.now in
    let k = c.loop-entry.entry-index in
    let e : Listed = c.entry-item.result in
    let more : take (k + 1) items ≡ take k items ++ e ∷ [] = take_more items k e c.loop-entry-test.true ∙ ap (λ x. take k items ++ x ∷ []) (sym c.entry-item.is) in
    subst (λ l. AreHighestOf l (version_in c.note.new.self)) (sym more) (highest_more (take k items) e c.loop-entry.highest c.note.new.self c.loop-entry.invariant c.in_ok-note.ensures)

pub returns : goal.returns
returns c =
    let items = c.deref-entry-items.result.now in
    let lines = c.in_ok-entries.entries.items in
    let whole : take c.loop-entry.entry-index items ≡ lines = take_all c.loop-entry.entry-index items c.loop-entry-test.false ∙ c.deref-entry-items.ensures.value in
    (lines, (c.in_ok-entries.ensures.there, c.in_ok-entries.ensures.none), subst (λ l. AreHighestOf l (version_in c.loop-entry.highest)) whole c.loop-entry.invariant)
