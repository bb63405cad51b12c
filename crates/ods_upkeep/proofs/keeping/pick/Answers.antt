use Rattle.std.proofs.Common.{◌≡◌, ◌+◌, ◌∙◌, [], ◌∷◌, ◌++◌, ap, sym, subst, take}
use Rattle.std.proofs.lemmas.List.{take_all, take_more}
use Rattle.ods_base.specs.declared.listed.Listed.{Listed}
use Rattle.ods_upkeep.specs.Before.{IsPicked}
use Rattle.ods_upkeep.proofs.Picking.{pick_more, pick_none}
use Rattle.ods_upkeep.proofs.keeping.pick.Goals as goal

pub loop-entry-init : goal.loop-entry-init
loop-entry-init c = pick_none c.args.said

pub loop-entry-preserved : goal.loop-entry-preserved
loop-entry-preserved c =
    let items = c.args.entries.now in
    let k = c.loop-entry.entry-index in
    let e : Listed = c.entry-item.result in
    let more : take (k + 1) items ≡ take k items ++ e ∷ [] = take_more items k e c.loop-entry-test.true ∙ ap (λ x. take k items ++ x ∷ []) (sym c.entry-item.is) in
    subst (λ l. IsPicked c.args.said l c.later-picked.result) (sym more) (subst (IsPicked c.args.said (take k items ++ e ∷ [])) (sym c.later-picked.ensures) (pick_more c.args.said (take k items) e c.loop-entry.picked c.loop-entry.invariant))

pub returns : goal.returns
returns c = subst (λ l. IsPicked c.args.said l c.loop-entry.picked) (take_all c.loop-entry.entry-index c.args.entries.now c.loop-entry-test.false) c.loop-entry.invariant
