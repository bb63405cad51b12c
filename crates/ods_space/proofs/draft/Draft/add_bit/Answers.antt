use Rattle.std.proofs.Common.{◌++◌, ◌∷◌, [], refl, ap, ◌∙◌, set, subst, arith}
use Rattle.ods_space.specs.Draft.{Changes, ChangesBit, seen_at}
use Rattle.ods_space.specs.Changes.{changes_of}
use Rattle.ods_space.specs.declared.draft.Change.{Change}
use Rattle.ods_space.proofs.Drafts.{bit_added}
use Rattle.ods_space.proofs.draft.Draft.add_bit.Goals as goal

pub returns-clause-ok : goal.returns-clause-ok
returns-clause-ok c =
    let cs = c.self.inside.changes.items in
    let f = c.set_bit.new.self in
    let new : Change = record { filling = c.of-filling.result; run = record { lbn = c.args.lbn; count = 1 } } in
    let e : Changes = changes_of (set c.push_reserved.new.self.items c.len-count.result (record { filling = f; run = c.index_mut.result.now.run })) in
    let P : Changes → Type 0 = λ d. ChangesBit c.args.image.now d c.args.lbn c.args.i c.args.value e in
    subst P c.self.view_is
    (bit_added cs c.push_reserved.new.self.items c.len-count.result c.args.lbn new c.index_mut.result.now f c.args.image.now c.args.i c.args.value
    (c.push_reserved.ensures.items ∙ ap (λ xs. xs ++ new ∷ []) c.in_ok-reserve.ensures.items)
    (omega (arith, c.len-count.ensures)) c.index_mut.ensures.value (refl, refl)
    (ap (λ x. x.0) c.of-filling.ensures ∙ c.block.ensures.value ∙ ap (λ xs. seen_at c.args.image.now (changes_of xs) c.args.lbn) c.in_ok-reserve.ensures.items) c.set_bit.ensures)
