use Rattle.std.proofs.Common.{◌-◌, set, subst, arith}
use Rattle.ods_space.specs.Draft.{Changes, ChangesBit}
use Rattle.ods_space.specs.Changes.{changes_of}
use Rattle.ods_space.proofs.Drafts.{bit_renewed}
use Rattle.ods_space.proofs.draft.Draft.put_bit.Goals as goal

pub returns-then-is_of-clause-ok : goal.returns-then-is_of-clause-ok
returns-then-is_of-clause-ok c =
    let cs = c.self.inside.changes.items in
    let f = c.set_bit.new.self in
    let e : Changes = changes_of (set cs (c.len-count.result - 1) (record { filling = f; run = c.index_mut.result.now.run })) in
    let P : Changes → Type 0 = λ d. ChangesBit c.args.image.now d c.args.lbn c.args.i c.args.value e in
    subst P c.self.view_is
    (bit_renewed cs c.len-count.result c.args.lbn c.index.result.now c.index_mut.result.now c.if-count-gt0.true (omega (arith, c.len-count.ensures)) c.index.ensures c.index_mut.ensures.value
    (c.is_of.ensures c.if-is_of.true) f c.args.image.now c.args.i c.args.value c.set_bit.ensures)
