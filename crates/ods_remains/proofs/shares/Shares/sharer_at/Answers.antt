use Rattle.std.proofs.Common.{◌∙◌, ap, subst}
use Rattle.std.specs.Prelude.{slice_index}
use Rattle.ods_remains.specs.Shared.{IsSharerAt}
use Rattle.ods_remains.proofs.Sharing.{sharer_by}
use Rattle.ods_remains.proofs.shares.Shares.sharer_at.Goals as goal

pub returns : goal.returns
returns c =
    let D = c.self.inside.disk in
    let lbn = c.args.lbn in
    subst (λ d. IsSharerAt d.image d.layout c.args.number lbn c.other_of.result) c.self.view_is
    (sharer_by D.image.now D.layout.now c.self.inside.lowest.items c.self.inside.highest.items c.self.invariant.0 c.args.number lbn c.entry-low.result c.entry-high.result c.other_of.result
    (c.entry-low.ensures ∙ ap (λ xs. slice_index xs lbn) c.deref.ensures.value) (c.entry-high.ensures ∙ ap (λ xs. slice_index xs lbn) c.deref-2.ensures.value) c.other_of.ensures)
