use Rattle.std.proofs.Common.{◌∙◌, sym, subst}
use Rattle.std.specs.Prelude.{IfSome}
use Rattle.ods_space.specs.Draft.{applied}
use Rattle.ods_space.specs.Files.{AreInside}
use Rattle.ods_look.specs.Blocks.{AreTaggedBlocks}
use Rattle.ods_state.specs.Noted.{AreNamesKnown}
use Rattle.ods_volume.proofs.NamesThen.{inside_known, known_then, spared_then}
use Rattle.ods_volume.proofs.noted.retagged.Goals as goal

pub retag-requires-clause-inside : goal.retag-requires-clause-inside
retag-requires-clause-inside c =
    let known = subst (λ o. IfSome o (AreNamesKnown c.args.disk.now.image.now c.args.disk.now.layout.now)) c.in-Some.is c.requires in
    subst (AreInside c.args.disk.now.image.now) (sym c.deref.ensures.value) (inside_known known)

pub returns-then-is_spared : goal.returns-then-is_spared
returns-then-is_spared c = λ M strikes.
    let known = subst (λ o. IfSome o (AreNamesKnown c.args.disk.now.image.now c.args.disk.now.layout.now)) c.in-Some.is c.requires in
    spared_then known (applied c.args.disk.now.image.now c.args.draft.now) M c.args.falls strikes (sym c.is_left.ensures ∙ c.if-not-is_left.false) (sym c.is_spared.ensures ∙ c.if-is_spared.true)

pub returns : goal.returns
returns c = λ M strikes.
    let I = c.args.disk.now.image.now in
    let known = subst (λ o. IfSome o (AreNamesKnown I c.args.disk.now.layout.now)) c.in-Some.is c.requires in
    known_then known (applied I c.args.draft.now) M c.args.falls strikes (sym c.is_left.ensures ∙ c.if-not-is_left.false) c.retag.new.tags.items
    (subst (λ l. AreTaggedBlocks (applied I c.args.draft.now) l c.retag.new.tags.items) c.deref.ensures.value c.retag.ensures)
