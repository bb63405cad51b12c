use Rattle.std.proofs.Common.{◌∙◌, ap, subst, refl, arith}
use Rattle.std.proofs.lemmas.List.{take_all}
use Rattle.ods_space.specs.Draft.{Changes, IsNextChange}
use Rattle.ods_space.specs.Changes.{changes_of}
use Rattle.ods_space.proofs.Drafts.{next_more}
use Rattle.ods_space.proofs.draft.Draft.next_change.Goals as goal

pub loop-change-init : goal.loop-change-init
loop-change-init c = record { above = c.requires; below = omega arith; passed = λ x above below. refl; stops = λ less. absurd (omega arith) }

pub next-at-requires : goal.next-at-requires
next-at-requires c = c.loop-change.invariant.above

pub loop-change-preserved : goal.loop-change-preserved
loop-change-preserved c =
    next_more c.deref-change-items.result.now c.loop-change.change-index c.change-item.result c.args.from c.args.to c.loop-change.at c.next-at.result c.loop-change-test.true c.change-item.is c.loop-change.invariant c.next-at.ensures

pub returns : goal.returns
returns c =
    let P : Changes → Type 0 = λ d. IsNextChange d c.args.from c.args.to c.loop-change.at in
    subst P (ap changes_of (take_all c.loop-change.change-index c.deref-change-items.result.now c.loop-change-test.false ∙ c.deref-change-items.ensures.value) ∙ c.self.view_is) c.loop-change.invariant
