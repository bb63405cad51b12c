use Rattle.std.proofs.Common.{◌<◌, sym, subst, get_or, length, take}
use Rattle.std.proofs.lemmas.List.{take_more, take_all}
use Rattle.ods_remains.specs.Shared.{AreMarked}
use Rattle.ods_remains.proofs.FileFronts.{marked_begun, marked_step}
use Rattle.ods_remains.proofs.fronts.mark_all.Goals as goal

pub loop-header-init : goal.loop-header-init
loop-header-init c = marked_begun c.args.seen.now

pub loop-header-preserved : goal.loop-header-preserved
loop-header-preserved c =
    let headers = c.args.headers.now in
    let i = c.loop-header.header-index in
    let inside : i < length headers = c.loop-header-test.true in
    subst (λ xs. AreMarked xs c.args.seen.now c.mark.new.seen) (sym (take_more headers i 0 inside))
    (marked_step (take i headers) c.args.seen.now c.loop-header.seen (get_or headers i 0) c.mark.new.seen c.loop-header.invariant
    c.mark.ensures.size c.mark.ensures.only c.mark.ensures.kept c.mark.ensures.there)

pub returns : goal.returns
returns c =
    let headers = c.args.headers.now in
    subst (λ xs. AreMarked xs c.args.seen.now c.loop-header.seen) (take_all c.loop-header.header-index headers c.loop-header-test.false) c.loop-header.invariant
