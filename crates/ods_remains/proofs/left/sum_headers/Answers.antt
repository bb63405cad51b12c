use Rattle.std.proofs.Common.{◌≡◌, ◌++◌, ◌∷◌, [], sym, subst, get_or, length, take}
use Rattle.std.proofs.lemmas.List.{take_more, take_all}
use Rattle.std.proofs.lemmas.List.Elements.{Contains-get_or}
use Rattle.ods_remains.specs.Chains.{named_at}
use Rattle.ods_remains.specs.Deleted.{counted, former, used_again}
use Rattle.ods_remains.proofs.Summing.{blocks_on, used_on}
use Rattle.ods_remains.proofs.left.sum_headers.Goals as goal

pub left_at-requires-clause-deleted : goal.left_at-requires-clause-deleted
left_at-requires-clause-deleted c =
    let headers = c.args.headers.now in
    let i = c.loop-number.number-index in
    c.requires.deleted (get_or headers i 0) (Contains-get_or headers i 0 c.loop-number-test.true)

pub loop-number-preserved : goal.loop-number-preserved
loop-number-preserved c =
    let I = c.args.disk.now.image.now in
    let L = c.args.disk.now.layout.now in
    let headers = c.args.headers.now in
    let i = c.loop-number.number-index in
    let h = get_or headers i 0 in
    let more = take_more headers i 0 c.loop-number-test.true in
    let so = c.loop-number.invariant in
    let left = c.left_at.ensures in
    let sum = c.with-totals.ensures in (
      subst (λ xs. c.with-totals.result.blocks ≡ counted (length (named_at (former I L) xs))) (sym more)
          (blocks_on I L (take i headers) h c.loop-number.totals.blocks c.left_at.result.blocks c.with-totals.result.blocks so.0 left.blocks sum.blocks),
      subst (λ xs. c.with-totals.result.used ≡ counted (used_again I L (named_at (former I L) xs))) (sym more)
          (used_on I L (take i headers) h c.loop-number.totals.used c.left_at.result.used c.with-totals.result.used so.1 left.used sum.used),
    )

pub returns-clause-blocks : goal.returns-clause-blocks
returns-clause-blocks c =
    let D = c.args.disk.now in
    subst (λ xs. c.loop-number.totals.blocks ≡ counted (length (named_at (former D.image.now D.layout.now) xs))) (take_all c.loop-number.number-index c.args.headers.now c.loop-number-test.false) c.loop-number.invariant.0

pub returns-clause-used : goal.returns-clause-used
returns-clause-used c =
    let D = c.args.disk.now in
    subst (λ xs. c.loop-number.totals.used ≡ counted (used_again D.image.now D.layout.now (named_at (former D.image.now D.layout.now) xs))) (take_all c.loop-number.number-index c.args.headers.now c.loop-number-test.false)
    c.loop-number.invariant.1
