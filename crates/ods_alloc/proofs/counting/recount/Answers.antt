use Rattle.std.proofs.Common.{◌∙◌, ◌<◌, sym, ap, length, subst, arith}
use Rattle.ods_base.specs.Image.{block_at}
use Rattle.ods_space.specs.Draft.{applied}
use Rattle.ods_space.proofs.Drafts.{block_at-applied}
use Rattle.ods_alloc.proofs.Recounted.{count_left, recount_begun, recount_done, recounted}
use Rattle.ods_alloc.proofs.counting.recount.Goals as goal

pub count_after-requires-clause-count : goal.count_after-requires-clause-count
count_after-requires-clause-count c =
    let I = c.args.disk.now.image.now in
    let place = c.place_in-lbn.ensures.value in
    count_left I c.args.draft.now c.args.disk.now.layout.now c.args.bitmap c.loop-k.k c.len-len.result c.loop-k.counts c.block-old.result.now (omega (arith, c.loop-k-test.true, c.size_of-size.ensures.value)) c.len-len.ensures.value
    c.loop-k.invariant.partly (c.block-old.ensures.value ∙ ap (block_at I) place)

pub loop-k-init : goal.loop-k-init
loop-k-init c =
    let first = c.requires.first in
    let high = first.within in
    record {
      partly = recount_begun c.args.disk.now.image.now c.args.draft.now c.args.disk.now.layout.now c.args.bitmap c.args.first c.args.counts.now c.requires.counts first;
      within = omega (arith, high, c.size_of-size.ensures.value);
      inside = λ low. first.inside (omega (arith, low, c.size_of-size.ensures.value));
    }

pub loop-k-preserved : goal.loop-k-preserved
loop-k-preserved c =
    let I = c.args.disk.now.image.now in
    let d = c.args.draft.now in
    let lbn = c.place_in-lbn.result in
    let next = c.next_changed-k.ensures in
    let high = next.within in
    let place = c.place_in-lbn.ensures.value in
    let inside : lbn < length I = subst (λ n. n < length I) (sym place) (c.loop-k.invariant.inside c.loop-k-test.true) in
    let read = c.block-new.ensures.value ∙ sym (block_at-applied I d lbn inside) ∙ ap (block_at (applied I d)) place in
    record {
      partly =
          recounted I d c.args.disk.now.layout.now c.args.bitmap c.loop-k.k c.next_changed-k.result c.len-len.result c.count_after.result c.loop-k.counts c.block-new.result.now (omega (arith, c.loop-k-test.true, c.size_of-size.ensures.value)) c.len-len.ensures.value
          c.loop-k.invariant.partly read c.count_after.ensures next;
      within = omega (arith, high, c.size_of-size.ensures.value);
      inside = λ low. next.inside (omega (arith, low, c.size_of-size.ensures.value));
    }

pub returns-clause-counts : goal.returns-clause-counts
returns-clause-counts c =
    recount_done c.args.disk.now.image.now c.args.draft.now c.args.disk.now.layout.now c.args.bitmap c.loop-k.k c.loop-k.counts (omega (arith, c.loop-k-test.false, c.size_of-size.ensures.value)) c.loop-k.invariant.partly
