use Rattle.std.proofs.Common.{◌≡◌, ◌*◌, ◌<◌, min, length, take, ◌+◌, arith}
use Rattle.ods_base.specs.Image.{image_bytes}
use Rattle.ods_files.specs.Body.{padded}
use Rattle.ods_files.proofs.FirstBytes.{next_at}
use Rattle.ods_files.proofs.Sames.{same_on, other_part}
use Rattle.ods_files.proofs.comparing.have_same_first.Goals as goal

pub loop-k-preserved : goal.loop-k-preserved
loop-k-preserved c =
    let under : 512 * c.loop-k.k < c.args.size = omega (arith, c.loop-k-test.true, c.div_ceil-k-end.ensures) in
    let first : c.loop-k.k < length c.args.lbns.now = omega (arith, c.loop-k-test.true, c.div_ceil-k-end.ensures, c.requires.size) in
    let second : c.loop-k.k < length c.args.others.now = omega (arith, c.loop-k-test.true, c.div_ceil-k-end.ensures, c.requires.others) in
    let p = next_at c.args.image.now c.args.lbns.now c.loop-k.k 0 c.args.size c.min-count.result c.block_or_zeros-one.result.now c.len.ensures.image.blocks first under
    (omega (arith, c.min-count.ensures)) c.block_or_zeros-one.ensures in
    let q = next_at c.args.other.now c.args.others.now c.loop-k.k 0 c.args.size c.min-count.result c.block_or_zeros-another.result.now c.len-2.ensures.image.blocks second under
    (omega (arith, c.min-count.ensures)) c.block_or_zeros-another.ensures in
    same_on (take c.args.size (image_bytes (padded c.args.image.now c.args.lbns.now))) (take c.args.size (image_bytes (padded c.args.other.now c.args.others.now)))
    (min (512 * c.loop-k.k) c.args.size) c.min-count.result c.block_or_zeros-one.result.now c.block_or_zeros-another.result.now p.0 q.0 c.loop-k.invariant
    (min (512 * (c.loop-k.k + 1)) c.args.size) p.1 (c.if-not-have_same_front.ensures)

pub returns-then-not-have_same_front : goal.returns-then-not-have_same_front
returns-then-not-have_same_front c =
    let under : 512 * c.loop-k.k < c.args.size = omega (arith, c.loop-k-test.true, c.div_ceil-k-end.ensures) in
    let first : c.loop-k.k < length c.args.lbns.now = omega (arith, c.loop-k-test.true, c.div_ceil-k-end.ensures, c.requires.size) in
    let second : c.loop-k.k < length c.args.others.now = omega (arith, c.loop-k-test.true, c.div_ceil-k-end.ensures, c.requires.others) in
    let p = next_at c.args.image.now c.args.lbns.now c.loop-k.k 0 c.args.size c.min-count.result c.block_or_zeros-one.result.now c.len.ensures.image.blocks first under
    (omega (arith, c.min-count.ensures)) c.block_or_zeros-one.ensures in
    let q = next_at c.args.other.now c.args.others.now c.loop-k.k 0 c.args.size c.min-count.result c.block_or_zeros-another.result.now c.len-2.ensures.image.blocks second under
    (omega (arith, c.min-count.ensures)) c.block_or_zeros-another.ensures in
    other_part (take c.args.size (image_bytes (padded c.args.image.now c.args.lbns.now))) (take c.args.size (image_bytes (padded c.args.other.now c.args.others.now)))
    (min (512 * c.loop-k.k) c.args.size) c.min-count.result c.block_or_zeros-one.result.now c.block_or_zeros-another.result.now p.0 q.0 c.loop-k.invariant
    c.if-not-have_same_front.ensures
