use Rattle.std.proofs.Common.{◌≡◌, ◌+◌, ◌-◌, ◌*◌, ◌<◌, ◌++◌, length, ◌∙◌, arith, length-append}
use borrow.Rule.Slice.PartMut.{put_mid}
use Rattle.ods_base.specs.Image.{image_bytes}
use Rattle.ods_base.proofs.Images.{length-concat}
use Rattle.ods_order.specs.Order.{block_count, sector_count, sector_size}
use Rattle.ods_order.proofs.Laying.{none_laid, next_laid, all_laid}
use Rattle.ods_order.proofs.writing.write_contained_volume.Goals as goal

pub loop-n-init : goal.loop-n-init
loop-n-init c = none_laid c.args.order c.args.container.now (image_bytes c.args.image.now ++ c.args.behind.now)

pub loop-n-preserved : goal.loop-n-preserved
loop-n-preserved c =
    let at = c.place-at.result in
    let inside : c.loop-n.n < sector_count c.args.order = omega (arith, c.loop-n-test.true, c.sector_count-n-end.ensures) in
    let size : at + c.sector_size-size.result - at ≡ sector_size c.args.order = omega (arith, c.sector_size-size.ensures) in
    next_laid c.args.order c.args.container.now (image_bytes c.args.image.now ++ c.args.behind.now) c.loop-n.container c.sector-sector.result.now
    (put_mid at (at + c.sector_size-size.result - at) c.loop-n.container c.copy_from_slice.new.self) c.loop-n.n c.requires.size inside
    (λ i. put_mid (c.place-at.ensures.value i) (size i) c.loop-n.container (c.copy_from_slice.ensures.after i)) c.sector-sector.ensures.value c.sector-sector.ensures.size c.loop-n.invariant

pub returns : goal.returns
returns c =
    let bytes = length-concat c.args.image.now c.len.ensures.image.blocks in
    let whole : length (image_bytes c.args.image.now ++ c.args.behind.now) ≡ 512 * block_count c.args.order =
    length-append (image_bytes c.args.image.now) c.args.behind.now ∙ omega (arith, bytes, c.requires.whole) in
    let all : c.loop-n.n ≡ sector_count c.args.order = omega (arith, c.loop-n-test.false, c.loop-n.auto.n-end, c.sector_count-n-end.ensures) in
    all_laid c.args.order c.args.container.now (image_bytes c.args.image.now ++ c.args.behind.now) c.loop-n.container c.loop-n.n all whole c.loop-n.invariant
