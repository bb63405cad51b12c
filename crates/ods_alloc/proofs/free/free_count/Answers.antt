use Rattle.std.proofs.Common.{◌≡◌, ◌+◌, ◌*◌, length, ap, ◌∙◌, arith}
use Rattle.std.specs.List.{filter, range_with_len}
use Rattle.ods_space.specs.Free.{is_free_block, free_blocks}
use Rattle.ods_alloc.proofs.WordBits.{ones_is}
use Rattle.ods_alloc.proofs.Scans.{filter_few, count_cut, count_all}
use Rattle.ods_alloc.proofs.FreeTests.{not_free_past}
use Rattle.ods_alloc.proofs.free.free_count.Goals as goal

pub overflow_add-count : goal.overflow_add-count
overflow_add-count c =
    let p = is_free_block c.args.disk.now.image.now c.args.disk.now.layout.now in
    let ones = ones_is 64 c.free_word.result (64 * c.loop-k.k) p c.free_word.type_inv c.free_word.ensures in
    let few = c.len.ensures.image.size in
    omega (arith, c.loop-k.invariant, ones, filter_few p 0 (64 * c.loop-k.k), filter_few p (64 * c.loop-k.k) 64)

pub loop-k-preserved : goal.loop-k-preserved
loop-k-preserved c =
    let p = is_free_block c.args.disk.now.image.now c.args.disk.now.layout.now in
    let k = c.loop-k.k in
    let ones = ones_is 64 c.free_word.result (64 * k) p c.free_word.type_inv c.free_word.ensures in
    let more : 64 * k + 64 ≡ 64 * (k + 1) = omega arith in
    omega (arith, c.loop-k.invariant, ones, count_cut p (64 * k) 64) ∙ ap (λ n. length (filter p (range_with_len 0 n))) more

pub returns : goal.returns
unfolding free_blocks
returns c =
    let p = is_free_block c.args.disk.now.image.now c.args.disk.now.layout.now in
    let n = length c.args.disk.now.image.now in
    let size = c.len.ensures.value in
    c.loop-k.invariant ∙ count_all p n (64 * c.loop-k.k) (omega (arith, c.div_ceil-k-end.ensures, c.loop-k-test.false)) (λ k above. not_free_past c.args.disk.now.image.now c.args.disk.now.layout.now k above)
