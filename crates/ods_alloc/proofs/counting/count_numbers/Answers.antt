use Rattle.std.proofs.Common.{◌≡◌, ◌-◌, ◌++◌, ◌∷◌, [], map, ap, sym, ◌∙◌, arith}
use Rattle.std.specs.List.{range_with_len}
use Rattle.std.proofs.lemmas.List.FromFn.{map-range_with_len_more}
use Rattle.ods_base.specs.Image.{block_at}
use Rattle.ods_alloc.specs.Counts.{clear_in, clear_counts, index_lbn}
use Rattle.ods_alloc.proofs.Counted.{clear_in_is, few_bits}
use Rattle.ods_alloc.proofs.counting.count_numbers.Goals as goal

pub overflow_sub-bits_at : goal.overflow_sub-bits_at
overflow_sub-bits_at c = omega (arith, c.bits_at.ensures, few_bits 4096 (block_at c.args.image.now (index_lbn c.args.home.now c.loop-k.k)) 4096)

pub loop-k-preserved : goal.loop-k-preserved
loop-k-preserved c =
    let I = c.args.image.now in
    let h = c.args.home.now in
    let k = c.loop-k.k in
    let count = ap (λ n. 4096 - n) c.bits_at.ensures ∙ sym (clear_in_is I h k c.loop-k-test.true) in
    c.in_ok-push.ensures.items ∙ ap (λ l. l ++ (4096 - c.bits_at.result) ∷ []) c.loop-k.invariant ∙ ap (λ x. map (clear_in I h) (range_with_len 0 k) ++ x ∷ []) count
    ∙ sym (map-range_with_len_more (clear_in I h) 0 k k (omega arith))

pub returns : goal.returns
unfolding clear_counts
returns c =
    let all : c.loop-k.k ≡ c.args.home.now.index_bitmap_size = omega (arith, c.loop-k.auto.k-end, c.loop-k-test.false) in
    c.loop-k.invariant ∙ ap (λ n. map (clear_in c.args.image.now c.args.home.now) (range_with_len 0 n)) all
