use Rattle.std.proofs.Common.{◌≡◌, ◌+◌, ◌-◌, ◌*◌, ◌++◌, ◌∷◌, [], map, length, ap, sym, ◌∙◌, ◌≤◌, ◌^◌, subst, arith}
use Rattle.std.specs.Prelude.{slice_index}
use Rattle.std.specs.List.{range_with_len, sum}
use Rattle.std.proofs.lemmas.List.FromFn.{map-range_with_len_more}
use Rattle.ods_base.specs.Image.{block_at}
use Rattle.ods_alloc.specs.Counts.{free_in, free_counts, low_bits_set}
use Rattle.ods_alloc.proofs.Counted.{free_in_is, free_few}
use Rattle.ods_alloc.proofs.counting.count_blocks.Goals as goal

pub loop-k-preserved : goal.loop-k-preserved
loop-k-preserved c =
    let I = c.args.disk.now.image.now in
    let L = c.args.disk.now.layout.now in
    let k = c.loop-k.k in
    let few : c.few_of-few.result ≡ length I - 4096 * k = omega (arith, c.few_of-few.ensures, c.len-len.ensures.value) in
    let count = c.bits_at.ensures ∙ ap (λ n. low_bits_set n (block_at I (slice_index c.bitmap-bitmap.result.now (k + 1)))) few
    ∙ ap (λ l. low_bits_set (length I - 4096 * k) (block_at I (slice_index l (k + 1)))) c.bitmap-bitmap.ensures
    ∙ ap (λ n. low_bits_set (length I - 4096 * k) (block_at I (slice_index L.bitmap n))) (omega arith)
    ∙ sym (free_in_is I L k (omega (arith, c.loop-k-test.true, c.saturating_sub-k-end.ensures, ap length c.bitmap-bitmap.ensures))) in
    c.in_ok-push.ensures.items ∙ ap (λ l. l ++ c.bits_at.result ∷ []) c.loop-k.invariant ∙ ap (λ x. map (free_in I L) (range_with_len 0 k) ++ x ∷ []) count
    ∙ sym (map-range_with_len_more (free_in I L) 0 k k (omega arith))

pub returns-clause-counts : goal.returns-clause-counts
unfolding free_counts
returns-clause-counts c =
    let all : c.loop-k.k ≡ length c.args.disk.now.layout.now.bitmap - 1 = omega (arith, c.loop-k.auto.k-end, c.loop-k-test.false, c.saturating_sub-k-end.ensures, ap length c.bitmap-bitmap.ensures) in
    c.loop-k.invariant ∙ ap (λ n. map (free_in c.args.disk.now.image.now c.args.disk.now.layout.now) (range_with_len 0 n)) all

pub returns-clause-few : goal.returns-clause-few
returns-clause-few c =
    subst (λ xs. sum xs ≤ 2 ^ 20) (sym (returns-clause-counts c)) (omega (arith, free_few c.args.disk.now.image.now c.args.disk.now.layout.now, c.len-len.ensures.image.size))
