use Rattle.std.proofs.Common.{◌≡◌, ℕ, List, ◌+◌, ◌*◌, length, refl, subst, arith}
use Rattle.std.specs.List.{filter, range_with_len}
use Rattle.ods_alloc.specs.Counts.{IsCountedTo, is_low_bit}
use Rattle.ods_alloc.proofs.Counted.{few_bits, same_word, some_bits, word_more, word_range}
use Rattle.ods_alloc.proofs.counting.words_after.Goals as goal
use Rattle.ods_alloc.proofs.counting.words_after.Goals.{then-was-is, else-was-is}

-- what is counted in the first words of a block
abbrev so_far : ℕ → List ℕ → ℕ → ℕ
so_far few b j = length (filter (is_low_bit few b) (range_with_len 0 (64 * j)))

pub overflow_add-j-end : goal.overflow_add-j-end
overflow_add-j-end c = omega (arith, c.requires.first)

pub bit_word-was-requires : goal.bit_word-was-requires
bit_word-was-requires c = omega (arith, c.requires.first, c.loop-j-test.true)

pub bit_word-is-requires : goal.bit_word-is-requires
bit_word-is-requires c = omega (arith, c.requires.first, c.loop-j-test.true)

pub overflow_mul-j : goal.overflow_mul-j
overflow_mul-j c = omega (arith, c.requires.first, c.loop-j-test.true)

pub overflow_add-count : goal.overflow_add-count
overflow_add-count c =
    let few = c.args.few in
    let b = c.args.new.now in
    let j = c.loop-j.j in
    let more = word_more b few j c.bit_word-is.result c.low_bits.result c.saturating_sub-left.result (so_far few b j) c.saturating_sub-left.ensures c.low_bits.type_inv c.bit_word-is.ensures c.low_bits.ensures refl in
    omega (arith, c.loop-j.invariant, more, few_bits few c.args.old.now 4096, few_bits few b (64 * (j + 1)), c.loop-j-test.true, c.requires.first)

pub overflow_sub-count : goal.overflow_sub-count
overflow_sub-count c =
    let few = c.args.few in
    let b = c.args.old.now in
    let j = c.loop-j.j in
    let low = c.low_bits-then-was-is in
    let more = word_more b few j c.bit_word-was.result low.result c.saturating_sub-left.result (so_far few b j) c.saturating_sub-left.ensures low.type_inv c.bit_word-was.ensures low.ensures refl in
    omega (arith, c.loop-j.invariant, more, some_bits few b (64 * (j + 1)) (omega (arith, c.loop-j-test.true, c.requires.first)))

pub loop-j-preserved : goal.loop-j-preserved
loop-j-preserved c =
    let few = c.args.few in
    let old = c.args.old.now in
    let new = c.args.new.now in
    let j = c.loop-j.j in
    let was = c.bit_word-was in
    let is = c.bit_word-is in
    elim c.if-was-is.branch [
      | then-was-is w ↦
          let left = w.saturating_sub-left in
          let low = w.low_bits in
          let before = w.low_bits-then-was-is in
          let more = word_more new few j is.result low.result left.result (so_far few new j) left.ensures low.type_inv is.ensures low.ensures refl in
          let less = word_more old few j was.result before.result left.result (so_far few old j) left.ensures before.type_inv was.ensures before.ensures refl in
          omega (arith, w.count-is, c.loop-j.invariant, more, less, some_bits few old (64 * (j + 1)) (omega (arith, c.loop-j-test.true, c.requires.first)))
      | else-was-is w ↦
          omega (arith, w.count-is, c.loop-j.invariant, word_range old few j, word_range new few j, same_word old new few j was.result is.result w.if-was-is.false was.ensures is.ensures)
    ]

pub returns : goal.returns
returns c =
    let few = c.args.few in
    let end = c.loop-j.auto.j-end (omega arith) in
    let all : c.loop-j.j ≡ c.args.first + 8 = omega (arith, end, c.loop-j-test.false) in
    subst (λ n. IsCountedTo few c.args.old.now c.args.new.now n c.loop-j.count) all c.loop-j.invariant
