use Rattle.std.proofs.Common.{◌≡◌, ◌+◌, ◌*◌, ◌/◌, ◌%◌, ◌≤◌, length, ap, ◌∙◌, arith}
use Rattle.std.specs.Prelude.{count_ones}
use Rattle.std.specs.List.{filter, range_with_len}
use Rattle.ods_alloc.specs.Counts.{is_low_bit}
use Rattle.ods_alloc.proofs.Counted.{word_more, whole_word, few_bits, bits_end}
use Rattle.ods_alloc.proofs.counting.bits_set.Goals as goal
use Rattle.ods_alloc.proofs.counting.bits_set.Goals.{After-bit_word, After-low_bits}

-- the bits of one whole word more
one_more : (c : After-bit_word) → c.loop-j.count + count_ones c.bit_word.result ≡ length (filter (is_low_bit c.args.few c.args.block.now) (range_with_len 0 (64 * (c.loop-j.j + 1))))
one_more c =
    let whole : 64 * (c.loop-j.j + 1) ≤ c.args.few = omega (arith, c.loop-j-test.true, c.min-j-end.ensures) in
    whole_word c.args.block.now c.args.few c.loop-j.j c.bit_word.result c.loop-j.count whole c.bit_word.type_inv c.bit_word.ensures c.loop-j.invariant

-- and those of the last one
last_more : (c : After-low_bits) → c.loop-j.count + count_ones c.low_bits.result ≡ length (filter (is_low_bit c.args.few c.args.block.now) (range_with_len 0 (64 * (c.args.few / 64 + 1))))
last_more c =
    let b = c.args.block.now in
    let few = c.args.few in
    let at : c.loop-j.j ≡ few / 64 = omega (arith, c.loop-j-test.false, c.loop-j.auto.j-end, c.min-j-end.ensures, c.if-whole-lt64.true) in
    word_more b few (few / 64) c.bit_word-then-whole-lt64.result c.low_bits.result (few % 64) c.loop-j.count (omega arith) c.low_bits.type_inv c.bit_word-then-whole-lt64.ensures c.low_bits.ensures
    (c.loop-j.invariant ∙ ap (λ j. length (filter (is_low_bit few b) (range_with_len 0 (64 * j)))) at)

pub overflow_add-count : goal.overflow_add-count
overflow_add-count c = omega (arith, one_more c, few_bits c.args.few c.args.block.now (64 * (c.loop-j.j + 1)), c.loop-j-test.true, c.min-j-end.ensures)

pub loop-j-preserved : goal.loop-j-preserved
loop-j-preserved c = one_more c

pub overflow_add-count-then-whole-lt64 : goal.overflow_add-count-then-whole-lt64
overflow_add-count-then-whole-lt64 c = omega (arith, last_more c, few_bits c.args.few c.args.block.now (64 * (c.args.few / 64 + 1)), c.if-whole-lt64.true)

pub returns-then-whole-lt64 : goal.returns-then-whole-lt64
returns-then-whole-lt64 c = last_more c ∙ bits_end c.args.few c.args.block.now (64 * (c.args.few / 64 + 1)) (omega arith) (omega (arith, c.if-whole-lt64.true))

pub returns-else-whole-lt64 : goal.returns-else-whole-lt64
returns-else-whole-lt64 c =
    let all : 64 * c.loop-j.j ≡ 4096 = omega (arith, c.loop-j-test.false, c.loop-j.auto.j-end, c.min-j-end.ensures, c.if-whole-lt64.false) in
    c.loop-j.invariant ∙ ap (λ n. length (filter (is_low_bit c.args.few c.args.block.now) (range_with_len 0 n))) all
