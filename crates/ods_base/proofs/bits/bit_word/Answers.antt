use Rattle.std.proofs.Common.{arith, ap, ◌∙◌}
use borrow.Rule.Slice.PartMut.{mid_of}
use Rattle.ods_base.proofs.BitWords.{word_bit}
use Rattle.ods_base.proofs.bits.bit_word.Goals as goal

pub returns : goal.returns
returns c = λ i small.
    word_bit c.args.block.now c.copy_from_slice.new.self c.from_le_bytes.result c.args.k _ i c.bytes.ensures.block (omega arith)
    (c.copy_from_slice.ensures.after ∙ ap (mid_of _ _) c.bytes.ensures.value) c.from_le_bytes.ensures small
