use Rattle.std.proofs.Common.{◌+◌, ◌*◌}
use Rattle.ods_base.specs.Block.{has_bit}
use Rattle.ods_alloc.proofs.Scans.{further}
use Rattle.ods_alloc.proofs.WordBits.{zero_word}
use Rattle.ods_alloc.proofs.words.first_word.Goals as goal

pub loop-j-preserved : goal.loop-j-preserved
loop-j-preserved c =
    let test = has_bit c.args.block.now in
    let j = c.loop-j.j in
    further test (64 * c.args.from) (64 * j) (64 * (j + 1)) c.loop-j.invariant (zero_word test j c.bit_word.result c.if-bit_word-ne0.false c.bit_word.ensures)
