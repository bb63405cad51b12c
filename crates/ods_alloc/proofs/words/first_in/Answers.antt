use Rattle.std.proofs.Common.{arith}
use Rattle.ods_alloc.proofs.WordBits.{none_in_word, next_in_word}
use Rattle.ods_alloc.proofs.words.first_in.Goals as goal

pub returns-then-rest-eq0-clause-none : goal.returns-then-rest-eq0-clause-none
returns-then-rest-eq0-clause-none c = λ test bits. none_in_word test c.args.at c.args.word (omega (arith, c.ranges.word.fits)) bits (omega arith)

pub returns-else-rest-eq0-clause-some : goal.returns-else-rest-eq0-clause-some
returns-else-rest-eq0-clause-some c = λ test bits. next_in_word test c.args.at c.args.word (omega (arith, c.ranges.word.fits)) bits (omega arith)
