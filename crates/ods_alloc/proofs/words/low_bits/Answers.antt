use Rattle.std.proofs.Common.{◌∙◌, ap, ◌-◌, nat_eq}
use Rattle.std.specs.Prelude.{bit_and}
use Rattle.std.specs.Int.{bit_at}
use Rattle.std.proofs.lemmas.Nat.{one_shl}
use Rattle.ods_alloc.proofs.WordBits.{low_bit}
use Rattle.ods_alloc.proofs.words.low_bits.Goals as goal

pub returns-then-count-lt64 : goal.returns-then-count-lt64
returns-then-count-lt64 c = λ i small.
    ap (λ n. nat_eq (bit_at (bit_and c.args.word (n - 1)) i) 1) (one_shl c.args.count 64 c.if-count-lt64.true) ∙ low_bit c.args.word c.args.count i
