-- A block whose sum is made anew.
use Rattle.std.proofs.Common.{◌≡◌, ℕ, ◌<◌, List, length, sym, ap, ◌∙◌, arith}
use Rattle.ods_base.specs.Block.{byte, word, sum_of}
use Rattle.ods_base.proofs.Blocks.{byte-with_word_before, word-with_word, sum_of_same}
use Rattle.ods_header.specs.Writing.{with_sum}

-- each byte before the sum stays
pub before_sum : (b c : List ℕ) (i : ℕ) → c ≡ with_sum b → i < 510 → byte c i ≡ byte b i
before_sum b c i is below = ap (λ l. byte l i) is ∙ byte-with_word_before b 255 (sum_of b 255) i (omega arith)

pub sum_is_right : (b c : List ℕ) → length b ≡ 512 → c ≡ with_sum b → word c 255 ≡ sum_of c 255
sum_is_right b c size is =
    ap (λ l. word l 255) is ∙ word-with_word b 255 (sum_of b 255) (omega arith) ∙ sym (sum_of_same c b 255 (λ i below. before_sum b c i is (omega arith)))
