-- A block that the image lacks is no header.
use Rattle.std.proofs.Common.{ℕ, ◌≤◌, [], refl, arith}
use Rattle.ods_base.specs.Block.{sum_of}
use Rattle.ods_header.specs.declared.header.HeaderFault.TheVariants.{WrongNumber}
use Rattle.ods_header.specs.Header.{IsFirstFault}

-- it reads as zeros, whose sum is right and whose number is none
pub wrong_number : (n : ℕ) → 1 ≤ n → IsFirstFault [] n WrongNumber
unfolding sum_of
wrong_number n some = (refl, λ zero_is. absurd (omega arith))
