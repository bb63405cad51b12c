-- What the place of the first byte that passes says of the cut there.
use Rattle.std.proofs.Common.{◌≡◌, ℕ, ◌+◌, Bool, List, length, take, drop, sym, ap, ◌∙◌}
use Rattle.std.specs.Prelude.{◌-◌}
use Rattle.std.specs.List.{position_or_len, before_first, after_first}
use Rattle.std.proofs.lemmas.List.{take_rest}
use Rattle.std.proofs.lemmas.List.Sums.{position_or_len_is}
use Rattle.ods_text.specs.Cuts.{IsFirst}

pub first_is : (p : ℕ → Bool) (text : List ℕ) (n : ℕ) → IsFirst p text n → position_or_len p text ≡ n
first_is p text n f = position_or_len_is p text n 0 f.within f.before f.found

-- what stands before it
pub front_is : (p : ℕ → Bool) (text : List ℕ) (n : ℕ) → IsFirst p text n → take n text ≡ before_first p text
front_is p text n f = ap (λ k. take k text) (sym (first_is p text n f))

-- what stands behind it
pub back_is : (p : ℕ → Bool) (text : List ℕ) (n : ℕ) → IsFirst p text n → take (length text - (n + 1)) (drop (n + 1) text) ≡ after_first p text
back_is p text n f = take_rest text (n + 1) ∙ ap (λ k. drop (k + 1) text) (sym (first_is p text n f))
