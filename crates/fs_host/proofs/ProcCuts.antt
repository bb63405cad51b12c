-- What the index of the first blank states about the cut there.
use Rattle.std.proofs.Common.{◌≡◌, ℕ, ◌+◌, List, length, take, drop, sym, ap, ◌∙◌, arith}
use Rattle.std.specs.Prelude.{◌-◌}
use Rattle.std.specs.List.{position_or_len}
use Rattle.std.proofs.lemmas.List.{take_rest, drop_all}
use Rattle.std.proofs.lemmas.List.Sums.{position_or_len_is}
use Rattle.fs_host.specs.ProcTexts.{is_blank, IsFirstBlank, first_word, later_words}

pub first_is : (text : List ℕ) (n : ℕ) → IsFirstBlank text n → position_or_len is_blank text ≡ n
first_is text n f = position_or_len_is is_blank text n 0 f.within f.before f.found

-- the text before it
pub front_is : (text : List ℕ) (n : ℕ) → IsFirstBlank text n → take n text ≡ first_word text
front_is text n f = ap (λ k. take k text) (sym (first_is text n f))

-- the text after it
pub back_is : (text : List ℕ) (n : ℕ) → IsFirstBlank text n → take (length text - (n + 1)) (drop (n + 1) text) ≡ later_words text
back_is text n f = take_rest text (n + 1) ∙ ap (λ k. drop (k + 1) text) (sym (first_is text n f))

-- no text is after it if there is none
pub none_after : (text : List ℕ) (n : ℕ) → IsFirstBlank text n → n ≡ length text → take (length text - n) (drop n text) ≡ later_words text
none_after text n f e =
    take_rest text n ∙ drop_all n text (omega (arith, e))
    ∙ sym (drop_all (position_or_len is_blank text + 1) text (omega (arith, e, first_is text n f)))
