-- Lists of words that are compared.
use Rattle.std.proofs.Common.{◌≡◌, ℕ, Bool, true, false, List, nat_eq, sym, ◌∙◌}
use Rattle.std.specs.Prelude.{MatchBool}
use Rattle.std.specs.Cmp.Lexicographic.{pointwise, bytes_decides}

-- a comparison tells whether the lists are one
pub same_words : (xs ys zs : List ℕ) (b : Bool) → zs ≡ xs → b ≡ pointwise nat_eq zs ys → MatchBool b (xs ≡ ys) (¬ (xs ≡ ys))
same_words xs ys zs true same is = sym same ∙ (bytes_decides zs ys).0 (sym is)
same_words xs ys zs false same is = λ e. (let clash : false ≡ true = is ∙ (bytes_decides zs ys).1 (same ∙ e) in cc)
