use Rattle.std.proofs.Common.{◌≢◌, ℕ, ◌∙◌, List, [], ◌∷◌, length, inr, refl, arith}
use Rattle.std.specs.List.{Contains}
use Rattle.std.proofs.lemmas.Result.{err_from_is_err_and}
use Rattle.ods_repair.proofs.used.find_marks.Goals as goal

-- a list with a length has something
some_in : (xs : List ℕ) → length xs ≢ 0 → (x : ℕ) × Contains xs x
some_in [] some = absurd (some refl)
some_in (x ∷ xs) some = (x, (0, omega (arith), refl))

pub returns-in_err-check_spare-clause-left : goal.returns-in_err-check_spare-clause-left
returns-in_err-check_spare-clause-left c =
    let xs = c.in_ok-blocks.blocks.items in
    let some : length xs ≢ 0 = (let size = c.len.ensures ∙ c.in_ok-blocks.blocks.ok.0 in let test = c.if-len-eq0.false in λ none. test (size ∙ none)) in
    let one = some_in xs some in
    let p = err_from_is_err_and c.from_residual-in_err-check_spare.result c.from_residual-in_err-check_spare.ensures.1 in
    rw p.1 (inr (one.0, (c.in_ok-blocks.ensures.all one.0).0 one.1))
