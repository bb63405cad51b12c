use Rattle.std.proofs.Common.{ℕ, List, [], ◌∷◌, ◌++◌, ap, sym, arith}
use Rattle.std.proofs.lemmas.Fmt.{decimal_digit}
use Rattle.std.specs.Prelude.{codes}
use Rattle.ods_cli.proofs.writing.line_of.Goals as goal

pub returns : goal.returns
returns c =
    ap (λ (digits : List ℕ). codes "session " ++ digits ++ 10 ∷ []) (sym (decimal_digit c.args.number (omega (arith, c.requires))))
