use Rattle.std.proofs.Common.{List, ℕ, inl, subst}
use Rattle.std.proofs.lemmas.Result.{err_from_is_err_and}
use Rattle.fs_words.specs.Asked.{IsSize}
use Rattle.fs_words.specs.Refused.{SpellsNone}
use Rattle.fs_words.proofs.commands.init.action.Goals as goal

pub returns-in_err-blocks-clause-refused : goal.returns-in_err-blocks-clause-refused
returns-in_err-blocks-clause-refused c =
    let p = err_from_is_err_and c.from_residual.result c.from_residual.ensures.1 in
    rw (p.1, p.2) (λ other. inl (subst (λ (t : List ℕ). SpellsNone IsSize t) c.size_in-size.ensures (c.in_err-blocks.ensures.refused other)))
