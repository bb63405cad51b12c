use Rattle.std.proofs.Common.{rules, ◌≡◌, Some, codes}
use Rattle.std.proofs.lemmas.Result.{err_from_is_err_and}
use Rattle.fs_words.specs.Asked.{text_of}
use Rattle.fs_words.specs.Users.{IsSaid}
use Rattle.fs_words.proofs.Refusing.{unspelled}
use Rattle.fs_words.proofs.commands.chown.action.Goals as goal

pub returns-in_err-owner-clause-refused : goal.returns-in_err-owner-clause-refused
returns-in_err-owner-clause-refused c =
    let p = err_from_is_err_and c.from_residual-in_err-owner.result c.from_residual-in_err-owner.ensures.1 in
    let text : text_of c.args.own.now (codes "owner") ≡ Some c.in-Some.text.now = search rules in
    rw (p.1, p.2) (λ other. unspelled IsSaid _ c.in-Some.text.now text (c.in_err-owner.ensures.refused other))
