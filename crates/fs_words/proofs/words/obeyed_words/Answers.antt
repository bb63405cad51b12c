use Rattle.std.proofs.Common.{map, refl, subst}
use Rattle.std.proofs.lemmas.Result.{err_from_is_err_and}
use Rattle.fs_words.specs.Parses.{IsParseOf}
use Rattle.fs_words.specs.Refused.{HasReason, IsNoCommand, command_refused, unasked, wrong_beside}
use Rattle.fs_words.specs.Rules.{whole_app}
use Rattle.fs_words.proofs.Refusing.{clap_refuses, reason_of, reasons_of}
use Rattle.fs_words.proofs.words.obeyed_words.Goals as goal

pub returns-in-Err-clause-refused : goal.returns-in-Err-clause-refused
returns-in-Err-clause-refused g c =
    subst (λ ws. HasReason (IsNoCommand c.args.verb (map g.S.AsStr.text ws) c.args.before) c.in_ok-tell-in-Err.field-0) c.behind_first.ensures
    (reason_of c.in_ok-tell-in-Err.field-0 (clap_refuses (whole_app c.args.verb) (map g.S.AsStr.text c.behind_first.result.now) c.in-Err.error c.in_ok-tell-in-Err.field-0 c.in_ok-tell-in-Err.ensures c.in-Err.ensures.refused c.in-Err.ensures.kinds) command_refused)

pub returns-in_err-action-clause-refused : goal.returns-in_err-action-clause-refused
returns-in_err-action-clause-refused g c =
    let p = err_from_is_err_and c.from_residual-in_err-action.result c.from_residual-in_err-action.ensures.1 in
    rw (p.1, p.2) (λ other. unasked (record { ref_ptr = c.args.image.ref_ptr; now = c.in-Ok.own }) (subst (λ ws. IsParseOf (whole_app c.args.verb) (map g.S.AsStr.text ws) c.in-Ok.own) c.behind_first.ensures c.in-Ok.ensures.found) (c.in_err-action.ensures.refused other))

pub returns-clause-refused : goal.returns-clause-refused
returns-clause-refused g c =
    reasons_of c.found_words.result c.found_words.ensures.refused (λ why. wrong_beside _ _ (subst (λ ws. IsParseOf (whole_app c.args.verb) (map g.S.AsStr.text ws) c.in-Ok.own) c.behind_first.ensures c.in-Ok.ensures.found) refl refl why)
