use Rattle.std.proofs.lemmas.Result.{err_from_is_err_and}
use Rattle.ods_filing.proofs.put.obey.Goals as goal

pub returns-in_err-_made-clause-err : goal.returns-in_err-_made-clause-err
returns-in_err-_made-clause-err c =
    let p = err_from_is_err_and c.from_residual.result c.from_residual.ensures.1 in
    rw (p.1, p.2) c.in_err-_made.ensures.refused

pub returns-clause-ok : goal.returns-clause-ok
returns-clause-ok c = (c.in_ok-_made._made, c.in_ok-_made.ensures.accepted)
