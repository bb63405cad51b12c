use Rattle.std.proofs.Common.{◌≡◌, false, true, refl}
use Rattle.std.proofs.lemmas.Result.{err_from_is_err_and}
use Rattle.ods_upkeep.proofs.Hosts.{is_no_name, is_unspelled, is_untyped}
use Rattle.ods_upkeep.proofs.host_names.host_name.Goals as goal

pub returns-then-is_no_name-clause-err : goal.returns-then-is_no_name-clause-err
returns-then-is_no_name-clause-err c = is_no_name c.args.name.now c.as_bytes-bytes.result.now c.as_bytes-bytes.ensures.value (c.if-is_no_name.ensures.0 refl)

pub returns-in-Some-clause-err : goal.returns-in-Some-clause-err
returns-in-Some-clause-err c =
    is_untyped c.args.name.now c.as_bytes-bytes.result.now c.as_bytes-bytes.ensures.value c.in-Some.character (λ none. (let clash : false ≡ true = c.if-is_no_name.ensures.1 none in absurd (cc))) c.in-Some.ensures

pub returns-in_err-name-clause-err : goal.returns-in_err-name-clause-err
returns-in_err-name-clause-err c =
    let p = err_from_is_err_and c.from_residual.result c.from_residual.ensures.1 in
    rw (p.1, p.2) (is_unspelled c.args.name.now c.as_bytes-bytes.result.now c.as_bytes-bytes.ensures.value _ c.parts.result.0.now c.parts.result.1.now
    (λ none. (let clash : false ≡ true = c.if-is_no_name.ensures.1 none in absurd (cc))) c.in_default.ensures c.parts.ensures c.in_err-name.ensures)
