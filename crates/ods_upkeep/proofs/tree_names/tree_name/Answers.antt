use Rattle.std.proofs.Common.{◌≡◌, ◌∙◌, false, true, refl, sym}
use Rattle.std.proofs.lemmas.Result.{err_from_is_err_and}
use Rattle.ods_upkeep.specs.HostNames.{IsNoName}
use Rattle.ods_upkeep.proofs.TreeNaming.{is_directorys, is_nameless, is_not_typed, is_tree_name, is_unsaid}
use Rattle.ods_upkeep.proofs.tree_names.tree_name.Goals as goal

pub returns-then-is_no_name : goal.returns-then-is_no_name
returns-then-is_no_name c = is_nameless c.args.name.now c.as_bytes-bytes.result.now c.as_bytes-bytes.ensures.value (c.if-is_no_name.ensures.0 refl)

pub returns-in-Some : goal.returns-in-Some
returns-in-Some c =
    is_not_typed c.args.name.now c.as_bytes-bytes.result.now c.as_bytes-bytes.ensures.value c.in-Some.character (λ none. (let clash : false ≡ true = c.if-is_no_name.ensures.1 none in absurd (cc))) c.in-Some.ensures

pub returns-in_err-name : goal.returns-in_err-name
returns-in_err-name c =
    let p = err_from_is_err_and c.from_residual.result c.from_residual.ensures.1 in
    rw (p.1, p.2)
    (is_unsaid c.args.name.now c.as_bytes-bytes.result.now c.as_bytes-bytes.ensures.value c.parts.result.0.now c.parts.result.1.now (λ none. (let clash : false ≡ true = c.if-is_no_name.ensures.1 none in absurd (cc))) c.in_default.ensures
    c.parts.ensures _ c.in_err-name.ensures)

pub returns-then-ext-eq-DIRECTORY_TYPE : goal.returns-then-ext-eq-DIRECTORY_TYPE
returns-then-ext-eq-DIRECTORY_TYPE c =
    is_directorys c.args.name.now c.as_bytes-bytes.result.now c.as_bytes-bytes.ensures.value c.parts.result.0.now c.parts.result.1.now (λ none. (let clash : false ≡ true = c.if-is_no_name.ensures.1 none in absurd (cc))) c.in_default.ensures
    c.parts.ensures c.in_ok-name.name c.in_ok-name.version c.in_ok-name.ensures (sym c.ext.ensures.value ∙ c.if-ext-eq-DIRECTORY_TYPE.true)

pub returns : goal.returns
returns c =
    is_tree_name c.args.name.now c.as_bytes-bytes.result.now c.as_bytes-bytes.ensures.value c.parts.result.0.now c.parts.result.1.now (λ none. (let clash : false ≡ true = c.if-is_no_name.ensures.1 none in absurd (cc))) c.in_default.ensures
    c.parts.ensures c.in_ok-name.name c.in_ok-name.version c.in_ok-name.ensures (λ is. c.if-ext-eq-DIRECTORY_TYPE.false (c.ext.ensures.value ∙ is))
