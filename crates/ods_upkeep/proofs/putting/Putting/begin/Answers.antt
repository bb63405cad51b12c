use Rattle.std.proofs.lemmas.Result.{err_from_is_err_and}
use Rattle.ods_upkeep.proofs.Beginning.{no_like, no_names, no_target, no_versions}
use Rattle.ods_upkeep.proofs.putting.Putting.begin.Goals as goal

pub returns-in_err-target : goal.returns-in_err-target
returns-in_err-target c =
    let v = c.args.volume.now in
    let p = err_from_is_err_and c.from_residual.result c.from_residual.ensures.1 in
    rw (p.1, p.2) (no_target v.image v.layout c.args.to c.args.several c.args.like c.args.replace c.count_of.result c.path_to.result.now c.count_of.ensures c.path_to.ensures _ c.in_err-target.ensures)

pub returns-in_err-facts : goal.returns-in_err-facts
returns-in_err-facts c =
    let v = c.args.volume.now in
    let p = err_from_is_err_and c.from_residual-in_err-facts.result c.from_residual-in_err-facts.ensures.1 in
    rw (p.1, p.2) (no_like v.image v.layout c.args.to c.args.several c.args.like c.args.replace c.count_of.result c.path_to.result.now c.count_of.ensures c.path_to.ensures _ c.in_ok-target.target c.in_ok-target.ensures
    c.in_err-facts.ensures)

pub returns-in_err-names : goal.returns-in_err-names
returns-in_err-names c =
    let v = c.args.volume.now in
    let p = err_from_is_err_and c.from_residual-in_err-names.result c.from_residual-in_err-names.ensures.1 in
    rw (p.1, p.2) (no_names v.image v.layout c.args.to c.args.several c.args.like c.args.replace c.count_of.result c.path_to.result.now c.count_of.ensures c.path_to.ensures _ c.in_ok-target.target c.in_ok-facts.facts
    c.in_ok-target.ensures c.in_ok-facts.ensures c.in_err-names.ensures)

pub returns-in_err-highest : goal.returns-in_err-highest
returns-in_err-highest c =
    let v = c.args.volume.now in
    let p = err_from_is_err_and c.from_residual-in_err-highest.result c.from_residual-in_err-highest.ensures.1 in
    rw (p.1, p.2) (no_versions v.image v.layout c.args.to c.args.several c.args.like c.args.replace c.count_of.result c.path_to.result.now c.count_of.ensures c.path_to.ensures _ c.in_ok-target.target c.in_ok-facts.facts
    c.keeps_versions-keeps.result c.in_ok-target.ensures c.in_ok-facts.ensures c.keeps_versions-keeps.ensures c.in_err-highest.ensures)
