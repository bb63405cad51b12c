use Rattle.ods_look.proofs.opening.open_noted.Goals as goal

pub returns-in-Ok-clause-ok : goal.returns-in-Ok-clause-ok
returns-in-Ok-clause-ok c =
    let may = c.in-Ok.ensures.ok.0 in
    let is = c.noted.ensures in
    record { file = may.file; is = is; passes = λ C shown. may.passes is.lbns is.held C shown }
