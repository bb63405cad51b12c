use Rattle.ods_space.proofs.Surveyed.{not_held}
use Rattle.ods_space.proofs.files.locate.Goals as goal

pub returns-in_err-survey_whole-clause-none : goal.returns-in_err-survey_whole-clause-none
returns-in_err-survey_whole-clause-none c = rw c.from_residual.ensures (λ lbn holds. c.in_err-survey_whole.ensures.none holds.blocks holds.file)

pub returns-clause-none : goal.returns-clause-none
returns-clause-none c =
    let some = c.in_ok-survey_whole.ensures.some in
    not_held c.args.disk.now.image.now c.args.disk.now.layout.now c.args.number c.args.vbn c.in_ok-survey_whole.field-0.found some.0 some.1 some.2.found
