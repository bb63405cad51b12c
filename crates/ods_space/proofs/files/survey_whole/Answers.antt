use Rattle.std.proofs.Common.{ℕ, Option, length, subst}
use Rattle.ods_space.specs.Walk.{IsPast}
use Rattle.ods_space.proofs.Surveyed.{has_of_chain, not_whole}
use Rattle.ods_space.proofs.files.survey_whole.Goals as goal

pub returns-in_err-survey-clause-none : goal.returns-in_err-survey-clause-none
returns-in_err-survey-clause-none c = rw c.from_residual.ensures (λ blocks has. c.in_err-survey.ensures.none has.others blocks has.whole.chain)

pub returns-in-Some-clause-none : goal.returns-in-Some-clause-none
returns-in-Some-clause-none c blocks has =
    let found = c.in_ok-survey.ensures.some in
    let P : Option ℕ → Type 0 = λ o. IsPast (length c.args.disk.now.image.now) found.1 o in
    not_whole c.args.disk.now.image.now c.args.disk.now.layout.now c.args.number found.0 found.1 c.in-Some.field-0 blocks found.2 (subst P c.in-Some.is found.3.past) has

pub returns-in-None-clause-some : goal.returns-in-None-clause-some
returns-in-None-clause-some c =
    let found = c.in_ok-survey.ensures.some in
    let P : Option ℕ → Type 0 = λ o. IsPast (length c.args.disk.now.image.now) found.1 o in
    (found.1, has_of_chain c.args.disk.now.image.now c.args.disk.now.layout.now c.args.number found.0 found.1 c.requires found.2 (subst P c.in-None.is found.3.past), found.3)
