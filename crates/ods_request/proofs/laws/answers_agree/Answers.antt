use Rattle.ods_request.proofs.StepLaws.{agree}
use Rattle.ods_request.proofs.laws.answers_agree.Goals as goal

pub returns : goal.returns
returns c = agree
