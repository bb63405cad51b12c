use Rattle.ods_request.proofs.NameLaws.{entered_found}
use Rattle.ods_request.proofs.laws.entered_is_found.Goals as goal

pub returns : goal.returns
returns c = entered_found
