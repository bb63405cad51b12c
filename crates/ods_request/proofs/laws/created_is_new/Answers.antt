use Rattle.ods_request.proofs.FrameLaws.{created_new}
use Rattle.ods_request.proofs.laws.created_is_new.Goals as goal

pub returns : goal.returns
returns c = created_new
