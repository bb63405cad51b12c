use Rattle.ods_request.proofs.FrameLaws.{others_stay}
use Rattle.ods_request.proofs.laws.other_files_stay.Goals as goal

pub returns : goal.returns
returns c = others_stay
