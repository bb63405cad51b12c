use Rattle.ods_request.proofs.FrameLaws.{default_kept}
use Rattle.ods_request.proofs.laws.default_stays.Goals as goal

pub returns : goal.returns
returns c = default_kept
