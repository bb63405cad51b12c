use Rattle.ods_request.proofs.NameLaws.{removed_gone}
use Rattle.ods_request.proofs.laws.removed_is_gone.Goals as goal

pub returns : goal.returns
returns c = removed_gone
