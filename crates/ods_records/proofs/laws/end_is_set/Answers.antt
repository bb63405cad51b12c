use Rattle.ods_records.proofs.EndSet.{end_set}
use Rattle.ods_records.proofs.laws.end_is_set.Goals as goal

pub returns : goal.returns
returns c = end_set
