use Rattle.ods_records.proofs.FirstFault.{records_or_first}
use Rattle.ods_records.proofs.laws.records_or_fault.Goals as goal

pub returns : goal.returns
returns c = records_or_first
