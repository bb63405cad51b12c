use Rattle.ods_records.proofs.Standing.{fault_spells}
use Rattle.ods_records.proofs.FirstFault.{one_fault_first}
use Rattle.ods_records.proofs.laws.one_fault.Goals as goal

pub returns : goal.returns
returns c = λ kind bytes fault first. (
  λ other second. one_fault_first kind bytes fault other first second,
  λ records spelled. fault_spells kind bytes first.at fault first.standing records first.before first.there spelled,
)
