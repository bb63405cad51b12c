use Rattle.ods_filing.proofs.ComeBack.{bytes_back}
use Rattle.ods_filing.proofs.laws.bytes_come_back.Goals as goal

pub returns : goal.returns
returns c = bytes_back
