use Rattle.ods_filing.proofs.ComeBack.{text_back}
use Rattle.ods_filing.proofs.laws.text_comes_back.Goals as goal

pub returns : goal.returns
returns c = text_back
