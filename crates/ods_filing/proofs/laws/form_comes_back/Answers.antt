use Rattle.ods_filing.proofs.ComeBack.{form_back}
use Rattle.ods_filing.proofs.laws.form_comes_back.Goals as goal

pub returns : goal.returns
returns c = form_back
