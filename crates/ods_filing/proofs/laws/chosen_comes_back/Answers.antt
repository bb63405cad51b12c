use Rattle.ods_filing.proofs.ComeBack.{chosen_back_again}
use Rattle.ods_filing.proofs.laws.chosen_comes_back.Goals as goal

pub returns : goal.returns
returns c = chosen_back_again
