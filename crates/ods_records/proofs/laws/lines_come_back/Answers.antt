use Rattle.ods_records.proofs.LinesBack.{chosen_back}
use Rattle.ods_records.proofs.laws.lines_come_back.Goals as goal

pub returns : goal.returns
returns c = chosen_back
