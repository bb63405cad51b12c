use Rattle.ods_repair.proofs.TablesLaw.{tables_say_all}
use Rattle.ods_repair.proofs.laws.tables_say_all.Goals as goal

pub returns : goal.returns
returns c = tables_say_all
