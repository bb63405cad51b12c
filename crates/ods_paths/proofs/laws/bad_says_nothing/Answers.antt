use Rattle.ods_paths.proofs.OneMeaning.{bad_says}
use Rattle.ods_paths.proofs.laws.bad_says_nothing.Goals as goal

pub returns : goal.returns
returns c = bad_says
