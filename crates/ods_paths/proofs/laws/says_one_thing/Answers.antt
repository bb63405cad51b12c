use Rattle.ods_paths.proofs.OneMeaning.{same_said}
use Rattle.ods_paths.proofs.laws.says_one_thing.Goals as goal

pub returns : goal.returns
returns c = same_said
