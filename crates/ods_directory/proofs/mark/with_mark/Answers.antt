use Rattle.std.proofs.Common.{rules}
use Rattle.ods_directory.specs.Mark.{marked}
use Rattle.ods_directory.proofs.mark.with_mark.Goals as goal

pub returns : goal.returns
unfolding marked
returns c = search rules
