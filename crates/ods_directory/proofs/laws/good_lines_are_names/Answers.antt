use Rattle.ods_directory.proofs.Ordered.{good_lines_are_names}
use Rattle.ods_directory.proofs.laws.good_lines_are_names.Goals as goal

pub returns : goal.returns
returns c = good_lines_are_names
