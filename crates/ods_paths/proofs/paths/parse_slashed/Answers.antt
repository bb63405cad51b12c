use Rattle.ods_paths.specs.Views.{said}
use Rattle.ods_paths.proofs.PathTexts.{all_directories, files_last}
use Rattle.ods_paths.proofs.paths.parse_slashed.Goals as goal

pub returns-then-names_directory : goal.returns-then-names_directory
returns-then-names_directory c = all_directories said c.args.text.now c.cut_last.result.1.now c.names_directory.result c.within.result c.cut_last.ensures.1 c.names_directory.ensures c.if-names_directory.true c.within.ensures

pub returns : goal.returns
returns c = files_last said c.args.text.now c.cut_last.result.0.now c.cut_last.result.1.now c.names_directory.result c.within-2.result c.cut_last.ensures.0 c.cut_last.ensures.1 c.names_directory.ensures c.if-names_directory.false c.within-2.ensures
