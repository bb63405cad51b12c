use Rattle.ods_paths.proofs.FolderTexts.{none_of, some_of}
use Rattle.ods_paths.proofs.folders.unless_empty.Goals as goal

pub returns-then-is_empty : goal.returns-then-is_empty
returns-then-is_empty c = none_of c.is_empty.result c.args.text.now c.is_empty.ensures c.if-is_empty.true

pub returns : goal.returns
returns c = some_of c.is_empty.result c.args.text.now c.is_empty.ensures c.if-is_empty.false
