use Rattle.ods_paths.proofs.PathTexts.{bad_files}
use Rattle.ods_paths.proofs.FolderTexts.{some_text}
use Rattle.ods_paths.proofs.paths.within.Goals as goal

pub returns-in-Err : goal.returns-in-Err
returns-in-Err c = bad_files c.args.separator c.args.dir.now c.args.more.now c.args.files.now c.in-Err.bad (some_text _ c.args.files.now c.is_empty.ensures c.if-is_empty.false) c.in-Err.ensures

pub returns-in-Ok : goal.returns-in-Ok
returns-in-Ok c = (c.in-Some.ensures, (some_text _ c.args.files.now c.is_empty.ensures c.if-is_empty.false, c.in-Ok.ensures))
