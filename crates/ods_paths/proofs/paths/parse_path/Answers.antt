use Rattle.ods_paths.specs.Views.{said}
use Rattle.ods_paths.proofs.FolderTexts.{some_text}
use Rattle.ods_paths.proofs.PathTexts.{of_device}
use Rattle.ods_paths.proofs.paths.parse_path.Goals as goal

pub returns : goal.returns
returns c = of_device said c.args.text.now c.past_device.result.now c.parse_here.result (some_text _ c.args.text.now c.is_empty.ensures c.if-is_empty.false) c.past_device.ensures c.parse_here.ensures
