use Rattle.std.proofs.Common.{◌∙◌}
use Rattle.ods_directory.proofs.AnyNames.{names_there}
use Rattle.ods_directory.proofs.count.has_names.Goals as goal

pub returns : goal.returns
returns g c = c.is_some.ensures ∙ names_there (g.B.DirBlocks.blocks c.args.blocks.now) c.args.mark c.first_entry.result c.requires.directory c.first_entry.ensures
