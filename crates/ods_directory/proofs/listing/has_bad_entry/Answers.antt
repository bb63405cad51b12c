use Rattle.std.proofs.Common.{sym, ◌∙◌}
use Rattle.ods_directory.proofs.Checked.{badness}
use Rattle.ods_directory.proofs.listing.has_bad_entry.Goals as goal

pub returns : goal.returns
returns g c = badness (g.B.DirBlocks.blocks c.args.blocks.now) c.args.mark c.first_entry.result c.is_some.result c.first_entry.ensures c.is_some.ensures
