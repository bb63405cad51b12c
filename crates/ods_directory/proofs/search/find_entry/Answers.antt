use Rattle.std.proofs.Common.{◌/◌}
use Rattle.ods_directory.specs.Entry.{entry_at}
use Rattle.ods_directory.proofs.Searches.{meant_found}
use Rattle.ods_directory.proofs.search.find_entry.Goals as goal

pub returns-clause-found : goal.returns-clause-found
returns-clause-found g c = meant_found (entry_at (g.B.DirBlocks.blocks c.args.blocks.now)) c.args.name.now c.args.pick (c.args.mark / 16) c.of-meant.result c.scan.new.into c.of-meant.ensures c.scan.ensures.after
