use Rattle.std.proofs.Common.{◌/◌}
use Rattle.ods_directory.specs.Entry.{entry_at}
use Rattle.ods_directory.proofs.Firsts.{first_found}
use Rattle.ods_directory.proofs.first.first_entry.Goals as goal

pub returns : goal.returns
returns g c = first_found c.args.kind (entry_at (g.B.DirBlocks.blocks c.args.blocks.now)) (c.args.mark / 16) c.of-first.result c.scan.new.into c.of-first.ensures c.scan.ensures.after
